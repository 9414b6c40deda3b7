-- The arcs that lines say are those whose texts the lines are.
use Rattle.std.proofs.Common.{◌≡◌, ◌⊎◌, suc, ℕ, ◌<◌, ◌≤◌, ◌+◌, ◌^◌, ltb, nat_eq, cond, List, [], ◌∷◌, ◌++◌, map, length, get_or, take, drop, Some, None, Option, Ok, Err, Result, decimal, codes, refl, sym, ap, ap₂, ◌∙◌, inl, inr, arith, lt-ltb, ltb-true, append_assoc, length-drop}
use Rattle.std.specs.List.{AllByRecursion, starts_with, before_first, after_first, position_or_len}
use Rattle.std.proofs.Math.Seq.{drop-append-add, take-append_seam}
use Rattle.std.proofs.lemmas.Bool.{eqb-true}
use Rattle.std.proofs.lemmas.Fmt.{decimal_nonempty}
use Rattle.std.proofs.lemmas.List.Sums.{split_at_first, passes_at_first}
use Rattle.gds_session.specs.OnceText.{most_arcs, number_below, both, is_space, ends_of, arc_of, with_arc, arcs_of}
use Rattle.gds_session.specs.Printing.{JoinsNodes}
use Rattle.gds_session.proofs.Lines.{Lacks, starts_with-front}
use Rattle.gds_session.proofs.Numbers.{number_below-decimal, decimal-number_below, some_under_test, Lacks-decimal}

-- the text `rel S T`
abbrev pub arc_text : ℕ × ℕ → List ℕ
arc_text arc = codes "rel " ++ decimal arc.0 ++ codes " " ++ decimal arc.1

space_after : (s t : List ℕ) → Lacks 32 s → position_or_len is_space (s ++ (32 ∷ t)) ≡ length s
space_after [] t p = refl
space_after (b ∷ s) t p = rw (p.0, space_after s t p.1) (omega arith)

before_space : (s t : List ℕ) → Lacks 32 s → before_first is_space (s ++ (32 ∷ t)) ≡ s
before_space s t p = rw (space_after s t p) (take-append_seam s (32 ∷ t))

after_space : (s t : List ℕ) → Lacks 32 s → after_first is_space (s ++ (32 ∷ t)) ≡ t
after_space s t p = rw (space_after s t p) (drop-append-add s (32 ∷ t) 1)

split_at_space : (text s t : List ℕ) → before_first is_space text ≡ s → after_first is_space text ≡ t → 0 < length t → text ≡ s ++ (32 ∷ t)
split_at_space text s t before after filled =
    let inside : position_or_len is_space text < length text = omega (arith, length-drop (position_or_len is_space text + 1) text, ap length after) in
    let space = eqb-true (get_or text (position_or_len is_space text) 0) 32 (passes_at_first is_space text 0 inside) in
    split_at_first is_space text 0 inside ∙ ap₂ ◌++◌ before (ap₂ ◌∷◌ space after)

pub arc_of-arc_text : (nodes : ℕ) (arc : ℕ × ℕ) → nodes ≤ 2 ^ 64 → JoinsNodes nodes arc → arc_of nodes (arc_text arc) ≡ Some arc
arc_of-arc_text nodes arc few joins =
    let lacks = Lacks-decimal 32 arc.0 (omega arith) (omega (arith, joins.0)) in
    rw (append_assoc (decimal arc.0) (32 ∷ []) (decimal arc.1), before_space (decimal arc.0) (decimal arc.1) lacks, after_space (decimal arc.0) (decimal arc.1) lacks, number_below-decimal nodes arc.0 few joins.0, number_below-decimal nodes arc.1 few joins.1)

both_some : (first second : Option ℕ) (arc : ℕ × ℕ) → both first second ≡ Some arc → (first ≡ Some arc.0) × (second ≡ Some arc.1)
both_some None second arc h = absurd cc
both_some (Some a) None arc h = absurd cc
both_some (Some a) (Some b) arc h = (cc, cc)

record IsArcText (nodes : ℕ) (line : List ℕ) (arc : ℕ × ℕ) : Type 0 where
  text : line ≡ arc_text arc
  joins : JoinsNodes nodes arc

arc_text-arc_of : (nodes : ℕ) (line : List ℕ) (arc : ℕ × ℕ) → nodes ≤ 2 ^ 64 → arc_of nodes line ≡ Some arc → IsArcText nodes line arc
arc_text-arc_of nodes line arc few h =
    let known = some_under_test (starts_with nat_eq line (codes "rel ")) (ends_of nodes (drop 4 line)) arc h in
    let text = drop 4 line in
    let numbers = both_some (number_below nodes (before_first is_space text)) (number_below nodes (after_first is_space text)) arc known.1 in
    let source = decimal-number_below nodes (before_first is_space text) arc.0 few numbers.0 in
    let target = decimal-number_below nodes (after_first is_space text) arc.1 few numbers.1 in
    record {
      text = starts_with-front line (codes "rel ") known.0 ∙ ap (λ rest. codes "rel " ++ rest) (split_at_space text (decimal arc.0) (decimal arc.1) source.0 target.0 (decimal_nonempty arc.1 (omega arith)) ∙ sym (append_assoc (decimal arc.0) (32 ∷ []) (decimal arc.1)));
      joins = (source.1, target.1);
    }

record IsConsOfOk (found : Option (ℕ × ℕ)) (rest : Result (List (ℕ × ℕ)) ℕ) (arcs : List (ℕ × ℕ)) : Type 0 where
  arc : ℕ × ℕ
  others : List (ℕ × ℕ)
  found_is : found ≡ Some arc
  rest_is : rest ≡ Ok others
  arcs_is : arcs ≡ arc ∷ others

with_arc_ok : (found : Option (ℕ × ℕ)) (number : ℕ) (rest : Result (List (ℕ × ℕ)) ℕ) (arcs : List (ℕ × ℕ)) → with_arc found number rest ≡ Ok arcs → IsConsOfOk found rest arcs
with_arc_ok None number rest arcs h = absurd cc
with_arc_ok (Some arc) number (Ok others) arcs h = record { arc = arc; others = others; found_is = refl; rest_is = refl; arcs_is = cc }
with_arc_ok (Some arc) number (Err first) arcs h = absurd cc

pub arcs_of-texts : (nodes number : ℕ) (arcs : List (ℕ × ℕ)) → nodes ≤ 2 ^ 64 → AllByRecursion (JoinsNodes nodes) arcs → number + length arcs ≤ most_arcs + 2 → arcs_of nodes number (map arc_text arcs) ≡ Ok arcs
arcs_of-texts nodes number [] few joins room = refl
arcs_of-texts nodes number (arc ∷ arcs) few joins room =
    rw (lt-ltb number (most_arcs + 2) (omega arith), arc_of-arc_text nodes arc few joins.0, arcs_of-texts nodes (number + 1) arcs few joins.1 (omega arith))

pub record AreArcTexts (nodes number : ℕ) (lines : List (List ℕ)) (arcs : List (ℕ × ℕ)) : Type 0 where
  pub texts : lines ≡ map arc_text arcs
  pub joins : AllByRecursion (JoinsNodes nodes) arcs
  pub room : number ≤ most_arcs + 2 → number + length arcs ≤ most_arcs + 2

pub texts-arcs_of : (nodes number : ℕ) (lines : List (List ℕ)) (arcs : List (ℕ × ℕ)) → nodes ≤ 2 ^ 64 → arcs_of nodes number lines ≡ Ok arcs → AreArcTexts nodes number lines arcs
texts-arcs_of nodes number [] arcs few h = let none : arcs ≡ [] = cc in rw none (record { texts = refl; joins = tt; room = λ small. omega arith })
texts-arcs_of nodes number (line ∷ lines) arcs few h =
    let parts = with_arc_ok (cond (ltb number (most_arcs + 2)) (arc_of nodes line) None) number (arcs_of nodes (number + 1) lines) arcs h in
    let known = some_under_test (ltb number (most_arcs + 2)) (arc_of nodes line) parts.arc parts.found_is in
    let first = arc_text-arc_of nodes line parts.arc few known.1 in
    let below = ltb-true number (most_arcs + 2) known.0 in
    let rest = texts-arcs_of nodes (number + 1) lines parts.others few parts.rest_is in
    rw parts.arcs_is (record {
      texts = ap₂ ◌∷◌ first.text rest.texts;
      joins = (first.joins, rest.joins);
      room = λ small. omega (arith, rest.room);
    })

-- where a line says no arc: the lines before it do, and no lines that begin with those up to it are read
pub record AreRefused (nodes number : ℕ) (lines : List (List ℕ)) (k : ℕ) : Type 0 where
  pub skipped : ℕ
  pub k_is : k ≡ number + skipped
  pub inside : skipped < length lines
  pub arcs : List (ℕ × ℕ)
  pub right_before : arcs_of nodes number (take skipped lines) ≡ Ok arcs
  pub wrong_from_there : (others : List (List ℕ)) → take (suc skipped) others ≡ take (suc skipped) lines → arcs_of nodes number others ≡ Err k

with_arc_err : (found : Option (ℕ × ℕ)) (number : ℕ) (rest : Result (List (ℕ × ℕ)) ℕ) (k : ℕ) → with_arc found number rest ≡ Err k → ((found ≡ None) × (k ≡ number)) ⊎ ((arc : ℕ × ℕ) × (found ≡ Some arc) × (rest ≡ Err k))
with_arc_err None number rest k h = inl (refl, cc)
with_arc_err (Some arc) number (Ok others) k h = absurd cc
with_arc_err (Some arc) number (Err first) k h = inr (arc, refl, cc)

-- the arc of a line, unless the line is one too many
abbrev arc_at : ℕ → ℕ → List ℕ → Option (ℕ × ℕ)
arc_at nodes number line = cond (ltb number (most_arcs + 2)) (arc_of nodes line) None

wrong_here : (nodes number : ℕ) (line : List ℕ) → arc_at nodes number line ≡ None → (others : List (List ℕ)) → take 1 others ≡ line ∷ [] → arcs_of nodes number others ≡ Err number
wrong_here nodes number line none [] e = absurd cc
wrong_here nodes number line none (other ∷ others) e =
    let same : other ≡ line = cc in rw (same, none)

wrong_later : (nodes number : ℕ) (line : List ℕ) (lines : List (List ℕ)) (k : ℕ) (arc : ℕ × ℕ) → arc_at nodes number line ≡ Some arc → (rest : AreRefused nodes (number + 1) lines k) → (others : List (List ℕ)) → take (suc (suc rest.skipped)) others ≡ line ∷ take (suc rest.skipped) lines → arcs_of nodes number others ≡ Err k
wrong_later nodes number line lines k arc found rest [] e = absurd cc
wrong_later nodes number line lines k arc found rest (other ∷ others) e =
    let same : other ≡ line = cc in
    let tails : take (suc rest.skipped) others ≡ take (suc rest.skipped) lines = cc in
    rw (same, found, rest.wrong_from_there others tails)

AreRefused-here : (nodes number : ℕ) (line : List ℕ) (lines : List (List ℕ)) → arc_at nodes number line ≡ None → AreRefused nodes number (line ∷ lines) number
AreRefused-here nodes number line lines none = record {
  skipped = 0;
  k_is = omega arith;
  inside = omega arith;
  arcs = [];
  right_before = refl;
  wrong_from_there = wrong_here nodes number line none;
}

AreRefused-later : (nodes number : ℕ) (line : List ℕ) (lines : List (List ℕ)) (k : ℕ) (arc : ℕ × ℕ) → arc_at nodes number line ≡ Some arc → AreRefused nodes (number + 1) lines k → AreRefused nodes number (line ∷ lines) k
AreRefused-later nodes number line lines k arc found rest = record {
  skipped = suc rest.skipped;
  k_is = omega (arith, rest.k_is);
  inside = omega (arith, rest.inside);
  arcs = arc ∷ rest.arcs;
  right_before = rw (found, rest.right_before);
  wrong_from_there = wrong_later nodes number line lines k arc found rest;
}

pub AreRefused-arcs_of : (nodes number : ℕ) (lines : List (List ℕ)) (k : ℕ) → arcs_of nodes number lines ≡ Err k → AreRefused nodes number lines k
AreRefused-arcs_of nodes number [] k h = absurd cc
AreRefused-arcs_of nodes number (line ∷ lines) k h =
    elim (with_arc_err (arc_at nodes number line) number (arcs_of nodes (number + 1) lines) k h) [
      | inl here ↦ rw here.1 (AreRefused-here nodes number line lines here.0)
      | inr later ↦ AreRefused-later nodes number line lines k later.0 later.1 (AreRefused-arcs_of nodes (number + 1) lines k later.2)
    ]
