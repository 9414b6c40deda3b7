-- An accepted text is a printing, a printing is accepted, and a refused one is refused at its first wrong line.
use Rattle.std.proofs.Common.{◌≡◌, suc, ℕ, ◌<◌, ◌≤◌, ◌+◌, ◌-◌, ◌^◌, max, nat_eq, List, [], ◌∷◌, ◌++◌, map, length, take, drop, Some, None, Option, Ok, Err, Result, decimal, codes, refl, sym, ap, ap₂, ◌∙◌, inl, inr, arith}
use Rattle.std.specs.List.{AllByRecursion, flat_map, starts_with}
use Rattle.gds_session.specs.OnceText.{most_nodes, lines_of, number_below, node_count_of, arcs_of, degree_lines, degrees_text, body_text, text_of_lines}
use Rattle.gds_session.specs.Printing.{printing, arc_line, IsPrinting, JoinsNodes, IsSmallGraph, AcceptedIsPrinting, PrintingIsAccepted, RefusedAtFirstWrongLine}
use Rattle.gds_session.proofs.Lines.{Lacks, Lacks-append, AreFilled, unlines, unlines-lines_of, lines_of-unlines, lines_of-unlines_cut, starts_with-front}
use Rattle.gds_session.proofs.Numbers.{number_below-decimal, decimal-number_below, some_under_test, Lacks-decimal}
use Rattle.gds_session.proofs.Arcs.{arc_text, arcs_of-texts, texts-arcs_of, AreRefused, AreRefused-arcs_of}

-- the text `nodes N`
abbrev node_text : ℕ → List ℕ
node_text nodes = codes "nodes " ++ decimal nodes

node_count_of-node_text : (nodes : ℕ) → nodes ≤ most_nodes → node_count_of (node_text nodes) ≡ Some nodes
node_count_of-node_text nodes few =
    number_below-decimal (most_nodes + 1) nodes (omega arith) (omega arith)

node_text-node_count_of : (line : List ℕ) (nodes : ℕ) → node_count_of line ≡ Some nodes → (line ≡ node_text nodes) × (nodes ≤ most_nodes)
node_text-node_count_of line nodes h =
    let known = some_under_test (starts_with nat_eq line (codes "nodes ")) (number_below (most_nodes + 1) (drop 6 line)) nodes h in
    let number = decimal-number_below (most_nodes + 1) (drop 6 line) nodes (omega arith) known.1 in
    (starts_with-front line (codes "nodes ") known.0 ∙ ap (λ rest. codes "nodes " ++ rest) number.0, omega (arith, number.1))

-- the lines of a printing
abbrev printed_lines : ℕ → List (ℕ × ℕ) → List (List ℕ)
printed_lines nodes arcs = node_text nodes ∷ map arc_text arcs

unlines-arc_texts : (arcs : List (ℕ × ℕ)) → unlines (map arc_text arcs) ≡ flat_map arc_line arcs
unlines-arc_texts [] = refl
unlines-arc_texts (arc ∷ arcs) = ap (λ rest. arc_line arc ++ rest) (unlines-arc_texts arcs)

unlines-printed_lines : (nodes : ℕ) (arcs : List (ℕ × ℕ)) → unlines (printed_lines nodes arcs) ≡ printing nodes arcs
unlines-printed_lines nodes arcs = ap (λ rest. node_text nodes ++ codes "\n" ++ rest) (unlines-arc_texts arcs)

pub Lacks-arc_text : (nodes : ℕ) (arc : ℕ × ℕ) → nodes ≤ 2 ^ 64 → JoinsNodes nodes arc → Lacks 10 (arc_text arc)
Lacks-arc_text nodes arc few joins =
    let source = Lacks-decimal 10 arc.0 (omega arith) (omega (arith, joins.0)) in
    let target = Lacks-decimal 10 arc.1 (omega arith) (omega (arith, joins.1)) in
    (refl, (refl, (refl, (refl, Lacks-append 10 (decimal arc.0 ++ codes " ") (decimal arc.1) (Lacks-append 10 (decimal arc.0) (codes " ") source (refl, tt)) target))))

AreFilled-arc_texts : (nodes : ℕ) (arcs : List (ℕ × ℕ)) → nodes ≤ 2 ^ 64 → AllByRecursion (JoinsNodes nodes) arcs → AreFilled (map arc_text arcs)
AreFilled-arc_texts nodes [] few joins = tt
AreFilled-arc_texts nodes (arc ∷ arcs) few joins =
    ((omega arith, Lacks-arc_text nodes arc few joins.0), AreFilled-arc_texts nodes arcs few joins.1)

AreFilled-printed_lines : (nodes : ℕ) (arcs : List (ℕ × ℕ)) → IsSmallGraph nodes arcs → AreFilled (printed_lines nodes arcs)
AreFilled-printed_lines nodes arcs small =
    let lacks = Lacks-decimal 10 nodes (omega arith) (omega arith) in
    ((omega arith, (refl, (refl, (refl, (refl, (refl, (refl, lacks))))))), AreFilled-arc_texts nodes arcs (omega arith) small.ends)

-- a printing has those lines
lines_of-printing : (bytes : List ℕ) (nodes : ℕ) (arcs : List (ℕ × ℕ)) → IsSmallGraph nodes arcs → IsPrinting bytes nodes arcs → lines_of bytes ≡ printed_lines nodes arcs
lines_of-printing bytes nodes arcs small (inl e) =
    ap lines_of (e ∙ sym (unlines-printed_lines nodes arcs)) ∙ lines_of-unlines (printed_lines nodes arcs) (AreFilled-printed_lines nodes arcs small)
lines_of-printing bytes nodes arcs small (inr e) =
    lines_of-unlines_cut bytes (printed_lines nodes arcs) (AreFilled-printed_lines nodes arcs small) (e ∙ sym (unlines-printed_lines nodes arcs))

text_of_printed_lines : (nodes : ℕ) (arcs : List (ℕ × ℕ)) → IsSmallGraph nodes arcs → text_of_lines (printed_lines nodes arcs) ≡ Ok (degree_lines nodes arcs)
text_of_printed_lines nodes arcs small =
    rw (node_count_of-node_text nodes small.few_nodes, arcs_of-texts nodes 2 arcs (omega arith) small.ends (omega (arith, small.few_arcs)))

pub printing_is_accepted : PrintingIsAccepted
printing_is_accepted bytes nodes arcs small is =
    ap text_of_lines (lines_of-printing bytes nodes arcs small is) ∙ text_of_printed_lines nodes arcs small

-- the lines are those of a printing, and the text is what is printed of it
record AreAccepted (lines : List (List ℕ)) (text : List ℕ) : Type 0 where
  nodes : ℕ
  arcs : List (ℕ × ℕ)
  small : IsSmallGraph nodes arcs
  lines_are : lines ≡ printed_lines nodes arcs
  text_is : text ≡ degree_lines nodes arcs

degrees_text_ok : (nodes : ℕ) (found : Result (List (ℕ × ℕ)) ℕ) (text : List ℕ) → degrees_text nodes found ≡ Ok text → (arcs : List (ℕ × ℕ)) × (found ≡ Ok arcs) × (text ≡ degree_lines nodes arcs)
degrees_text_ok nodes (Ok arcs) text h = (arcs, refl, cc)
degrees_text_ok nodes (Err number) text h = absurd cc

AreAccepted-body : (first : List ℕ) (count : Option ℕ) (rest : List (List ℕ)) (text : List ℕ) → node_count_of first ≡ count → body_text count rest ≡ Ok text → AreAccepted (first ∷ rest) text
AreAccepted-body first None rest text is h = absurd cc
AreAccepted-body first (Some nodes) rest text is h =
    let said = node_text-node_count_of first nodes is in
    let known = degrees_text_ok nodes (arcs_of nodes 2 rest) text h in
    let read = texts-arcs_of nodes 2 rest known.0 (omega (arith, said.1)) known.1 in
    record {
      nodes = nodes;
      arcs = known.0;
      small = record { few_nodes = said.1; few_arcs = omega (arith, read.room); ends = read.joins };
      lines_are = ap₂ ◌∷◌ said.0 read.texts;
      text_is = known.2;
    }

AreAccepted-lines : (lines : List (List ℕ)) (text : List ℕ) → text_of_lines lines ≡ Ok text → AreAccepted lines text
AreAccepted-lines [] text h = absurd cc
AreAccepted-lines (first ∷ rest) text h = AreAccepted-body first (node_count_of first) rest text refl h

IsPrinting-lines : (bytes : List ℕ) (nodes : ℕ) (arcs : List (ℕ × ℕ)) → lines_of bytes ≡ printed_lines nodes arcs → IsPrinting bytes nodes arcs
IsPrinting-lines bytes nodes arcs e =
    let printed = ap unlines e ∙ unlines-printed_lines nodes arcs in
    elim (unlines-lines_of bytes) [ inl whole ↦ inl (whole ∙ printed) | inr cut ↦ inr (cut ∙ printed) ]

pub accepted_is_printing : AcceptedIsPrinting
accepted_is_printing bytes text h =
    let a = AreAccepted-lines (lines_of bytes) text h in
    (a.nodes, a.arcs, a.small, IsPrinting-lines bytes a.nodes a.arcs a.lines_are, a.text_is)

-- line k of these is the first that is wrong
record IsFirstWrong (lines : List (List ℕ)) (k : ℕ) : Type 0 where
  counted : 1 ≤ k
  within : k ≤ max 1 (length lines)
  right_before : 1 < k → (nodes : ℕ) × (arcs : List (ℕ × ℕ)) × IsSmallGraph nodes arcs × (take (k - 1) lines ≡ printed_lines nodes arcs)
  wrong_from_there : (others : List (List ℕ)) → take k others ≡ take k lines → text_of_lines others ≡ Err k

no_lines : (others : List (List ℕ)) → take 1 others ≡ [] → text_of_lines others ≡ Err 1
no_lines [] e = refl
no_lines (other ∷ others) e = absurd cc

IsFirstWrong-none : IsFirstWrong [] 1
IsFirstWrong-none = record {
  counted = omega arith;
  within = omega arith;
  right_before = λ more. absurd (omega arith);
  wrong_from_there = no_lines;
}

wrong_first : (first : List ℕ) (rest : List (List ℕ)) → node_count_of first ≡ None → (others : List (List ℕ)) → take 1 others ≡ take 1 (first ∷ rest) → text_of_lines others ≡ Err 1
wrong_first first rest none [] e = absurd cc
wrong_first first rest none (other ∷ others) e = let same : other ≡ first = cc in rw (same, none)

IsFirstWrong-first : (first : List ℕ) (rest : List (List ℕ)) → node_count_of first ≡ None → IsFirstWrong (first ∷ rest) 1
IsFirstWrong-first first rest none = record {
  counted = omega arith;
  within = omega arith;
  right_before = λ more. absurd (omega arith);
  wrong_from_there = wrong_first first rest none;
}

wrong_arc : (first : List ℕ) (nodes : ℕ) (rest : List (List ℕ)) (k : ℕ) → node_count_of first ≡ Some nodes → (r : AreRefused nodes 2 rest k) → (others : List (List ℕ)) → take (suc (suc r.skipped)) others ≡ take (suc (suc r.skipped)) (first ∷ rest) → text_of_lines others ≡ Err k
wrong_arc first nodes rest k is r [] e = absurd cc
wrong_arc first nodes rest k is r (other ∷ others) e =
    let same : other ≡ first = cc in
    let tails : take (suc r.skipped) others ≡ take (suc r.skipped) rest = cc in
    rw (same, is, r.wrong_from_there others tails)

IsFirstWrong-arc : (first : List ℕ) (nodes : ℕ) (rest : List (List ℕ)) (k : ℕ) → node_count_of first ≡ Some nodes → AreRefused nodes 2 rest k → IsFirstWrong (first ∷ rest) k
IsFirstWrong-arc first nodes rest k is r =
    let said = node_text-node_count_of first nodes is in
    let before = texts-arcs_of nodes 2 (take r.skipped rest) r.arcs (omega (arith, said.1)) r.right_before in
    let k_is : k ≡ suc (suc r.skipped) = omega (arith, r.k_is) in
    let k_before : k - 1 ≡ suc r.skipped = omega arith in
    record {
      counted = omega arith;
      within = omega (arith, r.inside);
      right_before = λ more. (nodes, r.arcs, record { few_nodes = said.1; few_arcs = omega (arith, before.room); ends = before.joins }, rw k_before (ap₂ ◌∷◌ said.0 before.texts));
      wrong_from_there = λ others e. wrong_arc first nodes rest k is r others (rw k_is at e);
    }

degrees_text_err : (nodes : ℕ) (found : Result (List (ℕ × ℕ)) ℕ) (k : ℕ) → degrees_text nodes found ≡ Err k → found ≡ Err k
degrees_text_err nodes (Ok arcs) k h = absurd cc
degrees_text_err nodes (Err number) k h = cc

IsFirstWrong-body : (first : List ℕ) (count : Option ℕ) (rest : List (List ℕ)) (k : ℕ) → node_count_of first ≡ count → body_text count rest ≡ Err k → IsFirstWrong (first ∷ rest) k
IsFirstWrong-body first None rest k is h =
    let one : 1 ≡ k = cc in rw (← one) (IsFirstWrong-first first rest is)
IsFirstWrong-body first (Some nodes) rest k is h =
    IsFirstWrong-arc first nodes rest k is (AreRefused-arcs_of nodes 2 rest k (degrees_text_err nodes (arcs_of nodes 2 rest) k h))

IsFirstWrong-lines : (lines : List (List ℕ)) (k : ℕ) → text_of_lines lines ≡ Err k → IsFirstWrong lines k
IsFirstWrong-lines [] k h = let one : 1 ≡ k = cc in rw (← one) IsFirstWrong-none
IsFirstWrong-lines (first ∷ rest) k h = IsFirstWrong-body first (node_count_of first) rest k refl h

Ok-not-Err : (text : List ℕ) (k : ℕ) → Ok text ≡ Err k → ⊥
Ok-not-Err text k e = cc

pub refused_at_first_wrong_line : RefusedAtFirstWrongLine
refused_at_first_wrong_line bytes k h =
    let wrong = IsFirstWrong-lines (lines_of bytes) k h in
    record {
      counted = wrong.counted;
      within = wrong.within;
      right_before = λ more. (let b = wrong.right_before more in (b.0, b.1, b.2, ap unlines b.3 ∙ unlines-printed_lines b.0 b.1));
      wrong_from_there = λ other nodes arcs small is e. absurd (Ok-not-Err _ k (sym (printing_is_accepted other nodes arcs small is) ∙ wrong.wrong_from_there (lines_of other) e));
    }
