-- The arc that the first line of a text says, from the parts of that line.
use Rattle.std.proofs.Common.{◌≡◌, ℕ, ◌<◌, ◌≤◌, ◌^◌, List, [], ◌∷◌, ◌++◌, length, decimal, codes, ap, sym, ◌∙◌, arith, append_assoc, append-nil, length-append}
use Rattle.gds_session.specs.OnceText.{lines_of}
use Rattle.gds_session.specs.Reading.{IsArcLine}
use Rattle.gds_session.proofs.Lines.{lines_of-line, lines_of-last}
use Rattle.gds_session.proofs.Arcs.{arc_text, arc_of-arc_text}
use Rattle.gds_session.proofs.Acceptance.{Lacks-arc_text}

-- the parts of a line, one behind another, and what stands after them
pub arc_text-parts : (text ends rest after_source after_target : List ℕ) (source target : ℕ) → text ≡ codes "rel " ++ ends
    → ends ≡ decimal source ++ rest → rest ≡ codes " " ++ after_source → after_source ≡ decimal target ++ after_target
    → text ≡ arc_text (source, target) ++ after_target
arc_text-parts text ends rest after_source after_target source target word first space second =
    let tail : rest ≡ codes " " ++ (decimal target ++ after_target) = space ∙ ap (λ s. codes " " ++ s) second in
    let whole : text ≡ codes "rel " ++ (decimal source ++ (codes " " ++ (decimal target ++ after_target))) =
    word ∙ ap (λ s. codes "rel " ++ s) (first ∙ ap (λ s. decimal source ++ s) tail) in
    whole ∙ sym (append_assoc (codes "rel " ++ decimal source ++ codes " ") (decimal target) after_target
    ∙ append_assoc (codes "rel " ++ decimal source) (codes " ") (decimal target ++ after_target)
    ∙ append_assoc (codes "rel ") (decimal source) (codes " " ++ (decimal target ++ after_target)))

-- an arc's text with an LF after it is the first line
pub arc_line-feed : (nodes : ℕ) (text after : List ℕ) (source target : ℕ) → nodes ≤ 2 ^ 64 → source < nodes → target < nodes
    → text ≡ arc_text (source, target) ++ (10 ∷ after) → IsArcLine nodes text (source, target) after
arc_line-feed nodes text after source target few below_source below_target is = record {
  line = arc_text (source, target);
  lines = ap lines_of is ∙ lines_of-line (arc_text (source, target)) after (Lacks-arc_text nodes (source, target) few (below_source, below_target));
  says = arc_of-arc_text nodes (source, target) few (below_source, below_target);
  joins = (below_source, below_target);
  shorter = omega (arith, ap length is, length-append (arc_text (source, target)) (10 ∷ after));
}

-- an arc's text that ends the text is its only line
pub arc_line-last : (nodes : ℕ) (text after : List ℕ) (source target : ℕ) → nodes ≤ 2 ^ 64 → source < nodes → target < nodes
    → text ≡ arc_text (source, target) ++ after → length after ≡ 0 → IsArcLine nodes text (source, target) after
arc_line-last nodes text [] source target few below_source below_target is none = record {
  line = arc_text (source, target);
  lines = ap lines_of (is ∙ append-nil (arc_text (source, target)))
      ∙ lines_of-last 114 _ (Lacks-arc_text nodes (source, target) few (below_source, below_target));
  says = arc_of-arc_text nodes (source, target) few (below_source, below_target);
  joins = (below_source, below_target);
  shorter = omega (arith, ap length is);
}
arc_line-last nodes text (b ∷ after) source target few below_source below_target is none = absurd (omega arith)
