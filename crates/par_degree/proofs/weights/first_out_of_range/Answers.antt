use Rattle.std.proofs.Common.{rules, ◌≡◌, ℕ, pos, ◌<◌, ◌≤◌, false, slice_index_or, w64, to_z-of_z, ⊎_elim, sym, ap, ◌∙◌, subst, arith}
use Rattle.std.proofs.lemmas.Bool.{cases_lt}
use Rattle.graph_model.specs.Degrees.{is_out_of_range}
use Rattle.par_degree.proofs.weights.first_out_of_range.Goals as goal

pub loop-at-init : goal.loop-at-init
loop-at-init c at below = absurd (omega arith)

pub returns-then-is_out_of_range : goal.returns-then-is_out_of_range
returns-then-is_out_of_range c =
    let weight = slice_index_or c.args.weights.now c.loop-at.at (pos 0) in
    let same = to_z-of_z {w = w64} {z = weight} (search rules) in
    (c.loop-at-test.true, ap is_out_of_range (sym same) ∙ sym c.is_out_of_range.ensures ∙ c.if-is_out_of_range.true, c.loop-at.invariant)

pub loop-at-preserved : goal.loop-at-preserved
loop-at-preserved c at below =
    let weight = slice_index_or c.args.weights.now c.loop-at.at (pos 0) in
    let same = to_z-of_z {w = w64} {z = weight} (search rules) in
    let here : is_out_of_range weight ≡ false = ap is_out_of_range (sym same) ∙ sym c.is_out_of_range.ensures ∙ c.if-is_out_of_range.false in
    ⊎_elim
    (λ (earlier : at < c.loop-at.at). c.loop-at.invariant at earlier)
    (λ (last : c.loop-at.at ≤ at). (let is : c.loop-at.at ≡ at = omega (arith, below, last) in subst (λ (k : ℕ). is_out_of_range (slice_index_or c.args.weights.now k (pos 0)) ≡ false) is here))
    (cases_lt at c.loop-at.at)

pub returns : goal.returns
returns c at below = c.loop-at.invariant at (omega (arith, below, c.loop-at-test.false))
