use Rattle.std.proofs.Common.{rules, ℤ, pos, ◌+ℤ◌, slice_index_or, w64, FitsSigned, sym, ap, ◌∙◌, arith}
use Rattle.std.proofs.lemmas.Int.{ints}
use Rattle.par_degree.proofs.Summing.{in-range, sum-more, sum-whole}
use Rattle.par_degree.proofs.counting.weight_sum.Goals as goal

pub overflow_add-sum : goal.overflow_add-sum
overflow_add-sum c =
    let weight = slice_index_or c.args.weights.now c.loop-weight.weight-index (pos 0) in
    let fits : FitsSigned w64 weight = search rules in
    let taken = in-range weight (c.requires.taken c.loop-weight.weight-index c.loop-weight-test.true) in
    omega (arith, ints, taken.0, taken.1, c.loop-weight.invariant.1, c.loop-weight.invariant.2, c.loop-weight-test.true, c.requires.few)

pub loop-weight-preserved : goal.loop-weight-preserved
loop-weight-preserved c =
    let weight = slice_index_or c.args.weights.now c.loop-weight.weight-index (pos 0) in
    let fits : FitsSigned w64 weight = search rules in
    let taken = in-range weight (c.requires.taken c.loop-weight.weight-index c.loop-weight-test.true) in (
      omega (arith, ints, c.loop-weight.invariant.0) ∙ ap (λ (z : ℤ). z +ℤ weight) c.loop-weight.invariant.0 ∙ sym (sum-more c.args.weights.now c.loop-weight.weight-index c.loop-weight-test.true),
      omega (arith, ints, taken.0, c.loop-weight.invariant.1, c.loop-weight.invariant.2, c.loop-weight-test.true, c.requires.few),
      omega (arith, ints, taken.0, taken.1, c.loop-weight.invariant.1, c.loop-weight.invariant.2, c.loop-weight-test.true, c.requires.few),
    )

pub returns : goal.returns
returns c = c.loop-weight.invariant.0 ∙ sum-whole c.args.weights.now c.loop-weight.weight-index c.loop-weight-test.false
