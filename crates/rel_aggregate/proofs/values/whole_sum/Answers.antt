use Rattle.std.proofs.Common.{◌+ℤ◌, arith}
use Rattle.std.proofs.lemmas.Int.{ints}
use Rattle.rel_aggregate.proofs.Known.{known_more}
use Rattle.rel_aggregate.proofs.values.whole_sum.Goals as goal

pub loop-arc-preserved : goal.loop-arc-preserved
loop-arc-preserved c =
    (rw (c.added-sum.ensures.sum, c.loop-arc.invariant.0, c.known_value.ensures) (known_more ◌+ℤ◌ c.args.place c.args.default c.args.arcs.now c.loop-arc.arc-index c.arc-item.result c.loop-arc-test.true c.arc-item.is), omega (arith, ints), omega (arith, ints))
