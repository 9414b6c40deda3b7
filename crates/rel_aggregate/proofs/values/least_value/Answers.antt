use Rattle.std.specs.Int.{int_min}
use Rattle.rel_aggregate.proofs.Known.{known_more}
use Rattle.rel_aggregate.proofs.values.least_value.Goals as goal

pub loop-arc-preserved : goal.loop-arc-preserved
loop-arc-preserved c =
    rw (c.lesser-least.ensures, c.loop-arc.invariant, c.known_value.ensures) (known_more int_min c.args.place c.args.default c.args.arcs.now c.loop-arc.arc-index c.arc-item.result c.loop-arc-test.true c.arc-item.is)
