use Rattle.std.specs.Int.{int_max}
use Rattle.rel_aggregate.proofs.Known.{known_more}
use Rattle.rel_aggregate.proofs.values.greatest_value.Goals as goal

pub loop-arc-preserved : goal.loop-arc-preserved
loop-arc-preserved c =
    rw (c.greater-greatest.ensures, c.loop-arc.invariant, c.known_value.ensures) (known_more int_max c.args.place c.args.default c.args.arcs.now c.loop-arc.arc-index c.arc-item.result c.loop-arc-test.true c.arc-item.is)
