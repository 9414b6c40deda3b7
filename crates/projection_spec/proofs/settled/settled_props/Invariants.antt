use Rattle.std.proofs.Common.{◌≡◌, map}
use Rattle.projection_spec.specs.Projected.{settled_prop}
use Rattle.projection_spec.proofs.settled.settled_props.Given as goal

abbrev pub invariant-loop-prop : goal.invariant-loop-prop
invariant-loop-prop l = l.settled ≡ map (settled_prop l.aggregation) l.yielded
