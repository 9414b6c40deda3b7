use Rattle.std.proofs.Common.{◌≡◌, take}
use Rattle.std.specs.Int.{int_max}
use Rattle.std.specs.List.{reduce}
use Rattle.projection_spec.specs.KeptArcs.{known_values}
use Rattle.rel_aggregate.proofs.values.greatest_value.Given as goal

abbrev pub invariant-loop-arc : goal.invariant-loop-arc
invariant-loop-arc l = l.greatest ≡ reduce int_max (known_values l.place l.default (take l.arc-index l.arcs))
