use Rattle.std.proofs.Common.{◌≡◌, take}
use Rattle.std.specs.Int.{int_min}
use Rattle.std.specs.List.{reduce}
use Rattle.projection_spec.specs.KeptArcs.{known_values}
use Rattle.rel_aggregate.proofs.values.least_value.Given as goal

abbrev pub invariant-loop-arc : goal.invariant-loop-arc
invariant-loop-arc l = l.least ≡ reduce int_min (known_values l.place l.default (take l.arc-index l.arcs))
