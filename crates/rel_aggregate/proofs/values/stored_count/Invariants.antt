use Rattle.std.proofs.Common.{◌≡◌, take, count_by}
use Rattle.projection_spec.specs.KeptArcs.{stores}
use Rattle.rel_aggregate.proofs.values.stored_count.Given as goal

abbrev pub invariant-loop-arc : goal.invariant-loop-arc
invariant-loop-arc l = l.count ≡ count_by (stores l.place) (take l.arc-index l.arcs)
