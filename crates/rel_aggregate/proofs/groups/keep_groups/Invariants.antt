use Rattle.std.proofs.Common.{◌≡◌, All, length}
use Rattle.graph_model.specs.Lists.{Pairwise}
use Rattle.projection_spec.specs.RawArcs.{ArcInOrder}
use Rattle.projection_spec.specs.KeptArcs.{groups_of, kept_groups}
use Rattle.rel_aggregate.specs.Groups.{HasCells}
use Rattle.rel_aggregate.proofs.Rest.{onto}
use Rattle.rel_aggregate.proofs.groups.keep_groups.Given as goal

abbrev pub invariant-loop-rest : goal.invariant-loop-rest
invariant-loop-rest l =
    (onto l.kept (kept_groups l.props (groups_of l.grouped l.rest)) ≡ kept_groups l.props (groups_of l.grouped l.arcs)) × Pairwise ArcInOrder l.rest × All (HasCells l.props) l.rest

abbrev pub decreases-loop-rest : goal.decreases-loop-rest
decreases-loop-rest l = length l.rest
