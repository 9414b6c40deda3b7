use Rattle.std.proofs.Common.{◌≡◌, drop}
use Rattle.projection_spec.specs.KeptArcs.{group_values}
use Rattle.rel_aggregate.proofs.Rest.{onto}
use Rattle.rel_aggregate.proofs.groups.keep_group.Given as goal

abbrev pub invariant-loop-place : goal.invariant-loop-place
invariant-loop-place l =
    onto l.values (group_values l.place (drop l.place l.props) l.arcs) ≡ group_values 0 l.props l.arcs
