use Rattle.std.proofs.Common.{arith, ap, ◌∙◌}
use Rattle.projection_spec.specs.KeptArcs.{kept_arc}
use Rattle.rel_aggregate.specs.Groups.{group_from}
use Rattle.rel_aggregate.proofs.Rest.{values_all, kept_arc-first}
use Rattle.rel_aggregate.proofs.groups.keep_group.Goals as goal

pub returns-clause-ok : goal.returns-clause-ok
returns-clause-ok c =
    let all = values_all c.loop-place.values c.loop-place.place c.args.props.now c.args.arcs.now (omega arith) c.loop-place.invariant in
    ap (kept_arc (group_from c.args.arcs.now)) all ∙ kept_arc-first c.args.arcs.now c.index-arcs-0.result c.loop-place.values c.requires.some c.index-arcs-0.is c.requires.least_first
