use Rattle.std.proofs.Common.{◌≡◌, map, filter}
use Rattle.graph_model.specs.ById.{nodes_below}
use Rattle.projection_spec.specs.RawArcs.{is_projected}
use Rattle.projected_nodes.proofs.kept.kept_nodes.Given as goal

-- the kept nodes so far are those with ids below this one
abbrev pub invariant-loop-id : goal.invariant-loop-id
invariant-loop-id l = map (λ node. node.now) l.kept.items ≡ filter (is_projected l.entries) (nodes_below l.id l.from)
