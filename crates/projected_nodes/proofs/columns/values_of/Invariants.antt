use Rattle.std.proofs.Common.{◌≡◌, map, take}
use Rattle.projected_nodes.specs.Columns.{value_under}
use Rattle.projected_nodes.proofs.columns.values_of.Given as goal

-- the values so far
abbrev pub invariant-loop-node : goal.invariant-loop-node
invariant-loop-node l = l.values.items ≡ map (λ node. value_under l.entries l.key node.now) (take l.node-index l.nodes)
