use Rattle.std.proofs.Common.{◌≡◌, map, take}
use Rattle.projected_nodes.specs.Columns.{id_of}
use Rattle.projected_nodes.proofs.columns.ids_of.Given as goal

-- the ids so far
abbrev pub invariant-loop-node : goal.invariant-loop-node
invariant-loop-node l = l.ids.items ≡ map (λ node. id_of node.now) (take l.node-index l.nodes)
