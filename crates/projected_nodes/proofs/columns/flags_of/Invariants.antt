use Rattle.std.proofs.Common.{◌≡◌, map, take}
use Rattle.projected_nodes.specs.Columns.{is_taken_by}
use Rattle.projected_nodes.proofs.columns.flags_of.Given as goal

-- the flags so far
abbrev pub invariant-loop-node : goal.invariant-loop-node
invariant-loop-node l = l.flags.items ≡ map (λ node. is_taken_by l.entry node.now) (take l.node-index l.nodes)
