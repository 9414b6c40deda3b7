use Rattle.std.proofs.Common.{◌≡◌, map, take}
use Rattle.projected_nodes.specs.Columns.{key_column}
use Rattle.projected_nodes.proofs.columns.columns_of.Given as goal

-- the columns so far
abbrev pub invariant-loop-key : goal.invariant-loop-key
invariant-loop-key l = l.columns.items ≡ map (key_column l.entries (map (λ node. node.now) l.nodes)) (take l.key-index l.keys)
