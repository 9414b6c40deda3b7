use Rattle.std.proofs.Common.{◌≡◌, map, take}
use Rattle.projected_nodes.specs.Columns.{label_column}
use Rattle.projected_nodes.proofs.columns.labels_of.Given as goal

-- the labels so far
abbrev pub invariant-loop-entry : goal.invariant-loop-entry
invariant-loop-entry l = l.labels.items ≡ map (label_column (map (λ node. node.now) l.nodes)) (take l.entry-index l.entries)
