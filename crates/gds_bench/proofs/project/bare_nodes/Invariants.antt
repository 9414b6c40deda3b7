use Rattle.std.specs.List.{AllByRecursion}
use Rattle.graph_model.specs.Change.{IsDistinctNode}
use Rattle.gds_bench.proofs.project.bare_nodes.Given as goal

-- the labels and the keys of each node so far are distinct
abbrev pub invariant-loop-node : goal.invariant-loop-node
invariant-loop-node l = AllByRecursion IsDistinctNode l.nodes.items
