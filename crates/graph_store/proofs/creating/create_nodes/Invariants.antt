use Rattle.std.proofs.Common.{◌≡◌, ◌+◌, ◌++◌, map, drop, length, Some}
use Rattle.std.specs.List.{AllByRecursion}
use Rattle.graph_model.specs.Change.{IsDistinctNode, created_nodes}
use Rattle.graph_store.proofs.creating.create_nodes.Given as goal

abbrev pub invariant-loop-new : goal.invariant-loop-new
invariant-loop-new l =
    (length l.slots ≡ length l.fn.slots + l.new-index)
    × (l.slots ++ map Some (created_nodes (length l.slots) (drop l.new-index l.news)) ≡ l.fn.slots ++ map Some (created_nodes (length l.fn.slots) l.news))
    × AllByRecursion IsDistinctNode (drop l.new-index l.news)
