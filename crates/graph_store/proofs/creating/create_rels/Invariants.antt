use Rattle.std.proofs.Common.{◌≡◌, ◌+◌, ◌++◌, map, drop, length, Some}
use Rattle.std.specs.List.{AllByRecursion}
use Rattle.graph_model.specs.Change.{IsDistinctRel, created_rels}
use Rattle.graph_store.proofs.creating.create_rels.Given as goal

abbrev pub invariant-loop-new : goal.invariant-loop-new
invariant-loop-new l =
    (length l.slots ≡ length l.fn.slots + l.new-index)
    × (l.slots ++ map Some (created_rels l.first (length l.slots) (drop l.new-index l.news)) ≡ l.fn.slots ++ map Some (created_rels l.first (length l.fn.slots) l.news))
    × AllByRecursion (IsDistinctRel l.count) (drop l.new-index l.news)
