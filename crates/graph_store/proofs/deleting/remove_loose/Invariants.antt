use Rattle.std.proofs.Common.{◌≡◌, ℕ, ◌+◌, ◌++◌, map, take, drop, sum_by}
use Rattle.graph_model.specs.declared.graph.Rel.{Rel}
use Rattle.store_tables.specs.Slots.{slot_count, kept}
use Rattle.graph_store.specs.Edits.{ends_live}
use Rattle.graph_store.proofs.deleting.remove_loose.Given as goal

abbrev pub invariant-loop-row : goal.invariant-loop-row
invariant-loop-row l =
    (l.rels ≡ map (kept (ends_live l.nodes)) (take l.row l.fn.rels) ++ drop l.row l.fn.rels)
    × ((weight : Rel → ℕ) → sum_by (slot_count weight) l.rels + sum_by weight l.gone ≡ sum_by (slot_count weight) l.fn.rels + sum_by weight l.fn.gone)
