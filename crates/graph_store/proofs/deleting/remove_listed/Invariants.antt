use Rattle.std.proofs.Common.{◌≡◌, ℕ, ◌+◌, map, take, sum_by}
use Rattle.store_tables.specs.Slots.{slot_count}
use Rattle.graph_store.specs.Edits.{edit_slot, gone}
use Rattle.graph_store.proofs.deleting.remove_listed.Given as goal

abbrev pub invariant-loop-id : goal.invariant-loop-id
invariant-loop-id g l =
    (l.slots ≡ map (edit_slot g.E.Element.id_of gone (take l.id-index l.ids)) l.fn.slots)
    × ((weight : g.row.E.Denot → ℕ) → sum_by (slot_count weight) l.slots + sum_by weight l.gone ≡ sum_by (slot_count weight) l.fn.slots + sum_by weight l.fn.gone)
