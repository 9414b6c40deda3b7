use Rattle.std.proofs.Common.{◌≡◌, ◌++◌, map, drop}
use Rattle.store_tables.specs.Slots.{living}
use Rattle.store_tables.proofs.slots.live_ids.Given as goal

-- the ids so far and those of the slots that are left are those of all
abbrev pub invariant-loop-row : goal.invariant-loop-row
invariant-loop-row g l = l.ids ++ map g.E.Element.id_of (living (drop l.row l.slots)) ≡ map g.E.Element.id_of (living l.slots)
