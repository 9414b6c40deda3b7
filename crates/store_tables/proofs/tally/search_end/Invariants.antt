use Rattle.std.proofs.Common.{◌-◌, ◌<◌, ◌≤◌, length, take}
use Rattle.store_tables.specs.NameRows.{IsReached}
use Rattle.store_tables.proofs.tally.search_end.Given as goal

abbrev pub invariant-loop-next : goal.invariant-loop-next
invariant-loop-next l = record { within : l.place < length l.rows; few : l.depth ≤ l.place; reached : IsReached l.name (take l.place l.rows) l.depth }

abbrev pub decreases-loop-next : goal.decreases-loop-next
decreases-loop-next l = length l.rows - l.place
