use Rattle.std.proofs.Common.{◌≡◌, ◌-◌, ◌++◌, length, replicate, None}
use Rattle.store_tables.proofs.slots.fill.Given as goal

abbrev pub invariant-loop-row : goal.invariant-loop-row
invariant-loop-row g l = l.slots ≡ l.fn.slots ++ replicate (l._row - length l.fn.slots) None
