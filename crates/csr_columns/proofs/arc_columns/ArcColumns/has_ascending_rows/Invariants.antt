use Rattle.std.proofs.Common.{ℕ, ◌<◌}
use Rattle.csr_columns.specs.Rows.{row_at}
use Rattle.csr_columns.specs.Order.{IsAscending}
use Rattle.csr_columns.proofs.arc_columns.ArcColumns.has_ascending_rows.Given as goal

-- each row so far ascends
abbrev pub invariant-loop-v : goal.invariant-loop-v
invariant-loop-v l = (v : ℕ) → v < l.v → IsAscending (row_at l.self.rows v)
