use Rattle.std.proofs.Common.{ℕ, ◌+◌, ◌<◌, ◌≤◌, get_or}
use Rattle.csr_columns.proofs.columns.is_ascending.Given as goal

-- the numbers so far ascend
abbrev pub invariant-loop-place : goal.invariant-loop-place
invariant-loop-place l = (k : ℕ) → k + 1 < l.place → get_or l.row k 0 ≤ get_or l.row (k + 1) 0
