use Rattle.std.proofs.Common.{ℕ, ◌<◌, ◌≤◌, get_or}
use Rattle.csr_columns.proofs.adding.skip_below.Given as goal

-- the ids so far are below
abbrev pub invariant-loop-at : goal.invariant-loop-at
invariant-loop-at l = (k : ℕ) → l.from ≤ k → k < l.at → get_or l.ids k 0 < l.id
