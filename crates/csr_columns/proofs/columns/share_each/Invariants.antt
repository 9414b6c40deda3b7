use Rattle.std.proofs.Common.{◌≡◌}
use Rattle.csr_columns.proofs.columns.share_each.Given as goal

-- the columns so far
abbrev pub invariant-loop-column : goal.invariant-loop-column
invariant-loop-column g l = l.shared ≡ l.yielded
