use Rattle.std.proofs.Common.{◌≡◌, ℕ, ◌+◌, ◌<◌, false, get_or}
use Rattle.std.specs.Ordering.{is_lt}
use Rattle.csr_columns.specs.Rows.{arc_cmp}
use Rattle.gds_bench.proofs.graph.ascend.Given as goal

-- no arc so far comes before the one in front of it
abbrev pub invariant-loop-place : goal.invariant-loop-place
invariant-loop-place l = (k : ℕ) (d : ℕ × ℕ) → k + 1 < l.place → is_lt (arc_cmp (get_or l.ends (k + 1) d) (get_or l.ends k d)) ≡ false
