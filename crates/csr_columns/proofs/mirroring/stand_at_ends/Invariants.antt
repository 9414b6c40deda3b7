use Rattle.std.proofs.Common.{◌≡◌, ℕ, ◌+◌, ◌<◌, slice_index}
use Rattle.csr_columns.proofs.mirroring.stand_at_ends.Given as goal

-- the cursors so far stand at the ends of their rows
abbrev pub invariant-loop-v : goal.invariant-loop-v
invariant-loop-v l = (k : ℕ) → k < l.v → slice_index l.cursors k ≡ slice_index l.offsets (k + 1)
