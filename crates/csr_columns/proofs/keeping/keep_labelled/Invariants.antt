use Rattle.std.proofs.Common.{◌≡◌, ℕ, ◌<◌, ◌||◌, false, length, get_or}
use Rattle.csr_columns.proofs.Chosen.{any_label}
use Rattle.csr_columns.proofs.keeping.keep_labelled.Given as goal

-- the nodes that have one of the names among the labels so far, and those that have one among the rest
abbrev pub invariant-loop-place : goal.invariant-loop-place
invariant-loop-place l = (v : ℕ) → v < length l.kept → (get_or l.kept v false || any_label l.names l.labels l.flags l.place v) ≡ any_label l.names l.labels l.flags 0 v
