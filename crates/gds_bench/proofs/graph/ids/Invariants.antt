use Rattle.std.proofs.Common.{◌≡◌, ℕ, ◌<◌, length, get_or}
use Rattle.gds_bench.proofs.graph.ids.Given as goal

-- each id so far stands at its own place
abbrev pub invariant-loop-id : goal.invariant-loop-id
invariant-loop-id l = (length l.ids.items ≡ l.id) × ((k : ℕ) → k < l.id → get_or l.ids.items k 0 ≡ k)
