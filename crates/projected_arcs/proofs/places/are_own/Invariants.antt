use Rattle.std.proofs.Common.{◌≡◌, ℕ, ◌<◌, Some}
use Rattle.projected_arcs.specs.Places.{slot_at}
use Rattle.projected_arcs.proofs.places.are_own.Given as goal

-- each id so far is its own place
abbrev pub invariant-loop-id : goal.invariant-loop-id
invariant-loop-id l = (k : ℕ) → k < l.id → slot_at l.slots k ≡ Some k
