use Rattle.std.proofs.Common.{◌≡◌, ℕ, length, take}
use Rattle.projected_arcs.specs.Places.{slot_at, place_of}
use Rattle.projected_arcs.proofs.places.Places.of.Given as goal

-- in the slot of each id stands its place among the ids so far
abbrev pub invariant-loop-place : goal.invariant-loop-place
invariant-loop-place l = record {
  places : (id : ℕ) → slot_at l.slots.items id ≡ place_of (take l.place l.ids) id;
  many : length l.slots.items ≡ l.fn.below;
}
