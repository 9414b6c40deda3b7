-- The places of ids.
--   place_of ids id           the place of an id among ids
--   slot_at slots id          the place that stands in an id's slot
--   AreSlots ids slots        in the slot of each id stands its place among ids
--   AreOwn slots              in the slot of each id stands the id
use Rattle.std.specs.Prelude.{◌≡◌, ℕ, ◌+◌, ◌-◌, ◌^◌, ◌<◌, ◌==◌, Bool, if◌then◌else◌, List, [], ◌∷◌, length, Option, Some, None, unwrap_or, slice_index_or}

-- the place of an id among ids, where the first of them has this place
abbrev pub place_from : ℕ → List ℕ → ℕ → Option ℕ
place_from first [] id = None
place_from first (x ∷ ids) id = if x == id then Some first else place_from (first + 1) ids id

-- the place of an id among ids
abbrev pub place_of : List ℕ → ℕ → Option ℕ
place_of ids id = place_from 0 ids id

-- what stands in a slot without a place
abbrev pub no_place : ℕ
no_place = 2 ^ 32 - 1

-- the place that a number stands for
abbrev pub as_place : ℕ → Option ℕ
as_place n = if n == no_place then None else Some n

-- the place that stands in an id's slot; none where there is no slot
abbrev pub slot_at : List ℕ → ℕ → Option ℕ
slot_at slots id = as_place (slice_index_or slots id no_place)

-- in the slot of each id stands its place among ids
abbrev pub AreSlots : List ℕ → List ℕ → Type 0
AreSlots ids slots = (id : ℕ) → slot_at slots id ≡ place_of ids id

-- in the slot of each id stands the id
abbrev pub AreOwn : List ℕ → Type 0
AreOwn slots = (id : ℕ) → id < length slots → slot_at slots id ≡ Some id

-- the place in an id's slot, and 0 where there is none
abbrev pub place_or_zero : List ℕ → ℕ → ℕ
place_or_zero slots id = unwrap_or (slot_at slots id) 0
