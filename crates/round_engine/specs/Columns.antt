-- Columns of whole numbers, one value a place.
use Rattle.std.specs.Prelude.{ℕ, ◌<◌, ◌≤◌, List, length, get_or}

-- the value at place v
abbrev pub value_at : List ℕ → ℕ → ℕ
value_at column v = get_or column v 0

-- no place of `lower` has a greater value than the same place of `upper`
abbrev pub NowhereGreater : List ℕ → List ℕ → Type 0
NowhereGreater lower upper = (v : ℕ) → v < length upper → value_at lower v ≤ value_at upper v

-- some place has a smaller value now than before
abbrev pub FallsSomewhere : List ℕ → List ℕ → Type 0
FallsSomewhere before now = (v : ℕ) × (v < length before) × (value_at now v < value_at before v)

-- each value is sound at its place
abbrev pub AllSound : (ℕ → ℕ → Type 0) → List ℕ → Type 0
AllSound IsSoundAt column = (v : ℕ) → v < length column → IsSoundAt v (value_at column v)
