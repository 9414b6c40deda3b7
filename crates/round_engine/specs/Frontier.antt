-- What the engine keeps between rounds, and what its loops have done so far.
use Rattle.std.specs.Prelude.{◌≡◌, ◌⊎◌, ℕ, ◌<◌, ◌≤◌, Bool, true, false, List, length, take, slice_index_or}
use Rattle.std.specs.List.{All, Contains}
use Rattle.round_engine.specs.Columns.{value_at}

-- each place stands in the list, or is its own next value
abbrev pub IsFrontier : (List ℕ → ℕ → ℕ) → List ℕ → List ℕ → Type 0
IsFrontier next column places = (v : ℕ) → v < length column → Contains places v ⊎ (next column v ≡ value_at column v)

-- a place stands in the list, with all that it touches
abbrev pub IsIn : (ℕ → List ℕ) → List ℕ → ℕ → Type 0
IsIn touched places u = Contains places u × All (Contains places) (touched u)

-- the engine's parts: the frontier is the first `count` of the places, and no place is marked
pub record IsRunning (size : ℕ) (next : List ℕ → ℕ → ℕ) (column places : List ℕ) (marks : List Bool) (count : ℕ) : Type 0 where
  pub column_long : length column ≡ size
  pub places_long : length places ≡ size
  pub marks_long : length marks ≡ size
  pub within : count ≤ size
  pub in_range : All (λ v. v < size) (take count places)
  pub unmarked : All (λ mark. mark ≡ false) marks
  pub frontier : IsFrontier next column (take count places)

-- the value at each listed place is its next one now, no other place has changed, and those that fell are listed
pub record IsSettled (next : ℕ → ℕ) (before now places lowered : List ℕ) : Type 0 where
  pub done : All (λ v. value_at now v ≡ next v) places
  pub others : (v : ℕ) → v < length before
      → (value_at now v ≡ value_at before v) ⊎ (Contains lowered v × (value_at now v ≡ next v))
  pub fell : All (λ v. (v < length before) × (value_at now v < value_at before v)) lowered

-- the mark at a place is set
abbrev pub IsMarked : List Bool → ℕ → Type 0
IsMarked marks v = slice_index_or marks v false ≡ true

-- what was marked before is marked now
abbrev pub MarksStay : List Bool → List Bool → Type 0
MarksStay before now = (v : ℕ) → IsMarked before v → IsMarked now v
