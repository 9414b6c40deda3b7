-- Rows that stand in parts, one part after another.
use Rattle.std.specs.Prelude.{◌≡◌, ℕ, ◌<◌, ◌≤◌, List, [], ◌∷◌, ◌++◌, length}

-- the rows of all parts
abbrev pub joined : {A : Type 0} → List (List A) → List A
joined [] = []
joined (part ∷ parts) = part ++ joined parts

-- no part has more rows than there is room for, and each but the last has as many
abbrev pub IsFilled : {A : Type 0} → ℕ → List (List A) → Type 0
IsFilled room [] = Unit {0}
IsFilled room (part ∷ parts) = (length part ≤ room) × (0 < length parts → length part ≡ room) × IsFilled room parts

-- how many rows the last part has, and this number where there is no part
abbrev pub last_length : {A : Type 0} → ℕ → List (List A) → ℕ
last_length none [] = none
last_length none (part ∷ parts) = last_length (length part) parts

-- the parts are filled, and this is the number of their rows
pub record IsKept {A : Type 0} (room : ℕ) (parts : List (List A)) (len : ℕ) : Type 0 where
  pub counted : len ≡ length (joined parts)
  pub filled : IsFilled room parts
