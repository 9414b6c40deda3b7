-- The least of a value and of the values at some places of a column.
use Rattle.std.specs.Prelude.{ℕ, min, List, [], ◌∷◌}
use Rattle.round_engine.specs.Columns.{value_at}

-- the least of a value and of the values at these places
abbrev pub least_of : List ℕ → ℕ → List ℕ → ℕ
least_of column least [] = least
least_of column least (place ∷ places) = least_of column (min least (value_at column place)) places
