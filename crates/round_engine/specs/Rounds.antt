-- What rounds make of a column.
--   RoundsState        a kernel and its column
--   round next column  the column after a round
--   left rounds        the sum of the column, which falls with each round that lowers a value
use Rattle.std.specs.Prelude.{ℕ, List, length, map, sum}
use Rattle.std.specs.List.{range_with_len}

-- a kernel, and a value for each of its places
pub record RoundsState (K : Type 0) : Type 0 where
  pub kernel : K
  pub column : List ℕ

-- the next value at each place, all of them of the same old column
abbrev pub round : (List ℕ → ℕ → ℕ) → List ℕ → List ℕ
round next column = map (next column) (range_with_len 0 (length column))

-- the sum of the column
abbrev pub left : {K : Type 0} → RoundsState K → ℕ
left rounds = sum rounds.column
