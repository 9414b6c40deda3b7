-- Names with the number under each, in rows. The search for a name begins at the first row, turns high or low at each row
-- of another name, and goes on at the row that follows there, which stands behind it.
--   turns_high name depth              whether the search for a name turns high after so many rows
--   next_place row high                the place of the row that follows on a turn
--   followed row high place            the row with another that follows it on a turn
--   found_from                         what the search for a name finds in rows, where it looks for the row of a place
--   row_count name row                 the number in a row, where it is that of a name
--   count_under rows name              the number under a name
--   told_count name row                the number in a row where it has a name, and else nothing
--   IsSearchable rows                  the search for a name finds the number under it
--   IsReached name front depth         the search for a name comes past rows
--   EndsAt name rows place depth       the search for a name ends at a row
--   GoesOn name rows place depth next  the search for a name goes on from a row to the next
use Rattle.std.specs.Prelude.{◌≡◌, ℕ, ◌+◌, ◌/◌, ◌%◌, ◌^◌, ◌==◌, ◌<◌, ◌≤◌, ◌⊎◌, Bool, false, if◌then◌else◌, List, [], ◌∷◌, ◌++◌, length, Option, Some, None, unwrap_or, slice_index, slice_get, sum_by}
use Rattle.std.specs.Str.{bytes_eq}
use Rattle.store_tables.specs.declared.name_row.NameRow.{NameRow}

-- whether the search for a name turns high after so many rows: by the bits of its bytes, one after another, and low past the
-- last one
unfoldable pub turns_high : List ℕ → ℕ → Bool
turns_high name depth = (slice_index name (depth / 8) / 2 ^ (depth % 8)) % 2 == 1

-- the place of the row that follows on a turn, and 0 where none does
abbrev pub next_place : NameRow → Bool → ℕ
next_place row high = unwrap_or (if high then row.high else row.low) 0

-- the row with another that follows it on a turn
abbrev pub followed : NameRow → Bool → ℕ → NameRow
followed row high place = record row { low = (if high then row.low else Some place); high = (if high then Some place else row.high) }

-- what the search for a name finds in rows, of which the first has the place `first`, where it looks for the row of a place
-- and came past so many
abbrev pub found_from : List ℕ → List NameRow → ℕ → ℕ → ℕ → ℕ
found_from name [] first place depth = 0
found_from name (row ∷ rows) first place depth =
    if place == first
    then (if bytes_eq name row.name then row.count else found_from name rows (first + 1) (next_place row (turns_high name depth)) (depth + 1))
    else found_from name rows (first + 1) place depth

-- the number in a row, where it is that of a name
abbrev pub row_count : List ℕ → NameRow → ℕ
row_count name row = if bytes_eq name row.name then row.count else 0

-- the number under a name
abbrev pub count_under : List NameRow → List ℕ → ℕ
count_under rows name = sum_by (row_count name) rows

-- the search for a name finds the number under it
pub record IsSearchable (rows : List NameRow) : Type 0 where
  pub finds : (name : List ℕ) → found_from name rows 0 0 0 ≡ count_under rows name

-- the search for a name comes past some rows and so many turns to the place behind them, whatever rows stand there
pub record IsReached (name : List ℕ) (front : List NameRow) (depth : ℕ) : Type 0 where
  pub goes_on : (rest : List NameRow) → found_from name (front ++ rest) 0 0 0 ≡ found_from name rest (length front) (length front) depth

-- the search for a name ends at the row of a place: it has the name, or none of the rows follows it
pub record EndsAt (name : List ℕ) (rows : List NameRow) (place depth : ℕ) : Type 0 where
  pub last : (row : NameRow) → slice_get rows place ≡ Some row → bytes_eq name row.name ≡ false → (next_place row (turns_high name depth) ≤ place) ⊎ (length rows ≤ next_place row (turns_high name depth))

-- the search for a name goes on from the row of a place to the next one
pub record GoesOn (name : List ℕ) (rows : List NameRow) (place depth next : ℕ) : Type 0 where
  pub apart : (row : NameRow) → slice_get rows place ≡ Some row → (bytes_eq name row.name ≡ false) × (next ≡ next_place row (turns_high name depth))
  pub behind : place < next
  pub within : next < length rows

-- what is told of the row of a place: its number where it has a name, and else nothing
abbrev pub told_count : List ℕ → NameRow → Option ℕ
told_count name row = if bytes_eq name row.name then Some row.count else None
