-- Rows that are their own reverse.
--   turned_arcs offsets targets                       the arcs of rows that are cut, turned
--   FindsArcs offsets targets columns place cursors   the turned arcs before a place stand at the front of their rows
--   IsMirrored offsets targets columns                the turned arcs and the values beside them are the rows again
use Rattle.std.specs.Prelude.{◌≡◌, ℕ, ℤ, pos, ◌+◌, ◌-◌, ◌<◌, List, length, map, take, drop, slice_index, slice_index_or, All}
use Rattle.std.specs.List.{range_with_len}
use Rattle.graph_model.specs.Arcs.{out_degree, targets_of}
use Rattle.csr_columns.specs.Rows.{arcs_of, turned, values_of}
use Rattle.csr_columns.specs.Offsets.{GroupsArcs, cut_rows}

-- the arcs of rows that are cut, turned
abbrev pub turned_arcs : List ℕ → List ℕ → List (ℕ × ℕ)
turned_arcs offsets targets = map turned (arcs_of (cut_rows offsets targets))

-- a column has at the front of each row the values beside the arcs before a place
abbrev pub FindsValues : List ℕ → List (ℕ × ℕ) → ℕ → ℕ → List ℤ → Type 0
FindsValues offsets arcs place nodes column =
    (v : ℕ) → v < nodes → take (out_degree (take place arcs) v) (drop (slice_index offsets v) column) ≡ values_of (take place arcs) (take place column) v

-- the turned arcs before a place stand at the front of their rows, up to a cursor in each, and so do the values beside them
pub record FindsArcs (offsets targets : List ℕ) (columns : List (List ℤ)) (place : ℕ) (cursors : List ℕ) : Type 0 where
  pub long : length cursors + 1 ≡ length offsets
  pub cursor : (v : ℕ) → v < length cursors → slice_index cursors v ≡ slice_index offsets v + out_degree (take place (turned_arcs offsets targets)) v
  pub row : (v : ℕ) → v < length cursors → take (out_degree (take place (turned_arcs offsets targets)) v) (drop (slice_index offsets v) targets) ≡ targets_of (take place (turned_arcs offsets targets)) v
  pub values : All (FindsValues offsets (turned_arcs offsets targets) place (length cursors)) columns

-- a column has equal values at two places
abbrev pub HasEqual : ℕ → ℕ → List ℤ → Type 0
HasEqual a b column = slice_index_or column a (pos 0) ≡ slice_index_or column b (pos 0)

-- a column is cut into the rows of the values beside the turned arcs
abbrev pub HasMirroredRows : List ℕ → List (ℕ × ℕ) → List ℤ → Type 0
HasMirroredRows offsets arcs column = cut_rows offsets column ≡ map (values_of arcs column) (range_with_len 0 (length offsets - 1))

-- the turned arcs and the values beside them are the rows again
pub record IsMirrored (offsets targets : List ℕ) (columns : List (List ℤ)) : Type 0 where
  pub grouped : GroupsArcs (length offsets - 1) (turned_arcs offsets targets) offsets targets
  pub values : All (HasMirroredRows offsets (turned_arcs offsets targets)) columns
