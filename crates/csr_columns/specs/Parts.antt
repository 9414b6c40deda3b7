-- The columns of a projection: what holds of them, and what is read from them.
--   FitTogether parts          ids and names ascend, each column is as long as the ids, and the limits are kept
--   arcs_in types              the number of arcs of types
--   flag_at labels name v      whether the node at a place has a label
--   value_at columns key v     the value of the node at a place under a key, where there is such a key
use Rattle.std.specs.Prelude.{◌≡◌, ℕ, ℤ, ◌≤◌, Bool, false, List, length, map, sum_by, slice_index_or, Option, None, Some, All}
use Rattle.std.specs.List.{zip}
use Rattle.std.specs.List.Sorted.{IsStrictlyIncreasing}
use Rattle.graph_model.specs.Lists.{Pairwise}
use Rattle.graph_model.specs.Names.{IsBefore}
use Rattle.graph_model.specs.Projection.{most_arcs, missing_value, under}
use Rattle.graph_model.specs.Graph.{most_nodes}
use Rattle.csr_columns.specs.Rows.{ArcRows, names_of}
use Rattle.csr_columns.specs.declared.parts.Parts.{Parts}
use Rattle.csr_columns.specs.declared.parts.TypeColumns.{TypeColumns}

-- the number of arcs of rows
abbrev pub arcs_in_rows : ArcRows → ℕ
arcs_in_rows arcs = sum_by length arcs.rows

-- the number of arcs of a type
abbrev pub arcs_in_type : TypeColumns → ℕ
arcs_in_type type = arcs_in_rows type.arcs

-- the number of arcs of types
abbrev pub arcs_in : List TypeColumns → ℕ
arcs_in types = sum_by arcs_in_type types

-- the name of a type
abbrev pub kind_of : TypeColumns → List ℕ
kind_of type = type.kind

-- the rows of a type are those of so many nodes
abbrev pub HasNodes : ℕ → TypeColumns → Type 0
HasNodes nodes type = length type.arcs.rows ≡ nodes

-- a list is so long
abbrev pub IsLong : {A : Type 0} → ℕ → List A → Type 0
IsLong n xs = length xs ≡ n

-- the columns under names
abbrev pub columns_of : {A : Type 0} → List (List ℕ × A) → List A
columns_of columns = map (λ column. column.1) columns

-- ids and names ascend, each column is as long as the ids, and the limits are kept
pub record FitTogether (parts : Parts) : Type 0 where
  pub ids_ascend : IsStrictlyIncreasing parts.ids
  pub labels_ascend : Pairwise IsBefore (names_of parts.labels)
  pub keys_ascend : Pairwise IsBefore (names_of parts.columns)
  pub types_ascend : Pairwise IsBefore (map kind_of parts.types)
  pub flags : All (IsLong (length parts.ids)) (columns_of parts.labels)
  pub values : All (IsLong (length parts.ids)) (columns_of parts.columns)
  pub rows : All (HasNodes (length parts.ids)) parts.types
  pub few_nodes : length parts.ids ≤ most_nodes
  pub few_arcs : arcs_in parts.types ≤ most_arcs

-- the parts that columns and their names show
abbrev pub parts_shown : List ℕ → List (List ℕ) → List (List Bool) → List (List ℕ) → List (List ℤ) → List TypeColumns → Parts
parts_shown ids labels flags keys columns types =
    record { ids = ids; labels = zip labels flags; columns = zip keys columns; types = types }

-- names and columns that stand in lists of their own fit together
pub record AreColumns (ids : List ℕ) (labels : List (List ℕ)) (flags : List (List Bool)) (keys : List (List ℕ)) (columns : List (List ℤ)) (types : List TypeColumns) : Type 0 where
  pub flags_named : length flags ≡ length labels
  pub columns_named : length columns ≡ length keys
  pub fit : FitTogether (parts_shown ids labels flags keys columns types)

-- the flag at a place, and false where there are no flags
abbrev pub flag_in : Option (List Bool) → ℕ → Bool
flag_in None v = false
flag_in (Some flags) v = slice_index_or flags v false

-- whether the node at a place has a label
abbrev pub flag_at : List (List ℕ × List Bool) → List ℕ → ℕ → Bool
flag_at labels name v = flag_in (under name labels) v

-- the value at a place, where there are values
abbrev pub value_in : Option (List ℤ) → ℕ → Option ℤ
value_in None v = None
value_in (Some values) v = Some (slice_index_or values v missing_value)

-- the value of the node at a place under a key, where there is such a key
abbrev pub value_at : List (List ℕ × List ℤ) → List ℕ → ℕ → Option ℤ
value_at columns key v = value_in (under key columns) v
