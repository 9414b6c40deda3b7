-- Rows of arcs, with values beside them.
--   ArcRows                        per node the targets of its arcs, and per key the values beside them
--   names_of columns               the names that stand before columns
--   LiesBelow nodes arc            both ends of an arc lie below a number of nodes
--   arc_cmp                        the order of arcs: by source, then by target
--   AreDistinct names              no name stands twice in a list
--   rows_of nodes arcs             the rows of arcs
--   values_of arcs values v        the values beside the arcs from v
--   arc_rows_of nodes arcs props   the rows of arcs, and of the values under each key
--   row_at rows v                  the row of a node
--   column_at columns place        the column at a place
--   row_in column v                the row of a node in a column, where there is one
--   arcs_of rows                   the arcs of rows
--   listed rows                    the items of rows, one row after another
--   HasTargetsBelow rows           the targets of all arcs lie below the number of nodes
--   IsBeside rows column           a column has a value beside each target of rows
--   HasColumnsBeside arcs          so has each column of arcs
--   turned_rows rows               every arc turned, and the values with it
use Rattle.std.specs.Prelude.{◌≡◌, ℕ, ℤ, ◌<◌, ◌≢◌, Bool, Option, Some, None, List, [], length, map, filter, slice_index_or, All, AllPairs}
use Rattle.std.specs.declared.cmp.Ordering.{Ordering}
use Rattle.std.specs.Ordering.{nat_cmp, ordering_then}
use Rattle.std.specs.List.{range_with_len, flat_map, zip}
use Rattle.graph_model.specs.Arcs.{leaves, targets_of}

-- the names that stand before columns
abbrev pub names_of : {A : Type 0} → List (List ℕ × A) → List (List ℕ)
names_of columns = map (λ column. column.0) columns

-- per node the targets of its arcs, and per key the values beside them
pub record ArcRows : Type 0 where
  pub rows : List (List ℕ)
  pub columns : List (List ℕ × List (List ℤ))

-- both ends of an arc lie below a number of nodes
abbrev pub LiesBelow : ℕ → ℕ × ℕ → Type 0
LiesBelow nodes arc = (arc.0 < nodes) × (arc.1 < nodes)

-- the order of arcs: by source, then by target
abbrev pub arc_cmp : ℕ × ℕ → ℕ × ℕ → Ordering
arc_cmp a b = ordering_then (nat_cmp a.0 b.0) (nat_cmp a.1 b.1)

-- no name stands twice in a list
abbrev pub AreDistinct : List (List ℕ) → Type 0
AreDistinct names = AllPairs (λ a b. a ≢ b) names

-- the rows of arcs: for each node the targets of the arcs from it, in the order of the arcs
abbrev pub rows_of : ℕ → List (ℕ × ℕ) → List (List ℕ)
rows_of nodes arcs = map (targets_of arcs) (range_with_len 0 nodes)

-- whether the arc that a value stands beside begins at v
abbrev pub is_beside : ℕ → (ℕ × ℕ) × ℤ → Bool
is_beside v entry = leaves v entry.0

-- the values beside the arcs from v, in the order of the arcs
abbrev pub values_of : List (ℕ × ℕ) → List ℤ → ℕ → List ℤ
values_of arcs values v = map (λ entry. entry.1) (filter (is_beside v) (zip arcs values))

-- a key with the rows of the values under it
abbrev pub column_of : ℕ → List (ℕ × ℕ) → List ℕ × List ℤ → List ℕ × List (List ℤ)
column_of nodes arcs prop = (prop.0, map (values_of arcs prop.1) (range_with_len 0 nodes))

-- the rows of arcs, and of the values under each key
abbrev pub arc_rows_of : ℕ → List (ℕ × ℕ) → List (List ℕ × List ℤ) → ArcRows
arc_rows_of nodes arcs props = record { rows = rows_of nodes arcs; columns = map (column_of nodes arcs) props }

-- the row of a node
abbrev pub row_at : {A : Type 0} → List (List A) → ℕ → List A
row_at rows v = slice_index_or rows v []

-- the column at a place
abbrev pub column_at : {A : Type 0} → List (List ℕ × List A) → ℕ → List A
column_at columns place = (slice_index_or columns place ([], [])).1

-- the row of a node in a column, where there is one
abbrev pub row_in : {A : Type 0} → Option (List (List A)) → ℕ → Option (List A)
row_in None v = None
row_in (Some column) v = Some (row_at column v)

-- an arc from v
abbrev pub arc_from : ℕ → ℕ → ℕ × ℕ
arc_from v target = (v, target)

-- the arcs of the row of v
abbrev pub arcs_at : List (List ℕ) → ℕ → List (ℕ × ℕ)
arcs_at rows v = map (arc_from v) (row_at rows v)

-- the arcs of rows: those of each row in order, one row after another
abbrev pub arcs_of : List (List ℕ) → List (ℕ × ℕ)
arcs_of rows = flat_map (arcs_at rows) (range_with_len 0 (length rows))

-- the items of rows, one row after another
abbrev pub listed : {A : Type 0} → List (List A) → List A
listed rows = flat_map (λ row. row) rows

-- a key with all values under it
abbrev pub listed_column : List ℕ × List (List ℤ) → List ℕ × List ℤ
listed_column column = (column.0, listed column.1)

-- an arc turned
abbrev pub turned : ℕ × ℕ → ℕ × ℕ
turned arc = (arc.1, arc.0)

-- every arc turned, and the values with it: arcs that are turned to one node stand in the order of the arcs
abbrev pub turned_rows : ArcRows → ArcRows
turned_rows arcs = arc_rows_of (length arcs.rows) (map turned (arcs_of arcs.rows)) (map listed_column arcs.columns)

-- a column has a value beside each target of rows
pub record IsBeside (rows : List (List ℕ)) (column : List (List ℤ)) : Type 0 where
  pub many : length column ≡ length rows
  pub long : (v : ℕ) → v < length rows → length (row_at column v) ≡ length (row_at rows v)

-- each column of arcs has a value beside each target
abbrev pub HasColumnsBeside : ArcRows → Type 0
HasColumnsBeside arcs = (place : ℕ) → place < length arcs.columns → IsBeside arcs.rows (column_at arcs.columns place)

-- the targets of all arcs lie below the number of nodes
pub record HasTargetsBelow (rows : List (List ℕ)) : Type 0 where
  pub below : (v : ℕ) → v < length rows → All (λ target. target < length rows) (row_at rows v)
