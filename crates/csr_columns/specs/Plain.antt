-- Projections in columns, as plain rows.
--   labels_at labels v               the labels of the node at a place
--   values_at columns v              the values of the node at a place, one for each key
--   plain_arcs ids arcs              the arcs of rows, with their values
--   plain parts                      a projection as plain rows
--   parts_with_column p key column   a projection with one more column, in columns
use Rattle.std.specs.Prelude.{ℕ, ℤ, Bool, false, List, map, filter, length, slice_index, slice_index_or}
use Rattle.std.specs.List.{range_with_len, enumerate_from, insert}
use Rattle.graph_model.specs.Projection.{ProjectedNode, ProjectedArc, ProjectedType, PlainProjection, missing_value, place_among, value_for}
use Rattle.graph_model.specs.declared.graph.Column.{Column}
use Rattle.csr_columns.specs.Rows.{ArcRows, arcs_of, listed_column}
use Rattle.csr_columns.specs.Rows.{names_of}
use Rattle.csr_columns.specs.declared.parts.Parts.{Parts}
use Rattle.csr_columns.specs.declared.parts.TypeColumns.{TypeColumns}

-- whether the node at a place has a label
abbrev pub is_flagged : ℕ → List ℕ × List Bool → Bool
is_flagged v label = slice_index_or label.1 v false

-- the labels of the node at a place
abbrev pub labels_at : List (List ℕ × List Bool) → ℕ → List (List ℕ)
labels_at labels v = names_of (filter (is_flagged v) labels)

-- the value at a place of a column
abbrev pub value_of : ℕ → List ℕ × List ℤ → ℤ
value_of place column = slice_index_or column.1 place missing_value

-- the values at a place of columns, one for each key
abbrev pub values_at : List (List ℕ × List ℤ) → ℕ → List ℤ
values_at columns place = map (value_of place) columns

-- the node at a place
abbrev pub plain_node : Parts → ℕ → ProjectedNode
plain_node parts v =
    record { id = slice_index parts.ids v; labels = labels_at parts.labels v; values = values_at parts.columns v }

-- an arc beside its place among the arcs of rows: the ids of its ends, and its values
abbrev pub plain_arc : List ℕ → List (List ℕ × List ℤ) → ℕ × (ℕ × ℕ) → ProjectedArc
plain_arc ids columns entry =
    record { source = slice_index ids entry.1.0; target = slice_index ids entry.1.1; values = values_at columns entry.0 }

-- the arcs of rows, with their values
abbrev pub plain_arcs : List ℕ → ArcRows → List ProjectedArc
plain_arcs ids arcs = map (plain_arc ids (map listed_column arcs.columns)) (enumerate_from 0 (arcs_of arcs.rows))

-- a type
abbrev pub plain_type : List ℕ → TypeColumns → ProjectedType
plain_type ids type =
    record { name = type.kind; orientation = type.orientation; keys = names_of type.arcs.columns; arcs = plain_arcs ids type.arcs }

-- a projection as plain rows
abbrev pub plain : Parts → PlainProjection
plain parts = record {
  nodes = map (plain_node parts) (range_with_len 0 (length parts.ids));
  labels = names_of parts.labels;
  keys = names_of parts.columns;
  types = map (plain_type parts.ids) parts.types;
}

-- a projection with one more column: its values stand in the order of the ids, and all else is as it was
abbrev pub parts_with_column : Parts → List ℕ → Column → Parts
parts_with_column parts key column =
    record parts { columns = insert parts.columns (place_among (names_of parts.columns) key) (key, map (value_for column) parts.ids) }
