-- Projections as plain rows.
--   ProjectedNode                     a projected node: its id, its projected labels and a value for each node key
--   ProjectedArc                      a projected arc: the ids of its ends and a value for each key of its type
--   ProjectedType                     a projected type: its name, its orientation, its keys and its arcs
--   PlainProjection                   the projected nodes and types, with the projected labels and the node keys
--   is_among names name               whether a name is one of some names
--   under name entries                what stands under a name
--   value_for column id               the value of a column for an id
--   projected_arc_count p             the number of arcs of all types
--   with_column p key column          a projection with one more column
use Rattle.std.specs.Prelude.{ℕ, ◌+◌, ◌-◌, ◌^◌, ◌==◌, ℤ, negsuc, Bool, if◌then◌else◌, List, [], ◌∷◌, length, map, sum_by, count_by, Option, Some, None}
use Rattle.std.specs.List.{list_any, insert}
use Rattle.std.specs.Str.{bytes_eq}
use Rattle.std.specs.Ordering.{nat_cmp, is_lt}
use Rattle.std.specs.Cmp.Lexicographic.{slice_cmp}
use Rattle.graph_model.specs.declared.graph.Orientation.{Orientation}
use Rattle.graph_model.specs.declared.graph.Column.{Column}

-- the most arcs that a projection has
abbrev pub most_arcs : ℕ
most_arcs = 67108864

-- the value that stands where there is none: the least i64
abbrev pub missing_value : ℤ
missing_value = negsuc (2 ^ 63 - 1)

-- a projected node: its id, its projected labels in ascending order, and a value for each node key
pub record ProjectedNode : Type 0 where
  pub id : ℕ
  pub labels : List (List ℕ)
  pub values : List ℤ

-- a projected arc: the ids of its ends, and a value for each key of its type
pub record ProjectedArc : Type 0 where
  pub source : ℕ
  pub target : ℕ
  pub values : List ℤ

-- a projected type: its name, its orientation, its keys, and its arcs in order
pub record ProjectedType : Type 0 where
  pub name : List ℕ
  pub orientation : Orientation
  pub keys : List (List ℕ)
  pub arcs : List ProjectedArc

-- the projected nodes in ascending order of id, the projected labels and the node keys, each ascending,
-- and the projected types in ascending order of name
pub record PlainProjection : Type 0 where
  pub nodes : List ProjectedNode
  pub labels : List (List ℕ)
  pub keys : List (List ℕ)
  pub types : List ProjectedType

-- whether a name is one of some names
abbrev pub is_among : List (List ℕ) → List ℕ → Bool
is_among names name = list_any (bytes_eq name) names

-- what stands under a name: the first of that name
abbrev pub under : {A : Type 0} → List ℕ → List (List ℕ × A) → Option A
under name [] = None
under name (entry ∷ entries) = if bytes_eq entry.0 name then Some entry.1 else under name entries

-- the number of arcs of a type
abbrev pub type_arc_count : ProjectedType → ℕ
type_arc_count type = length type.arcs

-- the number of arcs of all types
abbrev pub projected_arc_count : PlainProjection → ℕ
projected_arc_count p = sum_by type_arc_count p.types

-- the value that stands beside an id, and the missing value where the id isn't there
abbrev pub value_beside : List ℕ → List ℤ → ℕ → ℤ
value_beside [] values id = missing_value
value_beside (first ∷ ids) [] id = missing_value
value_beside (first ∷ ids) (value ∷ values) id = if first == id then value else value_beside ids values id

-- the value of a column for an id, and the missing value where it has none
abbrev pub value_for : Column → ℕ → ℤ
value_for column id = value_beside column.ids column.values id

-- whether a name comes before another
abbrev pub name_before : List ℕ → List ℕ → Bool
name_before name other = is_lt (slice_cmp nat_cmp other name)

-- the place of a key among keys that ascend: behind those that come before it
abbrev pub place_among : List (List ℕ) → List ℕ → ℕ
place_among keys key = count_by (name_before key) keys

-- a node with the value of a column at a place
abbrev pub node_with_column : ℕ → Column → ProjectedNode → ProjectedNode
node_with_column place column node = record node { values = insert node.values place (value_for column node.id) }

-- a projection with one more column: the key in its order, and for each node the column's value at that place
abbrev pub with_column : PlainProjection → List ℕ → Column → PlainProjection
with_column p key column =
    record p { nodes = map (node_with_column (place_among p.keys key) column) p.nodes; keys = insert p.keys (place_among p.keys key) key }
