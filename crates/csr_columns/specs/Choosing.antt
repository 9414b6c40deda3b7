-- What choices choose of the columns of a projection.
--   chooses_name choice name        whether a choice has a name
--   chosen choice types             the chosen types
--   is_kept choice labels v         whether the node at a place has a chosen label
--   kept_flags choice labels n      the same of each node
--   IsWhole parts labels types type each node is chosen, and of the types this one alone, whose rows ascend
use Rattle.std.specs.Prelude.{◌≡◌, ℕ, Bool, true, List, [], ◌∷◌, map, filter, length, All, if◌then◌else◌, Option, None, Some}
use Rattle.std.specs.List.{list_any, range_with_len}
use Rattle.graph_model.specs.declared.graph.Choice.{Choice}
use Rattle.graph_model.specs.declared.graph.Choice.TheVariants.{All as Each, Of}
use Rattle.graph_model.specs.Projection.{is_among}
use Rattle.graph_model.specs.View.{is_undirected}
use Rattle.csr_columns.specs.Rows.{HasTargetsBelow, names_of}
use Rattle.csr_columns.specs.Order.{HasAscendingRows}
use Rattle.csr_columns.specs.Plain.{labels_at}
use Rattle.csr_columns.specs.declared.parts.Parts.{Parts}
use Rattle.csr_columns.specs.declared.parts.TypeColumns.{TypeColumns}

-- whether a choice has a name
abbrev pub chooses_name : Choice → List ℕ → Bool
chooses_name Each name = true
chooses_name (Of names) name = is_among names name

-- whether a choice has the name of a type
abbrev pub chooses_kind : Choice → TypeColumns → Bool
chooses_kind choice type = chooses_name choice type.kind

-- the chosen types
abbrev pub chosen : Choice → List TypeColumns → List TypeColumns
chosen choice types = filter (chooses_kind choice) types

-- the first of some types
abbrev pub first_of : List TypeColumns → Option TypeColumns
first_of [] = None
first_of (type ∷ types) = Some type

-- whether the rows of a type have a column under a key
abbrev pub has_column : List ℕ → TypeColumns → Bool
has_column key type = is_among (names_of type.arcs.columns) key

-- the first of types that isn't undirected
abbrev pub first_directed_kind : List TypeColumns → Option (List ℕ)
first_directed_kind [] = None
first_directed_kind (type ∷ types) = if is_undirected type.orientation then first_directed_kind types else Some type.kind

-- whether the node at a place has a chosen label
abbrev pub is_kept : Choice → List (List ℕ × List Bool) → ℕ → Bool
is_kept Each labels v = true
is_kept (Of names) labels v = list_any (is_among names) (labels_at labels v)

-- whether each node has a chosen label
abbrev pub kept_flags : Choice → List (List ℕ × List Bool) → ℕ → List Bool
kept_flags choice labels nodes = map (is_kept choice labels) (range_with_len 0 nodes)

-- each node is chosen, and of the types this one alone, whose rows ascend: a view has the ids and the rows as they stand
pub record IsWhole (parts : Parts) (labels types : Choice) (type : TypeColumns) : Type 0 where
  pub nodes : All (λ kept. kept ≡ true) (kept_flags labels parts.labels (length parts.ids))
  pub only : chosen types parts.types ≡ type ∷ []
  pub ascend : HasAscendingRows type.arcs.rows
  pub below : HasTargetsBelow type.arcs.rows
