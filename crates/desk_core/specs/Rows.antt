-- Rows of the store, one id after another, and rows of columns, one place after another.
use Rattle.std.specs.Prelude.{ℕ, ℤ, Bool, false, if◌then◌else◌, List, slice_index, slice_index_or, Option, Some, None, find}
use Rattle.std.specs.List.{filter_map, range_with_len}
use Rattle.graph_model.specs.Projection.{missing_value}
use Rattle.std.specs.Option.{option_map, option_and_then}
use Rattle.graph_model.specs.declared.graph.Choice.{Choice}
use Rattle.graph_model.specs.declared.graph.PropertyGraph.{PropertyGraph}
use Rattle.graph_model.specs.Graph.{is_node}
use Rattle.desk_model.specs.Step.{chosen_row}

-- the row of the node of an id, where it lives, is chosen and stores the key
abbrev pub row_at : List ℕ → Choice → PropertyGraph → ℕ → Option (ℕ × ℤ)
row_at key labels g id = option_and_then (chosen_row key labels) (find (is_node id) g.nodes)

-- the value of a row
abbrev pub value_of_row : Option (ℕ × ℤ) → Option ℤ
value_of_row row = option_map (λ pair. pair.1) row

-- the row at a place, where it is kept
abbrev pub kept_row : List ℕ → List Bool → List ℤ → ℕ → Option (ℕ × ℤ)
kept_row ids kept values v = if slice_index_or kept v false then Some (slice_index ids v, slice_index_or values v missing_value) else None

-- the rows at the places below one that are kept
abbrev pub kept_below : List ℕ → List Bool → List ℤ → ℕ → List (ℕ × ℤ)
kept_below ids kept values v = filter_map (kept_row ids kept values) (range_with_len 0 v)
