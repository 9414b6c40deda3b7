-- Views in columns, as plain views.
--   ViewColumns                       the columns of a view
--   plain_view_of view                a view as a plain view
--   view_row view v                   the arcs of a view from a place
--   HasWeightsAmong view              the weights of a view are a column of its arcs
--   HasWeightsBeside view             each arc of a view with weights has one
use Rattle.std.specs.Prelude.{◌≡◌, ℕ, ℤ, ◌<◌, ◌≤◌, List, map, length, slice_index, Option, None, Some, IfSome}
use Rattle.std.specs.Option.{is_some}
use Rattle.std.specs.List.{zip}
use Rattle.std.specs.List.Sorted.{IsStrictlyIncreasing}
use Rattle.graph_model.specs.Graph.{most_nodes}
use Rattle.graph_model.specs.Projection.{most_arcs}
use Rattle.graph_model.specs.View.{ViewArc, PlainView}
use Rattle.csr_columns.specs.Rows.{ArcRows, IsBeside, arcs_at, arcs_of, listed, column_at, row_at}
use Rattle.csr_columns.specs.Parts.{arcs_in_rows}

-- the ids of a view, its arcs between places of ids, the values of its weight key beside the arcs, and the first chosen
-- type that isn't undirected
pub record ViewColumns : Type 0 where
  pub ids : List ℕ
  pub arcs : ArcRows
  pub weights : Option (List (List ℤ))
  pub directed : Option (List ℕ)

-- the weights at a place among the columns of arcs
abbrev pub weights_at : List (List ℕ × List (List ℤ)) → Option ℕ → Option (List (List ℤ))
weights_at columns None = None
weights_at columns (Some place) = Some (column_at columns place)

-- a view, as its columns show it
abbrev pub view_shown : List ℕ → ArcRows → Option ℕ → Option (List ℕ) → ViewColumns
view_shown ids arcs weight directed =
    record { ids = ids; arcs = arcs; weights = weights_at arcs.columns weight; directed = directed }

-- an arc without a weight, and an arc with one
abbrev pub bare_arc : List ℕ → ℕ × ℕ → ViewArc
bare_arc ids arc = record { source = slice_index ids arc.0; target = slice_index ids arc.1; weight = None }

abbrev pub heavy_arc : List ℕ → (ℕ × ℕ) × ℤ → ViewArc
heavy_arc ids entry = record { source = slice_index ids entry.0.0; target = slice_index ids entry.0.1; weight = Some entry.1 }

-- the arcs of rows with the weights beside them
abbrev pub plain_view_arcs : List ℕ → ArcRows → Option (List (List ℤ)) → List ViewArc
plain_view_arcs ids arcs None = map (bare_arc ids) (arcs_of arcs.rows)
plain_view_arcs ids arcs (Some weights) = map (heavy_arc ids) (zip (arcs_of arcs.rows) (listed weights))

-- a view as a plain view
abbrev pub plain_view_of : ViewColumns → PlainView
plain_view_of view = record {
  ids = view.ids;
  weighted = is_some view.weights;
  arcs = plain_view_arcs view.ids view.arcs view.weights;
  directed = view.directed;
}

-- the arcs from a place among some ids, with the weights beside them
abbrev pub row_arcs : List ℕ → List (List ℕ) → Option (List (List ℤ)) → ℕ → List ViewArc
row_arcs ids rows None v = map (bare_arc ids) (arcs_at rows v)
row_arcs ids rows (Some weights) v = map (heavy_arc ids) (zip (arcs_at rows v) (row_at weights v))

-- the arcs of a view from a place
abbrev pub view_row : ViewColumns → ℕ → List ViewArc
view_row view v = row_arcs view.ids view.arcs.rows view.weights v

-- the weights of a view are a column of its arcs
abbrev pub HasWeightsAmong : ViewColumns → Type 0
HasWeightsAmong view = IfSome view.weights (λ weights. (place : ℕ) × (place < length view.arcs.columns) × (weights ≡ column_at view.arcs.columns place))

-- each arc of a view with weights has one
abbrev pub HasWeightsBeside : ViewColumns → Type 0
HasWeightsBeside view = IfSome view.weights (IsBeside view.arcs.rows)

-- a weight key stands at a place among columns
abbrev pub StandsAmong : Option ℕ → ℕ → Type 0
StandsAmong None count = Unit {0}
StandsAmong (Some place) count = place < count

-- ids ascend, the rows are those of so many nodes, the weight key is there, and the limits are kept
pub record IsView (ids : List ℕ) (arcs : ArcRows) (weight : Option ℕ) : Type 0 where
  pub ids_ascend : IsStrictlyIncreasing ids
  pub rows : length arcs.rows ≡ length ids
  pub weighted : StandsAmong weight (length arcs.columns)
  pub few_nodes : length ids ≤ most_nodes
  pub few_arcs : arcs_in_rows arcs ≤ most_arcs
