-- The type that an entry gives among nodes of these ids.
--   arcs_among ids g entry         its raw arcs
--   type_among ids g entry         its type, or why it can't be
--   grouped_columns kept at props  the keys of arcs that are kept for groups, each with a value for every arc
--   RowsGive ids entry raws rows   rows are those of the type that an entry makes of raw arcs
use Rattle.std.specs.Prelude.{◌≡◌, ℕ, ◌+◌, ℤ, Bool, ◌&&◌, List, [], ◌∷◌, map, filter, is_some, slice_index_or, Result, Ok}
use Rattle.std.specs.List.{flat_map}
use Rattle.graph_model.specs.declared.graph.Rel.{Rel}
use Rattle.graph_model.specs.declared.graph.PropertyGraph.{PropertyGraph}
use Rattle.graph_model.specs.declared.refusal.Refusal.{Refusal}
use Rattle.graph_model.specs.Lists.{in_order}
use Rattle.graph_model.specs.Projection.{ProjectedType, missing_value}
use Rattle.projection_spec.specs.declared.arcs.RawArc.{RawArc}
use Rattle.projection_spec.specs.declared.arcs.Grouped.{Grouped}
use Rattle.projection_spec.specs.declared.entries.RelProp.{RelProp}
use Rattle.projection_spec.specs.Fields.{RelFields}
use Rattle.projection_spec.specs.RawArcs.{is_asked_for, arcs_of, arc_before}
use Rattle.projection_spec.specs.KeptArcs.{kept_arcs}
use Rattle.projection_spec.specs.NativeProjection.{type_of}
use Rattle.csr_columns.specs.Rows.{ArcRows, names_of}
use Rattle.csr_columns.specs.Plain.{plain_arcs}
use Rattle.projected_arcs.specs.Places.{place_of, place_or_zero}

-- whether a relationship becomes arcs of an entry: it is of the type that is asked for, and both its ends are among the ids
abbrev pub joins_among : List ℕ → RelFields → Rel → Bool
joins_among ids entry rel =
    is_asked_for entry.store rel.kind && is_some (place_of ids rel.source) && is_some (place_of ids rel.target)

-- the raw arcs of an entry among ids
abbrev pub arcs_among : List ℕ → PropertyGraph → RelFields → List RawArc
arcs_among ids g entry = in_order arc_before (flat_map (arcs_of entry) (filter (joins_among ids entry) g.rels))

-- the type that an entry gives among ids, or why it can't be
abbrev pub type_among : List ℕ → PropertyGraph → RelFields → Result ProjectedType Refusal
type_among ids g entry = type_of entry (kept_arcs entry (arcs_among ids g entry))

-- rows are those of the type that an entry makes of raw arcs
abbrev pub RowsGive : List ℕ → RelFields → List RawArc → ArcRows → Type 0
RowsGive ids entry raws rows = type_of entry (kept_arcs entry raws) ≡ Ok (record {
  name = entry.kind;
  orientation = entry.orientation;
  keys = names_of rows.columns;
  arcs = plain_arcs ids rows;
})

-- the value at a place of an arc that is kept for a group
abbrev pub value_at : ℕ → Grouped → ℤ
value_at place arc = slice_index_or arc.values place missing_value

-- the keys of arcs that are kept for groups, each with a value for every arc, where the first has its values at a place
abbrev pub grouped_columns : List Grouped → ℕ → List RelProp → List (List ℕ × List ℤ)
grouped_columns kept first [] = []
grouped_columns kept first (prop ∷ props) = (prop.key, map (value_at first) kept) ∷ grouped_columns kept (first + 1) props

-- the places of the ends of an arc that is kept for a group
abbrev pub grouped_ends : List ℕ → Grouped → ℕ × ℕ
grouped_ends slots arc = (place_or_zero slots arc.source, place_or_zero slots arc.target)
