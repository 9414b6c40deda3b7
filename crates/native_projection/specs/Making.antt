-- How a projection is made of its parts.
--   types_among ids g entries      the types of entries among nodes of these ids, or why the first of them can't be
--   behind_types types others      types before others, unless these can't be
--   made_parts spec g types        the columns of a projection with these types
use Rattle.std.specs.Prelude.{ℕ, List, [], ◌∷◌, ◌++◌, map, Result, Ok, Err}
use Rattle.graph_model.specs.declared.graph.PropertyGraph.{PropertyGraph}
use Rattle.graph_model.specs.declared.refusal.Refusal.{Refusal}
use Rattle.graph_model.specs.Projection.{ProjectedType}
use Rattle.projection_spec.specs.Fields.{RelFields, SpecFields}
use Rattle.projection_spec.specs.NativeProjection.{before_types, kept_nodes}
use Rattle.projected_nodes.specs.Columns.{node_columns}
use Rattle.projected_arcs.specs.Types.{type_among}
use Rattle.csr_columns.specs.declared.parts.Parts.{Parts}
use Rattle.csr_columns.specs.declared.parts.TypeColumns.{TypeColumns}

-- the types of entries among nodes of these ids, or why the first of them can't be
abbrev pub types_among : List ℕ → PropertyGraph → List RelFields → Result (List ProjectedType) Refusal
types_among ids g [] = Ok []
types_among ids g (entry ∷ entries) = before_types (type_among ids g entry) (types_among ids g entries)

-- types before others, unless these can't be
abbrev pub behind_types : List ProjectedType → Result (List ProjectedType) Refusal → Result (List ProjectedType) Refusal
behind_types types (Ok others) = Ok (types ++ others)
behind_types types (Err why) = Err why

-- the columns of a projection with these types
abbrev pub made_parts : SpecFields → PropertyGraph → List TypeColumns → Parts
made_parts spec g types =
    let nodes = node_columns spec.nodes (kept_nodes g spec.nodes) in
    record { ids = nodes.ids; labels = nodes.labels; columns = nodes.columns; types = types }
