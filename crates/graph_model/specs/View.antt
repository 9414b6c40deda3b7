-- Views of projections, on which algorithms run.
--   ViewArc                          an arc of a view: the ids of its ends, and its weight where weights are asked for
--   PlainView                        the ids and the arcs of a view
--   chosen_nodes, chosen_types       what choices of labels and of types choose
--   view_refusal p labels types key  why there is no such view, or nothing
--   view_of p labels types key       a view of a projection, or why there is none
use Rattle.std.specs.Prelude.{ℕ, ◌==◌, ℤ, Bool, true, false, ◌&&◌, if◌then◌else◌, List, [], ◌∷◌, map, filter, Option, Some, None, Result, Ok, Err}
use Rattle.std.specs.Option.{option_map, is_some}
use Rattle.std.specs.List.{list_any, list_all, flat_map, zip}
use Rattle.graph_model.specs.declared.graph.Orientation.{Orientation}
use Rattle.graph_model.specs.declared.graph.Orientation.TheVariants.{Natural, Reverse, Undirected}
use Rattle.graph_model.specs.declared.graph.Choice.{Choice}
use Rattle.graph_model.specs.declared.graph.Choice.TheVariants.{All, Of}
use Rattle.graph_model.specs.declared.refusal.Refusal.{Refusal}
use Rattle.graph_model.specs.declared.refusal.Refusal.TheVariants.{NoSuchLabel, NoSuchType, NoSuchProperty}
use Rattle.graph_model.specs.Lists.{first_there}
use Rattle.graph_model.specs.Projection.{ProjectedNode, ProjectedArc, ProjectedType, PlainProjection, is_among, under}

-- an arc of a view: the ids of its ends, and its weight where weights are asked for
pub record ViewArc : Type 0 where
  pub source : ℕ
  pub target : ℕ
  pub weight : Option ℤ

-- the ids of a view ascending, whether weights are asked for, the arcs in ascending order of source, target, type and
-- their order in the type, and the first chosen type that isn't undirected
pub record PlainView : Type 0 where
  pub ids : List ℕ
  pub weighted : Bool
  pub arcs : List ViewArc
  pub directed : Option (List ℕ)

-- whether a node has a chosen label; a choice of all chooses each node, also one without a label
abbrev pub chooses_node : Choice → ProjectedNode → Bool
chooses_node All node = true
chooses_node (Of names) node = list_any (is_among names) node.labels

-- whether a type is chosen
abbrev pub chooses_type : Choice → ProjectedType → Bool
chooses_type All type = true
chooses_type (Of names) type = is_among names type.name

-- the id of a node
abbrev pub node_id : ProjectedNode → ℕ
node_id node = node.id

-- the ids of the chosen nodes
abbrev pub chosen_ids : PlainProjection → Choice → List ℕ
chosen_ids p labels = map node_id (filter (chooses_node labels) p.nodes)

-- the chosen types
abbrev pub chosen_types : PlainProjection → Choice → List ProjectedType
chosen_types p types = filter (chooses_type types) p.types

-- the first of some names that isn't known
abbrev pub first_unknown : List (List ℕ) → List (List ℕ) → Option (List ℕ)
first_unknown known [] = None
first_unknown known (name ∷ names) = if is_among known name then first_unknown known names else Some name

-- the first name of a choice that isn't known
abbrev pub unknown_choice : List (List ℕ) → Choice → Option (List ℕ)
unknown_choice known All = None
unknown_choice known (Of names) = first_unknown known names

-- the name of a type
abbrev pub type_name : ProjectedType → List ℕ
type_name type = type.name

-- whether a type has a key
abbrev pub has_key : List ℕ → ProjectedType → Bool
has_key key type = is_among type.keys key

-- a weight key that some type lacks
abbrev pub missing_key : List ProjectedType → Option (List ℕ) → Option (List ℕ)
missing_key types None = None
missing_key types (Some key) = if list_all (has_key key) types then None else Some key

-- why there is no such view: the first label that isn't projected, else the first type that isn't,
-- else a weight key that isn't a key of every chosen type
abbrev pub view_refusal : PlainProjection → Choice → Choice → Option (List ℕ) → Option Refusal
view_refusal p labels types weight =
    first_there (option_map NoSuchLabel (unknown_choice p.labels labels))
    (first_there (option_map NoSuchType (unknown_choice (map type_name p.types) types))
    (option_map NoSuchProperty (missing_key (chosen_types p types) weight)))

-- the weight of an arc: its value under the weight key, where one is given
abbrev pub weight_of : Option (List ℕ) → List (List ℕ) → List ℤ → Option ℤ
weight_of None keys values = None
weight_of (Some key) keys values = under key (zip keys values)

-- an arc of a type, with its weight
abbrev pub weighed_arc : Option (List ℕ) → List (List ℕ) → ProjectedArc → ViewArc
weighed_arc weight keys arc = record { source = arc.source; target = arc.target; weight = weight_of weight keys arc.values }

-- the arcs of a type, with their weights
abbrev pub weighed_arcs : Option (List ℕ) → ProjectedType → List ViewArc
weighed_arcs weight type = map (weighed_arc weight type.keys) type.arcs

-- whether an arc leads from one node to another
abbrev pub joins : ℕ → ℕ → ViewArc → Bool
joins source target arc = arc.source == source && arc.target == target

-- the arcs from one node to another, in their order
abbrev pub arcs_between : List ViewArc → ℕ → ℕ → List ViewArc
arcs_between arcs source target = filter (joins source target) arcs

-- the arcs from one node to some nodes, node after node
abbrev pub arcs_out : List ViewArc → List ℕ → ℕ → List ViewArc
arcs_out arcs ids source = flat_map (arcs_between arcs source) ids

-- the arcs between some nodes: by source, then by target, and then in their order
abbrev pub arcs_within : List ViewArc → List ℕ → List ViewArc
arcs_within arcs ids = flat_map (arcs_out arcs ids) ids

-- whether arcs go both ways
abbrev pub is_undirected : Orientation → Bool
is_undirected Natural = false
is_undirected Reverse = false
is_undirected Undirected = true

-- the first type that isn't undirected
abbrev pub first_directed : List ProjectedType → Option (List ℕ)
first_directed [] = None
first_directed (type ∷ types) = if is_undirected type.orientation then first_directed types else Some type.name

-- the nodes with a chosen label, and the arcs of the chosen types between them
abbrev pub plain_view : PlainProjection → Choice → Choice → Option (List ℕ) → PlainView
plain_view p labels types weight = record {
  ids = chosen_ids p labels;
  weighted = is_some weight;
  arcs = arcs_within (flat_map (weighed_arcs weight) (chosen_types p types)) (chosen_ids p labels);
  directed = first_directed (chosen_types p types);
}

-- a view where it isn't refused
abbrev pub unless_refused : Option Refusal → PlainView → Result PlainView Refusal
unless_refused None view = Ok view
unless_refused (Some why) view = Err why

-- a view of a projection, or why there is none
abbrev pub view_of : PlainProjection → Choice → Choice → Option (List ℕ) → Result PlainView Refusal
view_of p labels types weight = unless_refused (view_refusal p labels types weight) (plain_view p labels types weight)
