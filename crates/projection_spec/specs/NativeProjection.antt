-- What a specification projects a graph to.
--   projected_node entries keys node   a node as it is projected
--   node_keys entries                  the keys of projected nodes
--   projected_types g nodes rels       the projected types, or why the first of them can't be
--   refused_names spec g               why the names of a specification are refused, or nothing
--   projected spec g                   the projection, or why there is none
use Rattle.std.specs.Prelude.{ℕ, ℤ, nat_le, Bool, if◌then◌else◌, List, [], ◌∷◌, map, filter, find, sum_by, Option, None, Some, unwrap_or, Result, Ok, Err}
use Rattle.std.specs.Option.{option_map_or, option_or}
use Rattle.std.specs.List.{flat_map, insert}
use Rattle.std.specs.Str.{bytes_eq}
use Rattle.graph_model.specs.declared.graph.Node.{Node}
use Rattle.graph_model.specs.declared.graph.PropertyGraph.{PropertyGraph}
use Rattle.graph_model.specs.declared.refusal.Refusal.{Refusal}
use Rattle.graph_model.specs.declared.refusal.Refusal.TheVariants.{NoSuchLabel, NoSuchType, NoSuchProperty, SumOutOfRange, Full}
use Rattle.graph_model.specs.declared.refusal.Quantity.TheVariants.{Arcs}
use Rattle.graph_model.specs.Lists.{first_there}
use Rattle.graph_model.specs.Known.{knows_label, knows_type, knows_node_key, knows_rel_key}
use Rattle.graph_model.specs.Projection.{ProjectedNode, ProjectedArc, ProjectedType, PlainProjection, most_arcs, missing_value, is_among, place_among, type_arc_count}
use Rattle.projection_spec.specs.declared.arcs.Grouped.{Grouped}
use Rattle.projection_spec.specs.declared.entries.NodeProp.{NodeProp}
use Rattle.projection_spec.specs.declared.entries.NodeEntry.{NodeEntry}
use Rattle.projection_spec.specs.declared.entries.RelProp.{RelProp}
use Rattle.projection_spec.specs.Fields.{RelFields, SpecFields}
use Rattle.projection_spec.specs.RawArcs.{takes_node, is_projected, stored_value, raw_arcs}
use Rattle.projection_spec.specs.KeptArcs.{SumOut, kept_arcs}

-- ---- nodes

-- the projected key of a node property, and of a relationship property
abbrev pub node_prop_key : NodeProp → List ℕ
node_prop_key prop = prop.key

abbrev pub rel_prop_key : RelProp → List ℕ
rel_prop_key prop = prop.key

-- the projected label of an entry
abbrev pub label_of : NodeEntry → List ℕ
label_of entry = entry.label

-- names that ascend, with a name in its order, where it isn't among them
abbrev pub with_name : List (List ℕ) → List ℕ → List (List ℕ)
with_name names name = if is_among names name then names else insert names (place_among names name) name

-- names that ascend, with more names
abbrev pub with_names : List (List ℕ) → List (List ℕ) → List (List ℕ)
with_names names [] = names
with_names names (name ∷ more) = with_names (with_name names name) more

-- the projected keys of an entry
abbrev pub entry_keys : NodeEntry → List (List ℕ)
entry_keys entry = map node_prop_key entry.props

-- the keys of projected nodes: those of all entries, in ascending order, each once
abbrev pub node_keys : List NodeEntry → List (List ℕ)
node_keys entries = with_names [] (flat_map entry_keys entries)

-- whether a property is the one of a projected key
abbrev pub is_of_key : List ℕ → NodeProp → Bool
is_of_key key prop = bytes_eq prop.key key

-- the property by which an entry gives a node a value under a key: none where it doesn't take the node, or hasn't the key
abbrev pub prop_by : Node → List ℕ → NodeEntry → Option NodeProp
prop_by node key entry = if takes_node node entry then find (is_of_key key) entry.props else None

-- the property by which the first entry that has one gives a node a value under a key
abbrev pub first_prop : List NodeEntry → Node → List ℕ → Option NodeProp
first_prop [] node key = None
first_prop (entry ∷ entries) node key = first_there (prop_by node key entry) (first_prop entries node key)

-- the value that a property gives to a node: the stored one, else the default, else the missing one
abbrev pub value_by : Node → NodeProp → ℤ
value_by node prop = unwrap_or (option_or (stored_value node.props prop.store) prop.default) missing_value

-- the value of a node under a projected key
abbrev pub node_value : List NodeEntry → Node → List ℕ → ℤ
node_value entries node key = option_map_or (value_by node) (first_prop entries node key) missing_value

-- the projected labels of a node: those of all entries that take it
abbrev pub node_labels : List NodeEntry → Node → List (List ℕ)
node_labels entries node = map label_of (filter (takes_node node) entries)

-- a node as it is projected, under these keys
abbrev pub projected_node : List NodeEntry → List (List ℕ) → Node → ProjectedNode
projected_node entries keys node =
    record { id = node.id; labels = node_labels entries node; values = map (node_value entries node) keys }

-- the nodes of a graph that are projected
abbrev pub kept_nodes : PropertyGraph → List NodeEntry → List Node
kept_nodes g entries = filter (is_projected entries) g.nodes

-- ---- types

-- an arc that is kept, without its relationship id
abbrev pub arc_from_kept : Grouped → ProjectedArc
arc_from_kept arc = record { source = arc.source; target = arc.target; values = arc.values }

-- the type of an entry with the arcs that it keeps, or its first sum that leaves i64
abbrev pub type_of : RelFields → Result (List Grouped) SumOut → Result ProjectedType Refusal
type_of entry (Ok arcs) = Ok (record {
  name = entry.kind;
  orientation = entry.orientation;
  keys = map rel_prop_key entry.props;
  arcs = map arc_from_kept arcs;
})
type_of entry (Err out) = Err (SumOutOfRange entry.kind out.key out.source out.target)

-- a type before others, or why the first of them can't be
abbrev pub before_types : Result ProjectedType Refusal → Result (List ProjectedType) Refusal → Result (List ProjectedType) Refusal
before_types (Err why) types = Err why
before_types (Ok type) (Ok types) = Ok (type ∷ types)
before_types (Ok type) (Err why) = Err why

-- the types of entries, or why the first of them can't be
abbrev pub projected_types : PropertyGraph → List NodeEntry → List RelFields → Result (List ProjectedType) Refusal
projected_types g nodes [] = Ok []
projected_types g nodes (entry ∷ entries) =
    before_types (type_of entry (kept_arcs entry (raw_arcs g nodes entry))) (projected_types g nodes entries)

-- ---- refusals

-- the first refusal that some item of a list gives
abbrev pub first_refused : {A : Type 0} → (A → Option Refusal) → List A → Option Refusal
first_refused refused [] = None
first_refused refused (item ∷ items) = first_there (refused item) (first_refused refused items)

-- why the label of a node entry is refused: no live node has it
abbrev pub unknown_label : PropertyGraph → Option (List ℕ) → Option Refusal
unknown_label g None = None
unknown_label g (Some label) = if knows_label g label then None else Some (NoSuchLabel label)

-- why the type of a relationship entry is refused: no live relationship is of it
abbrev pub unknown_type : PropertyGraph → Option (List ℕ) → Option Refusal
unknown_type g None = None
unknown_type g (Some type) = if knows_type g type then None else Some (NoSuchType type)

-- why a key is refused, with this default, if it is known like this
abbrev pub unknown_key : Bool → Option ℤ → List ℕ → Option Refusal
unknown_key known (Some default) key = None
unknown_key known None key = if known then None else Some (NoSuchProperty key)

-- why the store's key of a node property is refused: no live node stores it, and there is no default
abbrev pub unknown_node_key : PropertyGraph → NodeProp → Option Refusal
unknown_node_key g prop = unknown_key (knows_node_key g prop.store) prop.default prop.store

-- why the store's key of a relationship property is refused: no live relationship stores it, and there is no default
abbrev pub unknown_rel_key : PropertyGraph → Option (List ℕ) → Option ℤ → Option Refusal
unknown_rel_key g None default = None
unknown_rel_key g (Some key) default = unknown_key (knows_rel_key g key) default key

-- why an entry is refused, by its label or its type
abbrev pub refused_label : PropertyGraph → NodeEntry → Option Refusal
refused_label g entry = unknown_label g entry.store

abbrev pub refused_type : PropertyGraph → RelFields → Option Refusal
refused_type g entry = unknown_type g entry.store

-- why a relationship property is refused
abbrev pub refused_rel_prop : PropertyGraph → RelProp → Option Refusal
refused_rel_prop g prop = unknown_rel_key g prop.store prop.default

-- why an entry is refused by its keys: by the first that isn't known
abbrev pub refused_node_keys : PropertyGraph → NodeEntry → Option Refusal
refused_node_keys g entry = first_refused (unknown_node_key g) entry.props

abbrev pub refused_rel_keys : PropertyGraph → RelFields → Option Refusal
refused_rel_keys g entry = first_refused (refused_rel_prop g) entry.props

-- why the names of a specification are refused: labels, then types, then keys of nodes, then keys of relationships
abbrev pub refused_names : SpecFields → PropertyGraph → Option Refusal
refused_names spec g = first_there (first_refused (refused_label g) spec.nodes)
    (first_there (first_refused (refused_type g) spec.rels)
    (first_there (first_refused (refused_node_keys g) spec.nodes)
    (first_refused (refused_rel_keys g) spec.rels)))

-- ---- the projection

-- the projected nodes with these types
abbrev pub projection_with : SpecFields → PropertyGraph → List ProjectedType → PlainProjection
projection_with spec g types = record {
  nodes = map (projected_node spec.nodes (node_keys spec.nodes)) (kept_nodes g spec.nodes);
  labels = map label_of spec.nodes;
  keys = node_keys spec.nodes;
  types = types;
}

-- a projection, unless its types have more arcs than a projection may
abbrev pub within_limit : SpecFields → PropertyGraph → Result (List ProjectedType) Refusal → Result PlainProjection Refusal
within_limit spec g (Err why) = Err why
within_limit spec g (Ok types) =
    if nat_le (sum_by type_arc_count types) most_arcs then Ok (projection_with spec g types) else Err (Full Arcs most_arcs 0)

-- the projection, unless the names are refused
abbrev pub unless_refused : Option Refusal → SpecFields → PropertyGraph → Result PlainProjection Refusal
unless_refused (Some why) spec g = Err why
unless_refused None spec g = within_limit spec g (projected_types g spec.nodes spec.rels)

-- what a specification projects a graph to, or why it is refused: for a name, for the first sum that leaves i64 of the
-- first type that has one, or for the number of arcs of all types
abbrev pub projected : SpecFields → PropertyGraph → Result PlainProjection Refusal
projected spec g = unless_refused (refused_names spec g) spec g
