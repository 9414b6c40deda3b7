-- The arcs that the relationships of a graph give for an entry, before any are grouped.
--   raw_arcs g entries entry   the arcs of a relationship entry, where these are the node entries
use Rattle.std.specs.Prelude.{◌≡◌, ℕ, ◌==◌, nat_lt, ℤ, Bool, true, false, ◌&&◌, ◌||◌, List, [], ◌∷◌, filter, find, Option, None, Some}
use Rattle.std.specs.Option.{option_map}
use Rattle.std.specs.List.{flat_map, list_any}
use Rattle.std.specs.Str.{bytes_eq}
use Rattle.graph_model.specs.declared.graph.Node.{Node}
use Rattle.graph_model.specs.declared.graph.Prop.{Prop}
use Rattle.graph_model.specs.declared.graph.Rel.{Rel}
use Rattle.graph_model.specs.declared.graph.PropertyGraph.{PropertyGraph}
use Rattle.graph_model.specs.declared.graph.Orientation.{Orientation}
use Rattle.graph_model.specs.declared.graph.Orientation.TheVariants.{Natural, Reverse, Undirected}
use Rattle.graph_model.specs.Lists.{in_order}
use Rattle.projection_spec.specs.declared.arcs.RawArc.{RawArc}
use Rattle.projection_spec.specs.declared.entries.NodeEntry.{NodeEntry}
use Rattle.projection_spec.specs.declared.entries.RelProp.{RelProp}
use Rattle.projection_spec.specs.Fields.{RelFields}

-- whether a name is the one that is asked for; any is where none is asked for
abbrev pub is_asked_for : Option (List ℕ) → List ℕ → Bool
is_asked_for None name = true
is_asked_for (Some asked) name = bytes_eq asked name

-- whether a node has the store's label of an entry; each node has where the entry asks for none
abbrev pub has_label : Option (List ℕ) → List (List ℕ) → Bool
has_label None labels = true
has_label (Some asked) labels = list_any (bytes_eq asked) labels

-- whether an entry takes a node
abbrev pub takes_node : Node → NodeEntry → Bool
takes_node node entry = has_label entry.store node.labels

-- whether a node is projected: some entry takes it
abbrev pub is_projected : List NodeEntry → Node → Bool
is_projected entries node = list_any (takes_node node) entries

-- whether the node of an id is projected
abbrev pub is_projected_id : PropertyGraph → List NodeEntry → ℕ → Bool
is_projected_id g entries id = list_any (λ node. (node.id == id) && is_projected entries node) g.nodes

-- whether a relationship becomes arcs of an entry: it is of its type, and both its ends are projected
abbrev pub becomes_arcs : PropertyGraph → List NodeEntry → RelFields → Rel → Bool
becomes_arcs g entries entry rel =
    is_asked_for entry.store rel.kind && is_projected_id g entries rel.source && is_projected_id g entries rel.target

-- whether a value stands under a key
abbrev pub stands_under : List ℕ → Prop → Bool
stands_under key prop = bytes_eq key prop.key

-- the value that is stored under a key
abbrev pub stored_value : List Prop → List ℕ → Option ℤ
stored_value props key = option_map (λ prop. prop.value) (find (stands_under key) props)

-- the value that is stored under the store's key of a projected key, where it has one
abbrev pub stored_cell : List Prop → Option (List ℕ) → Option ℤ
stored_cell props None = None
stored_cell props (Some key) = stored_value props key

-- a cell for each key of an entry
abbrev pub cells_of : List Prop → List RelProp → List (Option ℤ)
cells_of props [] = []
cells_of props (prop ∷ rest) = stored_cell props prop.store ∷ cells_of props rest

-- an arc of a relationship
abbrev pub arc_of : List RelProp → Rel → ℕ → ℕ → RawArc
arc_of props rel source target = record { source = source; target = target; rel = rel.id; cells = cells_of rel.props props }

-- the arcs of a relationship: from source to target, from target to source, or both, also where it is a loop
abbrev pub turned_arcs : Orientation → List RelProp → Rel → List RawArc
turned_arcs Natural props rel = arc_of props rel rel.source rel.target ∷ []
turned_arcs Reverse props rel = arc_of props rel rel.target rel.source ∷ []
turned_arcs Undirected props rel = arc_of props rel rel.source rel.target ∷ arc_of props rel rel.target rel.source ∷ []

-- the arcs of a relationship for an entry
abbrev pub arcs_of : RelFields → Rel → List RawArc
arcs_of entry rel = turned_arcs entry.orientation entry.props rel

-- whether an arc comes before another: by source, then by target, then by relationship id
abbrev pub arc_before : RawArc → RawArc → Bool
arc_before a b = nat_lt a.source b.source
    || ((a.source == b.source) && (nat_lt a.target b.target || ((a.target == b.target) && nat_lt a.rel b.rel)))

-- an arc that doesn't come after another
abbrev pub ArcInOrder : RawArc → RawArc → Type 0
ArcInOrder a b = arc_before b a ≡ false

-- the arcs of a relationship entry, where these are the node entries
abbrev pub raw_arcs : PropertyGraph → List NodeEntry → RelFields → List RawArc
raw_arcs g entries entry = in_order arc_before (flat_map (arcs_of entry) (filter (becomes_arcs g entries entry) g.rels))
