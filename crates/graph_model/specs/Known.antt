-- Which labels, types and keys the elements of a graph have.
use Rattle.std.specs.Prelude.{ℕ, Bool, List}
use Rattle.std.specs.List.{list_any}
use Rattle.std.specs.Str.{bytes_eq}
use Rattle.graph_model.specs.declared.graph.Node.{Node}
use Rattle.graph_model.specs.declared.graph.Rel.{Rel}
use Rattle.graph_model.specs.declared.graph.Prop.{Prop}
use Rattle.graph_model.specs.declared.graph.PropertyGraph.{PropertyGraph}

-- whether a value stands under a key
abbrev pub is_under_key : List ℕ → Prop → Bool
is_under_key key prop = bytes_eq key prop.key

-- whether a node has a label
abbrev pub has_label : List ℕ → Node → Bool
has_label name node = list_any (bytes_eq name) node.labels

-- whether a relationship is of a type
abbrev pub has_type : List ℕ → Rel → Bool
has_type name rel = bytes_eq name rel.kind

-- whether a node stores a key
abbrev pub node_stores : List ℕ → Node → Bool
node_stores key node = list_any (is_under_key key) node.props

-- whether a relationship stores a key
abbrev pub rel_stores : List ℕ → Rel → Bool
rel_stores key rel = list_any (is_under_key key) rel.props

-- whether some live node has a label
abbrev pub knows_label : PropertyGraph → List ℕ → Bool
knows_label g name = list_any (has_label name) g.nodes

-- whether some live relationship is of a type
abbrev pub knows_type : PropertyGraph → List ℕ → Bool
knows_type g name = list_any (has_type name) g.rels

-- whether some live node stores a key
abbrev pub knows_node_key : PropertyGraph → List ℕ → Bool
knows_node_key g key = list_any (node_stores key) g.nodes

-- whether some live relationship stores a key
abbrev pub knows_rel_key : PropertyGraph → List ℕ → Bool
knows_rel_key g key = list_any (rel_stores key) g.rels
