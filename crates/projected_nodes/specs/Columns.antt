-- Projected nodes in columns: a flag for each label and a value for each key.
--   label_column nodes entry         a label with a flag for each node
--   key_column entries nodes key     a key with a value for each node
--   node_columns entries nodes       nodes in columns
use Rattle.std.specs.Prelude.{◌≡◌, ℕ, ℤ, ◌≤◌, Bool, List, length, map}
use Rattle.std.specs.List.Sorted.{IsStrictlyIncreasing}
use Rattle.graph_model.specs.declared.graph.Node.{Node}
use Rattle.graph_model.specs.Graph.{most_nodes}
use Rattle.graph_model.specs.Lists.{Pairwise}
use Rattle.graph_model.specs.Names.{IsBefore}
use Rattle.projection_spec.specs.declared.entries.NodeEntry.{NodeEntry}
use Rattle.projection_spec.specs.RawArcs.{takes_node}
use Rattle.projection_spec.specs.NativeProjection.{node_keys, node_value}
use Rattle.projected_nodes.specs.declared.columns.NodeColumns.{NodeColumns}

-- the id of a node
abbrev pub id_of : Node → ℕ
id_of node = node.id

-- whether an entry takes a node
abbrev pub is_taken_by : NodeEntry → Node → Bool
is_taken_by entry node = takes_node node entry

-- the value of a node under a key
abbrev pub value_under : List NodeEntry → List ℕ → Node → ℤ
value_under entries key node = node_value entries node key

-- a label with a flag for each node
abbrev pub label_column : List Node → NodeEntry → List ℕ × List Bool
label_column nodes entry = (entry.label, map (is_taken_by entry) nodes)

-- a key with a value for each node
abbrev pub key_column : List NodeEntry → List Node → List ℕ → List ℕ × List ℤ
key_column entries nodes key = (key, map (value_under entries key) nodes)

-- nodes in columns
abbrev pub node_columns : List NodeEntry → List Node → NodeColumns
node_columns entries nodes = record {
  ids = map id_of nodes;
  labels = map (label_column nodes) entries;
  columns = map (key_column entries nodes) (node_keys entries);
}
