-- Small graphs on which whole projections are evaluated.
use Rattle.std.specs.Prelude.{ℕ, ℤ, pos, true, false, List, [], ◌∷◌, length, None, Some, Result, Ok, Err, codes}
use Rattle.graph_model.specs.declared.graph.Node.{Node}
use Rattle.graph_model.specs.declared.graph.Prop.{Prop}
use Rattle.graph_model.specs.declared.graph.Rel.{Rel}
use Rattle.graph_model.specs.declared.graph.PropertyGraph.{PropertyGraph}
use Rattle.graph_model.specs.declared.graph.Orientation.TheVariants.{Natural}
use Rattle.graph_model.specs.declared.refusal.Refusal.{Refusal}
use Rattle.graph_model.specs.Projection.{ProjectedNode, PlainProjection, projected_arc_count}
use Rattle.graph_model.specs.SmallStore.{small_store}
use Rattle.projection_spec.specs.declared.entries.NodeEntry.{NodeEntry}
use Rattle.projection_spec.specs.declared.entries.NodeProp.{NodeProp}
use Rattle.projection_spec.specs.declared.entries.Rule.TheVariants.{Sum}
use Rattle.projection_spec.specs.Fields.{RelFields, SpecFields}
use Rattle.projection_spec.specs.NativeProjection.{projected, kept_nodes, projected_node, node_keys}
use Rattle.projection_spec.specs.WorkedRows.{every_node, key_w, type_r}

-- how many nodes and how many arcs a projection has
abbrev pub counts : Result PlainProjection Refusal → Result (ℕ × ℕ) Refusal
counts (Err why) = Err why
counts (Ok p) = Ok (length p.nodes, projected_arc_count p)

-- every node, and the relationships of these entries
abbrev pub of_all : List RelFields → SpecFields
of_all rels = record { nodes = every_node; rels = rels }

-- how many nodes and arcs the small store is projected to
abbrev pub small_counts : RelFields → Result (ℕ × ℕ) Refusal
small_counts entry = counts (projected (of_all (entry ∷ [])) small_store)

-- a value
abbrev pub value : List ℕ → ℤ → Prop
value key number = record { key = key; value = number }

-- a node
abbrev pub node : ℕ → List (List ℕ) → List Prop → Node
node id labels props = record { id = id; labels = labels; props = props }

-- four nodes: with the labels A, A and B, B, and none
abbrev pub labelled_graph : PropertyGraph
labelled_graph = record {
  nodes = node 0 (codes "A" ∷ []) (value (codes "a") (pos 1) ∷ [])
      ∷ node 1 (codes "A" ∷ codes "B" ∷ []) (value (codes "b") (pos 2) ∷ [])
      ∷ node 2 (codes "B" ∷ []) []
      ∷ node 5 [] []
      ∷ [];
  rels = [];
  next_node = 6;
  next_rel = 0;
}

-- a key k from the store's key a, or else 7
abbrev pub k_from_a : NodeProp
k_from_a = record { key = codes "k"; store = codes "a"; default = Some (pos 7) }

-- a key k from the store's key b
abbrev pub k_from_b : NodeProp
k_from_b = record { key = codes "k"; store = codes "b"; default = None }

-- a key c that nothing stores, with a default
abbrev pub c_or_3 : NodeProp
c_or_3 = record { key = codes "c"; store = codes "c"; default = Some (pos 3) }

-- the nodes of a label, with these keys
abbrev pub labelled : List ℕ → List NodeProp → NodeEntry
labelled label props = record { label = label; store = Some label; props = props }

-- the nodes with the label A, and those with the label B
abbrev pub a_and_b : List NodeEntry
a_and_b = labelled (codes "A") (k_from_a ∷ []) ∷ labelled (codes "B") (c_or_3 ∷ k_from_b ∷ []) ∷ []

-- the nodes of the labelled graph as they are projected
abbrev pub projected_nodes : List NodeEntry → List Node → List ProjectedNode
projected_nodes entries [] = []
projected_nodes entries (first ∷ rest) = projected_node entries (node_keys entries) first ∷ projected_nodes entries rest

abbrev pub labelled_nodes : List ProjectedNode
labelled_nodes = projected_nodes a_and_b (kept_nodes labelled_graph a_and_b)

-- a relationship from node 3 to node 8
abbrev pub rel : ℕ → ℤ → Rel
rel id number = record { id = id; source = 3; target = 8; kind = codes "R"; props = value (codes "w") number ∷ [] }

-- two nodes, and relationships between them with these values
abbrev pub two_nodes : List Rel → PropertyGraph
two_nodes rels = record { nodes = node 3 [] [] ∷ node 8 [] [] ∷ []; rels = rels; next_node = 9; next_rel = 3 }

-- how many nodes and arcs the two nodes are projected to, with the sum of w
abbrev pub sum_counts : List Rel → Result (ℕ × ℕ) Refusal
sum_counts rels = counts (projected (of_all (type_r Natural true (key_w (codes "s") Sum ∷ []) ∷ [])) (two_nodes rels))

-- the relationships of some type
abbrev pub of_type : List ℕ → RelFields
of_type type = record { kind = type; store = Some type; orientation = Natural; grouped = false; props = [] }
