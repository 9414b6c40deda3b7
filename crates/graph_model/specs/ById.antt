-- The elements of a graph, taken one id after another.
use Rattle.std.specs.Prelude.{◌≡◌, ℕ, ◌+◌, Bool, nat_lt, List, [], ◌++◌, filter, find}
use Rattle.std.specs.List.{cons_option}
use Rattle.graph_model.specs.declared.graph.Node.{Node}
use Rattle.graph_model.specs.declared.graph.Rel.{Rel}
use Rattle.graph_model.specs.declared.graph.PropertyGraph.{PropertyGraph}
use Rattle.graph_model.specs.Graph.{IsValidGraph, is_node, is_rel}

-- whether a node, a relationship, has an id below a number
abbrev pub is_node_below : ℕ → Node → Bool
is_node_below id node = nat_lt node.id id

abbrev pub is_rel_below : ℕ → Rel → Bool
is_rel_below id rel = nat_lt rel.id id

-- the nodes, the relationships, with ids below a number
abbrev pub nodes_below : ℕ → PropertyGraph → List Node
nodes_below id g = filter (is_node_below id) g.nodes

abbrev pub rels_below : ℕ → PropertyGraph → List Rel
rels_below id g = filter (is_rel_below id) g.rels

-- the nodes with ids below a number: none at first, then the node of each id that lives behind those before it, and all in the end
pub record NodesComeById (g : PropertyGraph) : Type 0 where
  pub first : nodes_below 0 g ≡ []
  pub next : (id : ℕ) → nodes_below (id + 1) g ≡ nodes_below id g ++ cons_option (find (is_node id) g.nodes) []
  pub last : nodes_below g.next_node g ≡ g.nodes

-- the relationships, likewise
pub record RelsComeById (g : PropertyGraph) : Type 0 where
  pub first : rels_below 0 g ≡ []
  pub next : (id : ℕ) → rels_below (id + 1) g ≡ rels_below id g ++ cons_option (find (is_rel id) g.rels) []
  pub last : rels_below g.next_rel g ≡ g.rels

-- so it is in each valid graph
abbrev pub ElementsComeById : Type 0
ElementsComeById = (g : PropertyGraph) → IsValidGraph g → NodesComeById g × RelsComeById g
