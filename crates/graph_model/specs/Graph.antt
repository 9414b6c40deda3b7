-- A property graph: which elements live, when it is valid, and when it is within the limits.
--   node_lives nodes id, rel_lives rels id   whether an element of this id lives
--   value_count g                            how many values its elements store
--   IsValidGraph g                           ids, ends, labels and keys are in order
--   IsWithinLimits g                         it has no more elements and values than a graph may have
use Rattle.std.specs.Prelude.{ℕ, ◌+◌, ◌<◌, ◌≤◌, ◌==◌, Bool, IsTrue, List, length, sum_by}
use Rattle.std.specs.List.{AllByRecursion, list_any}
use Rattle.graph_model.specs.declared.graph.Node.{Node}
use Rattle.graph_model.specs.declared.graph.Rel.{Rel}
use Rattle.graph_model.specs.declared.graph.Prop.{Prop}
use Rattle.graph_model.specs.declared.graph.PropertyGraph.{PropertyGraph}
use Rattle.graph_model.specs.Lists.{Pairwise}
use Rattle.graph_model.specs.Names.{IsBefore}

-- the most node ids and relationship ids that a graph ever gives, and the most values that it stores
abbrev pub most_nodes : ℕ
most_nodes = 4194304

abbrev pub most_rels : ℕ
most_rels = 16777216

abbrev pub most_values : ℕ
most_values = 33554432

-- whether a node is the one of an id
abbrev pub is_node : ℕ → Node → Bool
is_node id node = node.id == id

-- whether a relationship is the one of an id
abbrev pub is_rel : ℕ → Rel → Bool
is_rel id rel = rel.id == id

-- whether a node of this id lives
abbrev pub node_lives : List Node → ℕ → Bool
node_lives nodes id = list_any (is_node id) nodes

-- whether a relationship of this id lives
abbrev pub rel_lives : List Rel → ℕ → Bool
rel_lives rels id = list_any (is_rel id) rels

-- how many values a node stores
abbrev pub node_value_count : Node → ℕ
node_value_count node = length node.props

-- how many values a relationship stores
abbrev pub rel_value_count : Rel → ℕ
rel_value_count rel = length rel.props

-- how many values the elements store
abbrev pub value_count : PropertyGraph → ℕ
value_count g = sum_by node_value_count g.nodes + sum_by rel_value_count g.rels

-- a key comes before another
abbrev pub KeyBefore : Prop → Prop → Type 0
KeyBefore a b = IsBefore a.key b.key

-- ids ascend
abbrev pub NodeBefore : Node → Node → Type 0
NodeBefore a b = a.id < b.id

abbrev pub RelBefore : Rel → Rel → Type 0
RelBefore a b = a.id < b.id

-- an id was given before a counter stood where it stands
abbrev pub NodeBelow : ℕ → Node → Type 0
NodeBelow next node = node.id < next

abbrev pub RelBelow : ℕ → Rel → Type 0
RelBelow next rel = rel.id < next

-- the labels and the keys of a node ascend without repeats
abbrev pub HasOrderedLabels : Node → Type 0
HasOrderedLabels node = Pairwise IsBefore node.labels × Pairwise KeyBefore node.props

-- the keys of a relationship ascend without repeats
abbrev pub HasOrderedKeys : Rel → Type 0
HasOrderedKeys rel = Pairwise KeyBefore rel.props

-- both ends of a relationship live
abbrev pub EndsLive : List Node → Rel → Type 0
EndsLive nodes rel = IsTrue (node_lives nodes rel.source) × IsTrue (node_lives nodes rel.target)

-- ids ascend and lie below the counters, the ends of each relationship live, and labels and keys ascend without repeats
pub record IsValidGraph (g : PropertyGraph) : Type 0 where
  pub nodes_ascend : Pairwise NodeBefore g.nodes
  pub rels_ascend : Pairwise RelBefore g.rels
  pub node_ids : AllByRecursion (NodeBelow g.next_node) g.nodes
  pub rel_ids : AllByRecursion (RelBelow g.next_rel) g.rels
  pub ends : AllByRecursion (EndsLive g.nodes) g.rels
  pub node_parts : AllByRecursion HasOrderedLabels g.nodes
  pub rel_parts : AllByRecursion HasOrderedKeys g.rels

-- the graph has given no more ids and stores no more values than a graph may
pub record IsWithinLimits (g : PropertyGraph) : Type 0 where
  pub nodes : g.next_node ≤ most_nodes
  pub rels : g.next_rel ≤ most_rels
  pub values : value_count g ≤ most_values
