-- The graph that slots stand for, and what a store keeps of them.
use Rattle.std.specs.Prelude.{◌≡◌, ℕ, List, length, Option}
use Rattle.graph_model.specs.declared.graph.Node.{Node}
use Rattle.graph_model.specs.declared.graph.Rel.{Rel}
use Rattle.graph_model.specs.declared.graph.PropertyGraph.{PropertyGraph}
use Rattle.graph_model.specs.Graph.{value_count, IsValidGraph, IsWithinLimits}
use Rattle.store_tables.specs.Slots.{living, IsNumbered}
use Rattle.store_tables.specs.Links.{rel_id}

-- the id of a node
abbrev pub node_id : Node → ℕ
node_id node = node.id

-- the graph of the elements that live: each id that was ever given has a slot
abbrev pub graph_of : List (Option Node) → List (Option Rel) → PropertyGraph
graph_of nodes rels = record { nodes = living nodes; rels = living rels; next_node = length nodes; next_rel = length rels }

-- what a store keeps: each element under its own id, the number of values, and a valid graph within the limits
pub record IsSound (nodes : List (Option Node)) (rels : List (Option Rel)) (values : ℕ) : Type 0 where
  pub node_slots : IsNumbered node_id 0 nodes
  pub rel_slots : IsNumbered rel_id 0 rels
  pub counted : values ≡ value_count (graph_of nodes rels)
  pub valid : IsValidGraph (graph_of nodes rels)
  pub within : IsWithinLimits (graph_of nodes rels)
