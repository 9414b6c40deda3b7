-- What a store keeps.
use Rattle.std.specs.Prelude.{ℕ, List, length, Option}
use Rattle.graph_model.specs.declared.graph.Node.{Node}
use Rattle.graph_model.specs.declared.graph.Rel.{Rel}
use Rattle.store_tables.specs.declared.link.Links.{Links}
use Rattle.store_tables.specs.declared.census.Census.{Census}
use Rattle.graph_store.specs.Stored.{IsSound}
use Rattle.store_tables.specs.Links.{IsLinkedUpTo}
use Rattle.store_tables.specs.Counted.{node_classes, rel_classes, node_props, rel_props, IsCounted}

-- sound slots, links of all relationships that were ever given, and how many elements have each name
pub record IsStored (nodes : List (Option Node)) (rels : List (Option Rel)) (values : ℕ) (links : Links) (node_names rel_names : Census) : Type 0 where
  pub sound : IsSound nodes rels values
  pub linked : IsLinkedUpTo rels links.rels links.nodes (length rels) (length nodes)
  pub nodes_counted : IsCounted node_classes node_props nodes node_names.classes node_names.keys
  pub rels_counted : IsCounted rel_classes rel_props rels rel_names.classes rel_names.keys
