-- What a store tells of its graph.
use Rattle.std.specs.Prelude.{ℕ, List, map, filter}
use Rattle.graph_model.specs.declared.graph.PropertyGraph.{PropertyGraph}
use Rattle.store_tables.specs.Links.{rel_id, begins_at}
use Rattle.graph_store.specs.Stored.{node_id}

-- the ids of the nodes, ascending
abbrev pub node_ids : PropertyGraph → List ℕ
node_ids g = map node_id g.nodes

-- the ids of the relationships that begin at a node, ascending
abbrev pub rel_ids_from : PropertyGraph → ℕ → List ℕ
rel_ids_from g id = map rel_id (filter (begins_at id) g.rels)
