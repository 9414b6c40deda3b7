use Rattle.std.proofs.Common.{◌∙◌}
use Rattle.store_tables.specs.Counted.{node_classes, node_props}
use Rattle.graph_store.proofs.NameCounts.{knows-key}
use Rattle.graph_store.proofs.store.Store.knows_node_key.Goals as goal

pub returns : goal.returns
returns c = rw (← c.self.view_is) (c.is_counted.ensures ∙ knows-key node_classes node_props c.self.inside.nodes c.self.inside.node_names.classes c.self.inside.node_names.keys c.args.name.now c.self.invariant.nodes_counted)
