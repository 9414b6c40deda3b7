use Rattle.std.proofs.Common.{◌∙◌}
use Rattle.store_tables.specs.Counted.{rel_classes, rel_props}
use Rattle.graph_store.proofs.NameCounts.{knows-key}
use Rattle.graph_store.proofs.store.Store.knows_rel_key.Goals as goal

pub returns : goal.returns
returns c = rw (← c.self.view_is) (c.is_counted.ensures ∙ knows-key rel_classes rel_props c.self.inside.rels c.self.inside.rel_names.classes c.self.inside.rel_names.keys c.args.name.now c.self.invariant.rels_counted)
