use Rattle.std.proofs.Common.{◌∙◌}
use Rattle.graph_store.proofs.NameCounts.{knows-type}
use Rattle.graph_store.proofs.store.Store.knows_type.Goals as goal

pub returns : goal.returns
returns c = rw (← c.self.view_is) (c.is_counted.ensures ∙ knows-type c.self.inside.rels c.self.inside.rel_names.classes c.self.inside.rel_names.keys c.args.name.now c.self.invariant.rels_counted)
