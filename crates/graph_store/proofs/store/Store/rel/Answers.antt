use Rattle.std.proofs.Common.{sym, ◌∙◌, arith}
use Rattle.store_tables.specs.Links.{rel_id}
use Rattle.store_tables.proofs.SlotLemmas.{find-living}
use Rattle.graph_store.proofs.store.Store.rel.Goals as goal

pub returns : goal.returns
returns c = rw (← c.self.view_is) (c.live_at.ensures ∙ sym (find-living rel_id c.self.inside.rels 0 c.args.id c.args.id c.self.invariant.sound.rel_slots (omega arith)))
