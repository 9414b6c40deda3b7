use Rattle.std.proofs.Common.{sym, ◌∙◌, arith}
use Rattle.graph_store.specs.Stored.{node_id}
use Rattle.store_tables.proofs.SlotLemmas.{find-living}
use Rattle.graph_store.proofs.store.Store.node.Goals as goal

pub returns : goal.returns
returns c = rw (← c.self.view_is) (c.live_at.ensures ∙ sym (find-living node_id c.self.inside.nodes 0 c.args.id c.args.id c.self.invariant.sound.node_slots (omega arith)))
