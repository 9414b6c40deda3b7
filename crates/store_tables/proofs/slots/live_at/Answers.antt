use Rattle.std.proofs.Common.{arith}
use Rattle.store_tables.proofs.SlotLemmas.{slot_at-slice_get}
use Rattle.store_tables.proofs.slots.live_at.Goals as goal

pub returns-in-None : goal.returns-in-None
returns-in-None g c = let s = slot_at-slice_get c.args.slots.now c.args.id in grind (arith, s)
