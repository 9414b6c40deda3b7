use Rattle.std.proofs.Common.{None, ◌∙◌, arith}
use Rattle.store_tables.specs.Slots.{kept}
use Rattle.graph_store.specs.Edits.{ends_live}
use Rattle.store_tables.proofs.SlotLemmas.{set-front, get_or-front}
use Rattle.graph_store.proofs.deleting.remove_loose.Goals as goal

pub loop-row-preserved : goal.loop-row-preserved
loop-row-preserved c =
    let rels = c.args.rels.now in
    let f = kept (ends_live c.args.nodes.now) in
    let same = get_or-front f rels c.loop-row.row None (omega arith) in (
      rw (c.in_ok-remove_if_loose.ensures.removed, c.loop-row.invariant.0, same) (set-front f rels c.loop-row.row None (omega arith)),
      λ weight. c.in_ok-remove_if_loose.ensures.counted weight ∙ c.loop-row.invariant.1 weight,
    )
