use Rattle.std.proofs.Common.{◌≡◌, ◌+◌, ◌++◌, [], ◌∷◌, take, get_or, refl, ◌∙◌}
use Rattle.std.proofs.lemmas.List.{take_more}
use Rattle.graph_store.specs.Edits.{gone}
use Rattle.graph_store.proofs.EditLemmas.{edit-none, edit-gone_more}
use Rattle.graph_store.proofs.deleting.remove_listed.Goals as goal

pub loop-id-init : goal.loop-id-init
loop-id-init g c = (edit-none g.E.Element.id_of gone c.args.slots.now, λ weight. refl)

pub loop-id-preserved : goal.loop-id-preserved
loop-id-preserved g c =
    let ids = c.args.ids.now in
    let row = c.loop-id.id-index in
    let more : take (row + 1) ids ≡ take row ids ++ get_or ids row 0 ∷ [] = take_more ids row 0 c.loop-id-test.true in
    rw more (
      rw (c.in_ok-remove.ensures.removed, c.loop-id.invariant.0) (edit-gone_more g.E.Element.id_of c.args.slots.now (take row ids) (get_or ids row 0) c.requires),
      λ weight. c.in_ok-remove.ensures.counted weight ∙ c.loop-id.invariant.1 weight,
    )
