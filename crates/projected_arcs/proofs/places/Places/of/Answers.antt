use Rattle.std.proofs.Common.{◌≡◌, ◌∙◌, arith}
use Rattle.std.proofs.lemmas.List.{length-set}
use Rattle.projected_arcs.proofs.PlaceLemmas.{place-put}
use Rattle.projected_arcs.proofs.places.Places.of.Goals as goal

pub loop-place-preserved : goal.loop-place-preserved
loop-place-preserved c =
    let ids = c.args.ids.now in
    let i = c.loop-place.place in
    let slots = c.loop-place.slots.items in
    record {
      places = place-put ids slots i c.args.below c.requires.ascend c.requires.few c.loop-place-test.true (c.requires.below i 0 c.loop-place-test.true) c.loop-place.invariant.many c.loop-place.invariant.places;
      many = length-set slots _ i ∙ c.loop-place.invariant.many;
    }
