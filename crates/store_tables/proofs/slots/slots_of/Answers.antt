use Rattle.std.proofs.Common.{◌≡◌, ◌-◌, [], ◌++◌, length, sym, ◌∙◌, arith}
use Rattle.std.specs.Vec.Iter.{into_iter_items}
use Rattle.std.proofs.lemmas.List.{append-nil, nil_from_length}
use Rattle.store_tables.specs.Slots.{living}
use Rattle.store_tables.proofs.Placing.{IsPlaced-none, IsPlaced-more, living-filled, IsNumbered-filled}
use Rattle.store_tables.proofs.slots.slots_of.Goals as goal

pub loop-element-init : goal.loop-element-init
loop-element-init g c =
    let all : into_iter_items c.into_iter-element-iterator.result ≡ c.args.elements = c.into_iter-element-iterator.ensures.into_iter_gives.0 ∙ c.into_vec-element-items.ensures in
    rw (all, c.in_ok-slots.ensures) (IsPlaced-none g.E.Element.id_of c.args.next c.args.elements c.requires.ascend c.requires.below)

pub loop-element-preserved : goal.loop-element-preserved
loop-element-preserved g c =
    let placed = rw c.in-Some.ensures.steps.0 at c.loop-element.invariant in
    rw (c.in_ok-push.ensures, c.in_ok-of.ensures, c.in_ok-fill.ensures, c.id.ensures)
    (IsPlaced-more g.E.Element.id_of c.args.next c.args.elements (into_iter_items c.next.new.self) c.loop-element.slots c.in-Some.element placed)

pub returns-clause-living : goal.returns-clause-living
returns-clause-living g c =
    let h = c.loop-element.element-iterator.rest.ok in let k = c.in-None.ensures.steps in
    let none : into_iter_items c.loop-element.element-iterator ≡ [] = nil_from_length _ (omega (arith, h, k)) in
    let all : living c.loop-element.slots ++ into_iter_items c.loop-element.element-iterator ≡ c.args.elements = c.loop-element.invariant.all in
    rw (c.in_ok-fill-2.ensures, living-filled) (sym (append-nil (living c.loop-element.slots)) ∙ (rw none at all))

pub returns-clause-numbered : goal.returns-clause-numbered
returns-clause-numbered g c =
    rw c.in_ok-fill-2.ensures (IsNumbered-filled g.E.Element.id_of c.loop-element.slots (c.args.next - length c.loop-element.slots) c.loop-element.invariant.numbered)
