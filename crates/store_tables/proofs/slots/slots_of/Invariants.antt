use Rattle.std.specs.Vec.Iter.{into_iter_items}
use Rattle.store_tables.proofs.Placing.{IsPlaced}
use Rattle.store_tables.proofs.slots.slots_of.Given as goal

abbrev pub invariant-loop-element : goal.invariant-loop-element
invariant-loop-element g l = IsPlaced g.E.Element.id_of l.next l.fn.elements (into_iter_items l.element-iterator) l.slots
