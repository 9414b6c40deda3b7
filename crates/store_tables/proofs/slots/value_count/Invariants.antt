use Rattle.std.proofs.Common.{◌≡◌, length, take, sum_by}
use Rattle.store_tables.proofs.slots.value_count.Given as goal

abbrev pub invariant-loop-element : goal.invariant-loop-element
invariant-loop-element g l = l.count ≡ sum_by (λ element. length (g.E.Element.props_of element)) (take l.element-index l.element-items)
