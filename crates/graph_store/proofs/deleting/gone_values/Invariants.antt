use Rattle.std.proofs.Common.{◌≡◌, length, take, sum_by}
use Rattle.graph_store.proofs.deleting.gone_values.Given as goal

abbrev pub invariant-loop-element : goal.invariant-loop-element
invariant-loop-element g l = l.count ≡ sum_by (λ element. length (g.E.Element.props_of element)) (take l.element-index l.element-items)
