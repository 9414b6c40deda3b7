use Rattle.std.proofs.Common.{◌≡◌, take}
use Rattle.graph_model.proofs.list.ListTryClone.try_clone.Given as goal

-- the copy so far is the list so far
abbrev pub invariant-loop-item : goal.invariant-loop-item
invariant-loop-item g l = l.copy.items ≡ take l.item-index l.item-items
