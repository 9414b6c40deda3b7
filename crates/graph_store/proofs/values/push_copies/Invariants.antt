use Rattle.std.proofs.Common.{◌≡◌, ◌++◌, take}
use Rattle.graph_store.proofs.values.push_copies.Given as goal

abbrev pub invariant-loop-prop : goal.invariant-loop-prop
invariant-loop-prop l = l.props ≡ l.fn.props ++ take l.prop-index l.rest
