use Rattle.std.proofs.Common.{◌≡◌, ◌-◌, ◌++◌, length, replicate, None}
use Rattle.store_tables.proofs.link.add_nodes.Given as goal

abbrev pub invariant-loop-node : goal.invariant-loop-node
invariant-loop-node l = l.latest ≡ l.fn.latest ++ replicate (l._node - length l.fn.latest) (record { rel = None })
