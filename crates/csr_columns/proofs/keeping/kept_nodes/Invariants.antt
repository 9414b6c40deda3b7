use Rattle.std.proofs.Common.{◌≡◌, ◌++◌, drop}
use Rattle.csr_columns.specs.Keeping.{kept_places}
use Rattle.csr_columns.proofs.keeping.kept_nodes.Given as goal

-- the nodes so far, and those that are kept of the rest
abbrev pub invariant-loop-v : goal.invariant-loop-v
invariant-loop-v l = l.nodes.items ++ kept_places l.v (drop l.v l.kept) ≡ kept_places 0 l.kept
