use Rattle.std.proofs.Common.{◌≡◌, drop}
use Rattle.csr_columns.specs.Choosing.{chosen, first_directed_kind}
use Rattle.csr_columns.proofs.choosing.first_directed.Given as goal

-- each chosen type so far is undirected
abbrev pub invariant-loop-kind : goal.invariant-loop-kind
invariant-loop-kind l = first_directed_kind (chosen l.choice (drop l.kind-index l.types)) ≡ first_directed_kind (chosen l.choice l.types)
