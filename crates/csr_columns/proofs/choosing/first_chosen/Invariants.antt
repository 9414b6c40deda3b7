use Rattle.std.proofs.Common.{◌≡◌, drop}
use Rattle.csr_columns.specs.Choosing.{chosen, first_of}
use Rattle.csr_columns.proofs.choosing.first_chosen.Given as goal

-- no type so far is chosen
abbrev pub invariant-loop-kind : goal.invariant-loop-kind
invariant-loop-kind l = first_of (chosen l.choice (drop l.kind-index l.types)) ≡ first_of (chosen l.choice l.types)
