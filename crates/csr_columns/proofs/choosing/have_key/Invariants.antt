use Rattle.std.proofs.Common.{◌≡◌, drop}
use Rattle.std.specs.List.{list_all}
use Rattle.csr_columns.specs.Choosing.{chosen, has_column}
use Rattle.csr_columns.proofs.choosing.have_key.Given as goal

-- each chosen type so far has the key
abbrev pub invariant-loop-kind : goal.invariant-loop-kind
invariant-loop-kind l = list_all (has_column l.key) (chosen l.choice (drop l.kind-index l.types)) ≡ list_all (has_column l.key) (chosen l.choice l.types)
