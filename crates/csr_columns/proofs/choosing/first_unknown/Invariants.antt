use Rattle.std.proofs.Common.{◌≡◌, drop}
use Rattle.graph_model.specs.View.{first_unknown}
use Rattle.csr_columns.proofs.choosing.first_unknown.Given as goal

-- each name so far is known
abbrev pub invariant-loop-name : goal.invariant-loop-name
invariant-loop-name l = first_unknown l.known (drop l.name-index l.names) ≡ first_unknown l.known l.names
