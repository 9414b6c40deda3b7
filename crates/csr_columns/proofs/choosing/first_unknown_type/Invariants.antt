use Rattle.std.proofs.Common.{◌≡◌, drop, map}
use Rattle.graph_model.specs.View.{first_unknown}
use Rattle.csr_columns.specs.Parts.{kind_of}
use Rattle.csr_columns.proofs.choosing.first_unknown_type.Given as goal

-- each name so far is that of a type
abbrev pub invariant-loop-name : goal.invariant-loop-name
invariant-loop-name l = first_unknown (map kind_of l.types) (drop l.name-index l.names) ≡ first_unknown (map kind_of l.types) l.names
