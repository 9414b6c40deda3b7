use Rattle.std.proofs.Common.{◌≡◌, drop, map}
use Rattle.graph_model.specs.Projection.{is_among}
use Rattle.csr_columns.specs.Parts.{kind_of}
use Rattle.csr_columns.proofs.choosing.is_type.Given as goal

-- no type so far has the name
abbrev pub invariant-loop-kind : goal.invariant-loop-kind
invariant-loop-kind l = is_among (map kind_of (drop l.kind-index l.types)) l.name ≡ is_among (map kind_of l.types) l.name
