use Rattle.std.proofs.Common.{take}
use Rattle.std.specs.List.{All}
use Rattle.csr_columns.specs.Mirror.{HasEqual}
use Rattle.csr_columns.proofs.mirroring.have_equal.Given as goal

-- the columns so far have equal values there
abbrev pub invariant-loop-column : goal.invariant-loop-column
invariant-loop-column l = All (HasEqual l.a l.b) (take l.column-index l.columns)
