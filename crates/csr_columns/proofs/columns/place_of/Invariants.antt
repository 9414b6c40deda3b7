use Rattle.csr_columns.specs.Offsets.{IsUnnamed}
use Rattle.csr_columns.proofs.columns.place_of.Given as goal

-- no name so far is this name
abbrev pub invariant-loop-place : goal.invariant-loop-place
invariant-loop-place l = IsUnnamed l.names l.name l.place
