use Rattle.std.proofs.Common.{◌≡◌, map, take}
use Rattle.csr_columns.specs.Offsets.{picked_column}
use Rattle.csr_columns.proofs.columns.pick_each.Given as goal

-- the columns so far
abbrev pub invariant-loop-column : goal.invariant-loop-column
invariant-loop-column l = l.picked.items ≡ map (picked_column l.places) (take l.column-index l.columns)
