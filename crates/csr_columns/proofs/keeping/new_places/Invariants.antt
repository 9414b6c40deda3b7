use Rattle.std.proofs.Common.{◌≡◌, ◌≤◌, ◌++◌, drop}
use Rattle.csr_columns.specs.Keeping.{renumbered}
use Rattle.csr_columns.proofs.keeping.new_places.Given as goal

-- the places so far, and those that the rest gets
abbrev pub invariant-loop-flag : goal.invariant-loop-flag
invariant-loop-flag l = record {
  few : l.count ≤ l.flag-index;
  places : l.places.items ++ renumbered l.count (drop l.flag-index l.kept) ≡ renumbered 0 l.kept;
}
