use Rattle.std.proofs.Common.{◌≤◌, slice_index}
use Rattle.csr_columns.specs.Mirror.{FindsArcs}
use Rattle.csr_columns.proofs.mirroring.finds_row.Given as goal

-- the arcs so far are found
abbrev pub invariant-loop-place : goal.invariant-loop-place
invariant-loop-place l = record {
  found : FindsArcs l.offsets l.targets l.columns l.place l.cursors;
  from : slice_index l.offsets l.v ≤ l.place;
}
