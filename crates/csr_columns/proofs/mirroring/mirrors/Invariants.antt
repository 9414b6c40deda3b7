use Rattle.std.proofs.Common.{slice_index}
use Rattle.csr_columns.specs.Mirror.{FindsArcs}
use Rattle.csr_columns.proofs.mirroring.mirrors.Given as goal

-- the arcs of the rows so far are found
abbrev pub invariant-loop-v : goal.invariant-loop-v
invariant-loop-v l = FindsArcs l.offsets l.targets l.columns (slice_index l.offsets l.v) l.cursors.items
