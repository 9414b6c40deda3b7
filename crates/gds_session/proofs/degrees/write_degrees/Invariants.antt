use Rattle.std.proofs.Common.{◌≡◌, ◌≤◌, ◌++◌, ℕ, List, drop}
use Rattle.std.specs.Io.KnownBytes.{Appends}
use Rattle.gds_session.specs.Ending.{lines_of_rows}
use Rattle.gds_session.proofs.degrees.write_degrees.Given as goal

-- what was written, what waits and the lines of the nodes that are left make the whole text
abbrev pub invariant-loop-node : goal.invariant-loop-node
invariant-loop-node g l = record {
  written : List ℕ;
  taken : Appends (g.W.Sink.taken l.fn.sink) (g.W.Sink.taken l.sink) written;
  whole : written ++ l.text.items ++ lines_of_rows l.node (drop l.node l.csr.rows) ≡ lines_of_rows 0 l.csr.rows;
  later : g.W.Sink.faults l.fn.sink ≤ g.W.Sink.faults l.sink;
}
