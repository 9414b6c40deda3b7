use Rattle.std.proofs.Common.{◌≡◌, ◌≤◌, ◌+◌, length}
use Rattle.std.specs.List.{AllByRecursion}
use Rattle.gds_session.specs.OnceText.{most_arcs, lines_of, arcs_of}
use Rattle.gds_session.specs.Printing.{JoinsNodes}
use Rattle.gds_session.specs.Reading.{with_arcs}
use Rattle.gds_session.proofs.once.read_arcs.Given as goal

-- the arcs so far and those that the rest says are those that the whole says
abbrev pub invariant-loop-rest : goal.invariant-loop-rest
invariant-loop-rest l = record {
  whole : with_arcs l.arcs.items (arcs_of l.nodes (length l.arcs.items + 2) (lines_of l.rest)) ≡ arcs_of l.nodes 2 (lines_of l.text);
  ends : AllByRecursion (JoinsNodes l.nodes) l.arcs.items;
  few : length l.arcs.items ≤ most_arcs;
}

abbrev pub decreases-loop-rest : goal.decreases-loop-rest
decreases-loop-rest l = length l.rest
