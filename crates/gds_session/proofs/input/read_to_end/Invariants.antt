use Rattle.std.proofs.Common.{◌≡◌, ◌≤◌, ◌+◌, length, vec_len}
use Rattle.std.specs.Io.KnownBytes.{Consumes}
use Rattle.gds_session.proofs.input.read_to_end.Given as goal

-- what was taken is there, and with what is left it makes the budget
abbrev pub invariant-loop-left : goal.invariant-loop-left
invariant-loop-left g l = record {
  taken : Consumes (g.S.Source.remaining l.fn.source) (g.S.Source.remaining l.source) l.bytes.items;
  budget : length l.bytes.items + l.left ≡ l.budget;
  later : g.S.Source.faults l.fn.source ≤ g.S.Source.faults l.source;
  room : vec_len l.piece ≡ 65536;
}

abbrev pub decreases-loop-left : goal.decreases-loop-left
decreases-loop-left g l = l.left
