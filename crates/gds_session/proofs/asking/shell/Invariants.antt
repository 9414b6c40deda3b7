use Rattle.std.proofs.Common.{◌≡◌, ◌≤◌, vec_len}
use Rattle.desk_core.specs.Fields.{state_of}
use Rattle.gds_session.specs.Serving.{moment}
use Rattle.gds_session.proofs.TurnLemmas.{Reading}
use Rattle.gds_session.proofs.asking.shell.Given as goal

-- so much was read, the lines that are whole were answered, and no count of faults fell
abbrev pub invariant-loop-left : goal.invariant-loop-left
invariant-loop-left g l = record {
  reading : Reading l.budget l.left (g.S.Source.remaining l.fn.source) (g.S.Source.remaining l.source) l.pending.long l.pending.bytes.items
      (moment (state_of l.fn.desk) (g.K.Keeper.faults l.fn.desk.keeper) (g.W.Sink.taken l.fn.sink) (g.W.Sink.flushed l.fn.sink) (g.W.Sink.faults l.fn.sink))
      (moment (state_of l.desk) (g.K.Keeper.faults l.desk.keeper) (g.W.Sink.taken l.sink) (g.W.Sink.flushed l.sink) (g.W.Sink.faults l.sink));
  room : vec_len l.piece ≡ 65536;
  reads : g.S.Source.faults l.fn.source ≤ g.S.Source.faults l.source;
  calm : g.S.Source.faults l.source ≡ g.S.Source.faults l.fn.source;
  path : g.K.Keeper.path l.desk.keeper ≡ g.K.Keeper.path l.fn.desk.keeper;
  writes : g.W.Sink.faults l.fn.sink ≤ g.W.Sink.faults l.sink;
}

abbrev pub decreases-loop-left : goal.decreases-loop-left
decreases-loop-left g l = l.left
