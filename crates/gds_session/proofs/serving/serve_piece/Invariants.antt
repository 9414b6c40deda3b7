use Rattle.std.proofs.Common.{◌≡◌, ◌≤◌, ℕ, List, false, length}
use Rattle.std.specs.List.{list_any}
use Rattle.desk_core.specs.Fields.{state_of}
use Rattle.call_codec.specs.Lines.{is_lf}
use Rattle.gds_session.specs.Serving.{IsPending, moment}
use Rattle.gds_session.proofs.PieceLemmas.{SoFar}
use Rattle.gds_session.proofs.serving.serve_piece.Given as goal

-- whatever waited before the piece, the lines so far were answered, and no count of faults fell
abbrev pub invariant-loop-tail : goal.invariant-loop-tail
invariant-loop-tail g l = record {
  so_far : (waiting : List ℕ) → list_any is_lf waiting ≡ false → IsPending l.fn.pending.long l.fn.pending.bytes.items waiting →
      SoFar waiting l.piece l.rest l.pending.long l.pending.bytes.items
      (moment (state_of l.fn.desk) (g.K.Keeper.faults l.fn.desk.keeper) (g.W.Sink.taken l.fn.sink) (g.W.Sink.flushed l.fn.sink) (g.W.Sink.faults l.fn.sink))
      (moment (state_of l.desk) (g.K.Keeper.faults l.desk.keeper) (g.W.Sink.taken l.sink) (g.W.Sink.flushed l.sink) (g.W.Sink.faults l.sink));
  path : g.K.Keeper.path l.desk.keeper ≡ g.K.Keeper.path l.fn.desk.keeper;
  later : g.W.Sink.faults l.fn.sink ≤ g.W.Sink.faults l.sink;
}

abbrev pub decreases-loop-tail : goal.decreases-loop-tail
decreases-loop-tail g l = length l.rest
