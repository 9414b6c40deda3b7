use Rattle.std.proofs.Common.{refl, ◌∙◌, arith}
use Rattle.desk_core.specs.Fields.{state_of}
use Rattle.gds_session.specs.Serving.{moment}
use Rattle.gds_session.proofs.PieceLemmas.{at_first, one_further, stopped, all_served, unkept}
use Rattle.gds_session.proofs.serving.serve_piece.Goals as goal

pub loop-tail-init : goal.loop-tail-init
loop-tail-init g c = record {
  so_far = λ waiting alone pending. at_first waiting c.args.piece.now c.args.pending.now.long c.args.pending.now.bytes.items (moment (state_of c.args.desk.now) (g.K.Keeper.faults c.args.desk.now.keeper) (g.W.Sink.taken c.args.sink.now) (g.W.Sink.flushed c.args.sink.now) (g.W.Sink.faults c.args.sink.now)) alone pending;
  path = refl;
  later = omega arith;
}

pub returns-in-Err-clause-err : goal.returns-in-Err-clause-err
returns-in-Err-clause-err g c waiting alone pending =
    stopped c.in-Err.why waiting c.args.piece.now c.loop-tail.rest.now c.in-Some.tail.now c.in-Some.behind.now c.loop-tail.pending.long c.loop-tail.pending.bytes.items
    (moment (state_of c.args.desk.now) (g.K.Keeper.faults c.args.desk.now.keeper) (g.W.Sink.taken c.args.sink.now) (g.W.Sink.flushed c.args.sink.now) (g.W.Sink.faults c.args.sink.now)) (moment (state_of c.loop-tail.desk) (g.K.Keeper.faults c.loop-tail.desk.keeper) (g.W.Sink.taken c.loop-tail.sink) (g.W.Sink.flushed c.loop-tail.sink) (g.W.Sink.faults c.loop-tail.sink)) (moment (state_of c.serve_whole.new.desk) (g.K.Keeper.faults c.serve_whole.new.desk.keeper) (g.W.Sink.taken c.serve_whole.new.sink) (g.W.Sink.flushed c.serve_whole.new.sink) (g.W.Sink.faults c.serve_whole.new.sink))
    (c.loop-tail.invariant.so_far waiting alone pending) c.in-Some.ensures c.in-Err.ensures.err

pub loop-tail-preserved : goal.loop-tail-preserved
loop-tail-preserved g c = record {
  so_far = λ waiting alone pending.
      rw (c.in-Ok.ensures.bytes, c.in-Ok.ensures.long)
      (one_further waiting c.args.piece.now c.loop-tail.rest.now c.in-Some.tail.now c.in-Some.behind.now c.loop-tail.pending.long c.loop-tail.pending.bytes.items
      (moment (state_of c.args.desk.now) (g.K.Keeper.faults c.args.desk.now.keeper) (g.W.Sink.taken c.args.sink.now) (g.W.Sink.flushed c.args.sink.now) (g.W.Sink.faults c.args.sink.now)) (moment (state_of c.loop-tail.desk) (g.K.Keeper.faults c.loop-tail.desk.keeper) (g.W.Sink.taken c.loop-tail.sink) (g.W.Sink.flushed c.loop-tail.sink) (g.W.Sink.faults c.loop-tail.sink)) (moment (state_of c.serve_whole.new.desk) (g.K.Keeper.faults c.serve_whole.new.desk.keeper) (g.W.Sink.taken c.serve_whole.new.sink) (g.W.Sink.flushed c.serve_whole.new.sink) (g.W.Sink.faults c.serve_whole.new.sink))
      (c.loop-tail.invariant.so_far waiting alone pending) c.in-Some.ensures c.in-Ok.ensures.ok);
  path = c.serve_whole.ensures.path ∙ c.loop-tail.invariant.path;
  later = omega (arith, c.loop-tail.invariant.later, c.serve_whole.ensures.later);
}

pub returns-in-Ok-keep-clause-ok : goal.returns-in-Ok-keep-clause-ok
returns-in-Ok-keep-clause-ok g c waiting alone pending =
    all_served waiting c.args.piece.now c.loop-tail.rest.now c.loop-tail.pending.long c.loop-tail.pending.bytes.items c.keep.new.self.long c.keep.new.self.bytes.items
    (moment (state_of c.args.desk.now) (g.K.Keeper.faults c.args.desk.now.keeper) (g.W.Sink.taken c.args.sink.now) (g.W.Sink.flushed c.args.sink.now) (g.W.Sink.faults c.args.sink.now)) (moment (state_of c.loop-tail.desk) (g.K.Keeper.faults c.loop-tail.desk.keeper) (g.W.Sink.taken c.loop-tail.sink) (g.W.Sink.flushed c.loop-tail.sink) (g.W.Sink.faults c.loop-tail.sink))
    (c.loop-tail.invariant.so_far waiting alone pending) c.in_default.ensures c.in-Ok-keep.ensures.ok

pub returns-in-Err-keep-clause-err : goal.returns-in-Err-keep-clause-err
returns-in-Err-keep-clause-err g c waiting alone pending =
    unkept waiting c.args.piece.now c.loop-tail.rest.now c.loop-tail.pending.long c.loop-tail.pending.bytes.items
    (moment (state_of c.args.desk.now) (g.K.Keeper.faults c.args.desk.now.keeper) (g.W.Sink.taken c.args.sink.now) (g.W.Sink.flushed c.args.sink.now) (g.W.Sink.faults c.args.sink.now)) (moment (state_of c.loop-tail.desk) (g.K.Keeper.faults c.loop-tail.desk.keeper) (g.W.Sink.taken c.loop-tail.sink) (g.W.Sink.flushed c.loop-tail.sink) (g.W.Sink.faults c.loop-tail.sink))
    (c.loop-tail.invariant.so_far waiting alone pending) c.in_default.ensures
