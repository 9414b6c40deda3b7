use Rattle.std.proofs.Common.{◌≡◌, ◌∙◌, length, take, arith}
use Rattle.std.proofs.lemmas.List.{length-take}
use Rattle.desk_core.specs.Fields.{state_of}
use Rattle.gds_session.specs.declared.ends.End.TheVariants as end
use Rattle.gds_session.specs.declared.asking.Turn.TheVariants as turn
use Rattle.gds_session.specs.Serving.{moment}
use Rattle.gds_session.proofs.TurnLemmas.{reading_more, shelled_over, shelled_memory}
use Rattle.gds_session.proofs.asking.shell.Goals as goal

pub returns-in_default-clause-served : goal.returns-in_default-clause-served
returns-in_default-clause-served g c = shelled_memory c.args.budget (g.S.Source.remaining c.args.source.now) (moment (state_of c.args.desk.now) (g.K.Keeper.faults c.args.desk.now.keeper) (g.W.Sink.taken c.args.sink.now) (g.W.Sink.flushed c.args.sink.now) (g.W.Sink.faults c.args.sink.now))

pub loop-left-preserved : goal.loop-left-preserved
loop-left-preserved g c = record {
  reading = reading_more c.args.budget c.loop-left.left c.in-More.n (length (take c.room_for-room.result c.deref_mut.result.now)) (g.S.Source.remaining c.args.source.now) (g.S.Source.remaining c.loop-left.source) (g.S.Source.remaining c.take_turn.new.source)
      c.loop-left.pending.long c.loop-left.pending.bytes.items c.take_turn.new.pending.long c.take_turn.new.pending.bytes.items
      (moment (state_of c.args.desk.now) (g.K.Keeper.faults c.args.desk.now.keeper) (g.W.Sink.taken c.args.sink.now) (g.W.Sink.flushed c.args.sink.now) (g.W.Sink.faults c.args.sink.now)) (moment (state_of c.loop-left.desk) (g.K.Keeper.faults c.loop-left.desk.keeper) (g.W.Sink.taken c.loop-left.sink) (g.W.Sink.flushed c.loop-left.sink) (g.W.Sink.faults c.loop-left.sink)) (moment (state_of c.take_turn.new.desk) (g.K.Keeper.faults c.take_turn.new.desk.keeper) (g.W.Sink.taken c.take_turn.new.sink) (g.W.Sink.flushed c.take_turn.new.sink) (g.W.Sink.faults c.take_turn.new.sink))
      c.loop-left.invariant.reading c.in-More.ensures.turned (omega (arith, length-take c.room_for-room.result c.deref_mut.result.now, c.room_for-room.ensures.left));
  room = c.loop-left.invariant.room;
  reads = omega (arith, c.loop-left.invariant.reads, c.take_turn.ensures.reads_later);
  calm = c.in-More.ensures.reads_calm (λ same. let e : turn.More c.in-More.n ≡ turn.Over end.ReadFault = same in cc) ∙ c.loop-left.invariant.calm;
  path = c.take_turn.ensures.path ∙ c.loop-left.invariant.path;
  writes = omega (arith, c.loop-left.invariant.writes, c.take_turn.ensures.writes_later);
}

pub returns-in-Over-clause-served : goal.returns-in-Over-clause-served
returns-in-Over-clause-served g c =
    shelled_over c.in-Over.end c.args.budget c.loop-left.left (length (take c.room_for-room.result c.deref_mut.result.now)) (g.S.Source.remaining c.args.source.now) (g.S.Source.remaining c.loop-left.source) (g.S.Source.remaining c.take_turn.new.source)
    c.loop-left.pending.long c.loop-left.pending.bytes.items c.take_turn.new.pending.long c.take_turn.new.pending.bytes.items
    (moment (state_of c.args.desk.now) (g.K.Keeper.faults c.args.desk.now.keeper) (g.W.Sink.taken c.args.sink.now) (g.W.Sink.flushed c.args.sink.now) (g.W.Sink.faults c.args.sink.now)) (moment (state_of c.loop-left.desk) (g.K.Keeper.faults c.loop-left.desk.keeper) (g.W.Sink.taken c.loop-left.sink) (g.W.Sink.flushed c.loop-left.sink) (g.W.Sink.faults c.loop-left.sink)) (moment (state_of c.take_turn.new.desk) (g.K.Keeper.faults c.take_turn.new.desk.keeper) (g.W.Sink.taken c.take_turn.new.sink) (g.W.Sink.flushed c.take_turn.new.sink) (g.W.Sink.faults c.take_turn.new.sink))
    c.loop-left.invariant.reading c.in-Over.ensures.turned (omega (arith, length-take c.room_for-room.result c.deref_mut.result.now, c.room_for-room.ensures.left))
