use Rattle.std.proofs.Common.{sym, ◌∙◌}
use Rattle.gds_causes.specs.Faults.{Rose}
use Rattle.desk_model.specs.Replies.{plain_reply}
use Rattle.desk_core.specs.Fields.{state_of}
use Rattle.call_codec.specs.Answers.{line_answer}
use Rattle.call_codec.specs.Lines.{line_item, asked_by_line}
use Rattle.gds_session.specs.declared.degrees.WriteStop.TheVariants as stop
use Rattle.gds_session.specs.Serving.{Halts, Moment, Serves, TookFront, moment}
use Rattle.gds_session.proofs.ServingLemmas.{Answered, answered_ok, blank_asks, line_asks, serves_nothing, serves_one, halts_one, on_ok, both_err}
use Rattle.gds_session.proofs.serving.serve_line.Goals as goal

pub returns-then-is_blank-clause-ok : goal.returns-then-is_blank-clause-ok
returns-then-is_blank-clause-ok g c =
    rw (blank_asks c.args.line.now c.requires (sym c.is_blank.ensures ∙ c.if-is_blank.true))
    (serves_nothing (moment (state_of c.args.desk.now) (g.K.Keeper.faults c.args.desk.now.keeper) (g.W.Sink.taken c.args.sink.now) (g.W.Sink.flushed c.args.sink.now) (g.W.Sink.faults c.args.sink.now)))

pub returns-clause-ok : goal.returns-clause-ok
returns-clause-ok g c =
    let old : Moment = (moment (state_of c.args.desk.now) (g.K.Keeper.faults c.args.desk.now.keeper) (g.W.Sink.taken c.args.sink.now) (g.W.Sink.flushed c.args.sink.now) (g.W.Sink.faults c.args.sink.now)) in
    let new : Moment = (moment (state_of c.perform-reply.new.desk) (g.K.Keeper.faults c.perform-reply.new.desk.keeper) (g.W.Sink.taken c.answer_with.new.sink) (g.W.Sink.flushed c.answer_with.new.sink) (g.W.Sink.faults c.answer_with.new.sink)) in
    let reply = plain_reply c.perform-reply.result in
    on_ok c.answer_with.result (Answered old new (line_answer reply)) (Serves (asked_by_line c.args.line.now) old new)
    (λ done.
    rw (line_asks c.args.line.now c.requires (sym c.is_blank.ensures ∙ c.if-is_blank.false))
    (serves_one (line_item c.args.line.now) reply old new c.perform-reply.ensures.performs done))
    (answered_ok c.answer_with.result old new (line_answer reply) c.answer_with.ensures.ok c.answer_with.ensures.flushed c.answer_with.ensures.calm)

pub returns-clause-err : goal.returns-clause-err
returns-clause-err g c =
    let old : Moment = (moment (state_of c.args.desk.now) (g.K.Keeper.faults c.args.desk.now.keeper) (g.W.Sink.taken c.args.sink.now) (g.W.Sink.flushed c.args.sink.now) (g.W.Sink.faults c.args.sink.now)) in
    let new : Moment = (moment (state_of c.perform-reply.new.desk) (g.K.Keeper.faults c.perform-reply.new.desk.keeper) (g.W.Sink.taken c.answer_with.new.sink) (g.W.Sink.flushed c.answer_with.new.sink) (g.W.Sink.faults c.answer_with.new.sink)) in
    let reply = plain_reply c.perform-reply.result in
    both_err c.answer_with.result (TookFront old.taken new.taken (line_answer reply)) (Rose old.write_faults new.write_faults) (Halts stop.Fault (asked_by_line c.args.line.now) old new)
    (λ took rose.
    rw (line_asks c.args.line.now c.requires (sym c.is_blank.ensures ∙ c.if-is_blank.false))
    (halts_one (line_item c.args.line.now) reply old new c.perform-reply.ensures.performs took rose))
    c.answer_with.ensures.err c.answer_with.ensures.fault
