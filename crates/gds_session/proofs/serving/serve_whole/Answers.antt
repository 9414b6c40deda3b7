use Rattle.std.proofs.Common.{sym, ◌∙◌, ℕ, List, ◌++◌}
use Rattle.gds_causes.specs.Faults.{Rose}
use Rattle.desk_model.specs.Replies.{plain_reply}
use Rattle.desk_core.specs.Fields.{state_of}
use Rattle.call_codec.specs.Answers.{line_answer}
use Rattle.call_codec.specs.Lines.{Refuses}
use Rattle.gds_session.specs.declared.degrees.WriteStop.TheVariants as stop
use Rattle.gds_session.specs.Serving.{Halts, IsPending, Moment, Serves, TookFront, asks_with, moment}
use Rattle.gds_session.proofs.ServingLemmas.{Answered, answered_ok, too_long, long_asks, ok_when, on_ok, both_err, stopped_ok, stopped_err, performs_long, serves_one, halts_one, halts_at_once}
use Rattle.gds_session.proofs.serving.serve_whole.Goals as goal

pub returns-then-is_err-clause-err : goal.returns-then-is_err-clause-err
returns-then-is_err-clause-err g c =
    halts_at_once (asks_with c.args.pending.now.long c.args.pending.now.bytes.items c.args.tail.now)
    (moment (state_of c.args.desk.now) (g.K.Keeper.faults c.args.desk.now.keeper) (g.W.Sink.taken c.args.sink.now) (g.W.Sink.flushed c.args.sink.now) (g.W.Sink.faults c.args.sink.now))

pub returns-then-pending-clause-ok : goal.returns-then-pending-clause-ok
returns-then-pending-clause-ok g c =
    let old : Moment = (moment (state_of c.args.desk.now) (g.K.Keeper.faults c.args.desk.now.keeper) (g.W.Sink.taken c.args.sink.now) (g.W.Sink.flushed c.args.sink.now) (g.W.Sink.faults c.args.sink.now)) in
    let new : Moment = (moment (state_of c.args.desk.now) (g.K.Keeper.faults c.args.desk.now.keeper) (g.W.Sink.taken c.answer_with.new.sink) (g.W.Sink.flushed c.answer_with.new.sink) (g.W.Sink.faults c.answer_with.new.sink)) in
    let before = c.args.pending.now in
    let tail = c.args.tail.now in
    let after = c.keep.new.self in
    let reply = plain_reply c.too_long.result in
    let pending = ok_when c.keep.result ((waiting : List ℕ) → IsPending before.long before.bytes.items waiting → IsPending after.long after.bytes.items (waiting ++ tail)) (sym c.is_err.ensures.value ∙ c.if-is_err.false) c.keep.ensures.ok in
    let asks = long_asks before.long after.long before.bytes.items after.bytes.items tail pending c.if-pending.true in
    let performs = performs_long reply old.state old.faults c.too_long.ensures in
    let P = Serves (asks_with before.long before.bytes.items tail) old new in
    rw c.stop_of-then-pending.ensures
    (stopped_ok c.answer_with.result P
    (on_ok c.answer_with.result (Answered old new (line_answer reply)) P (λ done. rw asks (serves_one (Refuses too_long) reply old new performs done))
    (answered_ok c.answer_with.result old new (line_answer reply) c.answer_with.ensures.ok c.answer_with.ensures.flushed c.answer_with.ensures.calm)))

pub returns-then-pending-clause-err : goal.returns-then-pending-clause-err
returns-then-pending-clause-err g c =
    let old : Moment = (moment (state_of c.args.desk.now) (g.K.Keeper.faults c.args.desk.now.keeper) (g.W.Sink.taken c.args.sink.now) (g.W.Sink.flushed c.args.sink.now) (g.W.Sink.faults c.args.sink.now)) in
    let new : Moment = (moment (state_of c.args.desk.now) (g.K.Keeper.faults c.args.desk.now.keeper) (g.W.Sink.taken c.answer_with.new.sink) (g.W.Sink.flushed c.answer_with.new.sink) (g.W.Sink.faults c.answer_with.new.sink)) in
    let before = c.args.pending.now in
    let tail = c.args.tail.now in
    let after = c.keep.new.self in
    let reply = plain_reply c.too_long.result in
    let pending = ok_when c.keep.result ((waiting : List ℕ) → IsPending before.long before.bytes.items waiting → IsPending after.long after.bytes.items (waiting ++ tail)) (sym c.is_err.ensures.value ∙ c.if-is_err.false) c.keep.ensures.ok in
    let asks = long_asks before.long after.long before.bytes.items after.bytes.items tail pending c.if-pending.true in
    let performs = performs_long reply old.state old.faults c.too_long.ensures in
    rw c.stop_of-then-pending.ensures
    (stopped_err c.answer_with.result (λ why. Halts why (asks_with before.long before.bytes.items tail) old new)
    (both_err c.answer_with.result (TookFront old.taken new.taken (line_answer reply)) (Rose old.write_faults new.write_faults) (Halts stop.Fault (asks_with before.long before.bytes.items tail) old new)
    (λ took rose. rw asks (halts_one (Refuses too_long) reply old new performs took rose))
    c.answer_with.ensures.err c.answer_with.ensures.fault))
