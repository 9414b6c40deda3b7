use Rattle.desk_model.specs.Replies.{plain_reply}
use Rattle.call_codec.specs.Answers.{line_answer}
use Rattle.gds_session.proofs.ServingLemmas.{at_err, took_front}
use Rattle.gds_session.proofs.serving.answer.Goals as goal

pub returns-in_err-line_write-clause-err : goal.returns-in_err-line_write-clause-err
returns-in_err-line_write-clause-err g c =
    at_err c.from_residual.result
    (took_front (g.W.Sink.taken c.args.sink.now) (g.W.Sink.taken c.line_write.new.sink) (line_answer (plain_reply c.args.reply.now)) c.in_err-line_write.ensures.err)
