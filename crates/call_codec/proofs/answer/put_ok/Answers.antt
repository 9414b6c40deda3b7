use Rattle.std.proofs.Common.{rules, codes}
use Rattle.text_sinks.proofs.ToldLemmas.{stops_first, stops_second, wrote_third}
use Rattle.call_codec.specs.Answers.{ok_fields}
use Rattle.desk_model.specs.Replies.{plain_reply}
use Rattle.call_codec.proofs.answer.put_ok.Goals as goal

pub returns-in_err-put : goal.returns-in_err-put
returns-in_err-put g c = record { wrote = stops_first (ok_fields (plain_reply c.args.reply.now)) (codes "}}") (search rules) c.in_err-put.ensures.wrote.err }

pub returns-in_err-put_ok_fields : goal.returns-in_err-put_ok_fields
returns-in_err-put_ok_fields g c = record { wrote = stops_second (codes "}}") (search rules) c.in_ok-put.ensures.wrote.ok c.in_err-put_ok_fields.ensures.wrote.err }

pub returns : goal.returns
returns g c = record { wrote = wrote_third c.in_ok-put.ensures.wrote.ok c.in_ok-put_ok_fields.ensures.wrote.ok c.put-2.ensures.wrote }
