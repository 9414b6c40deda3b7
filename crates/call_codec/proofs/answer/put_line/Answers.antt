use Rattle.std.proofs.Common.{rules, codes}
use Rattle.text_sinks.proofs.ToldLemmas.{stops_front, wrote_then}
use Rattle.call_codec.proofs.answer.put_line.Goals as goal

pub returns-in_err-put_answer : goal.returns-in_err-put_answer
returns-in_err-put_answer g c = record { wrote = stops_front (codes "\n") (search rules) c.in_err-put_answer.ensures.wrote.err }

pub returns : goal.returns
returns g c = record { wrote = wrote_then c.in_ok-put_answer.ensures.wrote.ok c.put.ensures.wrote }
