use Rattle.std.proofs.Common.{rules}
use Rattle.text_sinks.proofs.ToldLemmas.{stops_more, wrote_err, wrote_then}
use Rattle.call_codec.proofs.answer.put_deleted.Goals as goal

pub returns-in_err-put_first_field : goal.returns-in_err-put_first_field
returns-in_err-put_first_field g c = record { wrote = wrote_err (search rules) (stops_more _ c.in_err-put_first_field.ensures.wrote.err) }

pub returns : goal.returns
returns g c = record { wrote = wrote_then c.in_ok-put_first_field.ensures.wrote.ok c.put_number_field.ensures.wrote }
