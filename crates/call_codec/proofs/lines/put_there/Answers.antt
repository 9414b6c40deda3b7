use Rattle.std.proofs.Common.{rules}
use Rattle.text_sinks.proofs.ToldLemmas.{stops_more, wrote_err, wrote_then}
use Rattle.call_codec.proofs.lines.put_there.Goals as goal

pub returns-in_err-put_first_text_field : goal.returns-in_err-put_first_text_field
returns-in_err-put_first_text_field g c = record { wrote = wrote_err (search rules) (stops_more _ c.in_err-put_first_text_field.ensures.wrote.err) }

pub returns : goal.returns
returns g c = record { wrote = wrote_then c.in_ok-put_first_text_field.ensures.wrote.ok c.put_flag_field.ensures.wrote }
