use Rattle.std.proofs.Common.{rules}
use Rattle.text_sinks.proofs.ToldLemmas.{puts_then, stops_more, stops_then, wrote_err, wrote_then}
use Rattle.call_codec.proofs.answer.put_created.Goals as goal

pub returns-in_err-put_first_field : goal.returns-in_err-put_first_field
returns-in_err-put_first_field g c = record { wrote = wrote_err (search rules) (stops_more _ (stops_more _ (stops_more _ c.in_err-put_first_field.ensures.wrote.err))) }

pub returns-in_err-put_number_field : goal.returns-in_err-put_number_field
returns-in_err-put_number_field g c = record { wrote = wrote_err (search rules) (stops_more _ (stops_more _ (stops_then c.in_ok-put_first_field.ensures.wrote.ok c.in_err-put_number_field.ensures.wrote.err))) }

pub returns-in_err-put_number_field-2 : goal.returns-in_err-put_number_field-2
returns-in_err-put_number_field-2 g c = record { wrote = wrote_err (search rules) (stops_more _ (stops_then (puts_then c.in_ok-put_first_field.ensures.wrote.ok c.in_ok-put_number_field.ensures.wrote.ok) c.in_err-put_number_field-2.ensures.wrote.err)) }

pub returns : goal.returns
returns g c = record { wrote = wrote_then (puts_then (puts_then c.in_ok-put_first_field.ensures.wrote.ok c.in_ok-put_number_field.ensures.wrote.ok) c.in_ok-put_number_field-2.ensures.wrote.ok) c.put_number_field-3.ensures.wrote }
