use Rattle.std.proofs.Common.{rules, codes}
use Rattle.text_sinks.proofs.ToldLemmas.{puts_then, stops_more, stops_then, wrote_err, wrote_then}
use Rattle.call_codec.specs.Answers.{first_field, text_field}
use Rattle.call_codec.proofs.refused.put_refusal_head.Goals as goal

pub returns-in_err-put : goal.returns-in_err-put
returns-in_err-put g c = record { wrote = wrote_err (search rules) (stops_more (text_field (codes "code") c.args.code.now) (stops_more (first_field (codes "number") c.args.number) c.in_err-put.ensures.wrote.err)) }

pub returns-in_err-put_first_field : goal.returns-in_err-put_first_field
returns-in_err-put_first_field g c = record { wrote = wrote_err (search rules) (stops_more (text_field (codes "code") c.args.code.now) (stops_then c.in_ok-put.ensures.wrote.ok c.in_err-put_first_field.ensures.wrote.err)) }

pub returns : goal.returns
returns g c = record { wrote = wrote_then (puts_then c.in_ok-put.ensures.wrote.ok c.in_ok-put_first_field.ensures.wrote.ok) c.put_text_field.ensures.wrote }
