use Rattle.std.proofs.Common.{rules, codes}
use Rattle.text_sinks.proofs.ToldLemmas.{puts_then, stops_more, stops_then, wrote_err, wrote_then}
use Rattle.call_codec.specs.Answers.{refusal_fields}
use Rattle.call_codec.proofs.refused.put_refusal.Goals as goal

pub returns-in_err-put_refusal_row : goal.returns-in_err-put_refusal_row
returns-in_err-put_refusal_row g c = record { wrote = wrote_err (search rules) (stops_more (codes "}}") (stops_more (refusal_fields c.args.why.now) c.in_err-put_refusal_row.ensures.wrote.err)) }

pub returns-in_err-put_refusal_fields : goal.returns-in_err-put_refusal_fields
returns-in_err-put_refusal_fields g c = record { wrote = wrote_err (search rules) (stops_more (codes "}}") (stops_then c.in_ok-put_refusal_row.ensures.wrote.ok c.in_err-put_refusal_fields.ensures.wrote.err)) }

pub returns : goal.returns
returns g c = record { wrote = wrote_then (puts_then c.in_ok-put_refusal_row.ensures.wrote.ok c.in_ok-put_refusal_fields.ensures.wrote.ok) c.put.ensures.wrote }
