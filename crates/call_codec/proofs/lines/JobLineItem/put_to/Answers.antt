use Rattle.std.proofs.Common.{rules, codes}
use Rattle.text_sinks.proofs.ToldLemmas.{puts_then, stops_more, stops_then, wrote_err, wrote_then}
use Rattle.call_codec.specs.Answers.{job_fields}
use Rattle.call_codec.proofs.lines.JobLineItem.put_to.Goals as goal

pub returns-in_err-put : goal.returns-in_err-put
returns-in_err-put g c = record { wrote = wrote_err (search rules) (stops_more (codes "}") (stops_more (job_fields c.args.self.now) c.in_err-put.ensures.wrote.err)) }

pub returns-in_err-put_job_fields : goal.returns-in_err-put_job_fields
returns-in_err-put_job_fields g c = record { wrote = wrote_err (search rules) (stops_more (codes "}") (stops_then c.in_ok-put.ensures.wrote.ok c.in_err-put_job_fields.ensures.wrote.err)) }

pub returns : goal.returns
returns g c = record { wrote = wrote_then (puts_then c.in_ok-put.ensures.wrote.ok c.in_ok-put_job_fields.ensures.wrote.ok) c.put-2.ensures.wrote }
