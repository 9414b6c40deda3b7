use Rattle.std.proofs.Common.{rules}
use Rattle.text_sinks.proofs.ToldLemmas.{stops_front, wrote_then}
use Rattle.call_codec.specs.Answers.{maker_field}
use Rattle.call_codec.proofs.lines.put_made.Goals as goal

pub returns-in_err-put_graph_fields : goal.returns-in_err-put_graph_fields
returns-in_err-put_graph_fields g c = record { wrote = stops_front (maker_field c.args.line.now.job) (search rules) c.in_err-put_graph_fields.ensures.wrote.err }

pub returns : goal.returns
returns g c = record { wrote = wrote_then c.in_ok-put_graph_fields.ensures.wrote.ok c.put_maker.ensures.wrote }
