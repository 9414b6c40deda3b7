use Rattle.std.proofs.Common.{rules, codes}
use Rattle.text_sinks.proofs.ToldLemmas.{stops_first, stops_second, wrote_third}
use Rattle.call_codec.specs.Answers.{graph_fields}
use Rattle.call_codec.proofs.lines.put_graph_head.Goals as goal

pub returns-in_err-put : goal.returns-in_err-put
returns-in_err-put g c = record { wrote = stops_first (graph_fields c.args.line.now) (codes ",\"nodeProperties\":") (search rules) c.in_err-put.ensures.wrote.err }

pub returns-in_err-put_graph_fields : goal.returns-in_err-put_graph_fields
returns-in_err-put_graph_fields g c = record { wrote = stops_second (codes ",\"nodeProperties\":") (search rules) c.in_ok-put.ensures.wrote.ok c.in_err-put_graph_fields.ensures.wrote.err }

pub returns : goal.returns
returns g c = record { wrote = wrote_third c.in_ok-put.ensures.wrote.ok c.in_ok-put_graph_fields.ensures.wrote.ok c.put-2.ensures.wrote }
