use Rattle.std.proofs.Common.{rules}
use Rattle.text_sinks.proofs.ToldLemmas.{stops_front, wrote_then}
use Rattle.call_codec.specs.Answers.{list_text, graph_text}
use Rattle.call_codec.proofs.lines.put_graphs.Goals as goal

pub returns-in_err-put : goal.returns-in_err-put
returns-in_err-put g c = record { wrote = stops_front (list_text graph_text c.args.lines.now) (search rules) c.in_err-put.ensures.wrote.err }

pub returns : goal.returns
returns g c = record { wrote = wrote_then c.in_ok-put.ensures.wrote.ok c.put_list.ensures.wrote }
