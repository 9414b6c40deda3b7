use Rattle.std.proofs.Common.{rules, codes}
use Rattle.text_sinks.proofs.ToldLemmas.{stops_first, stops_second, wrote_third}
use Rattle.call_codec.specs.Answers.{list_text, quoted}
use Rattle.call_codec.proofs.lines.GraphLineItem.put_to.Goals as goal

pub returns-in_err-put_graph_head : goal.returns-in_err-put_graph_head
returns-in_err-put_graph_head g c = record { wrote = stops_first (list_text quoted c.args.self.now.keys) (codes "}") (search rules) c.in_err-put_graph_head.ensures.wrote.err }

pub returns-in_err-put_list : goal.returns-in_err-put_list
returns-in_err-put_list g c = record { wrote = stops_second (codes "}") (search rules) c.in_ok-put_graph_head.ensures.wrote.ok (rw c.as_slice.ensures.value at c.in_err-put_list.ensures.wrote.err) }

pub returns : goal.returns
returns g c = record { wrote = wrote_third c.in_ok-put_graph_head.ensures.wrote.ok (rw c.as_slice.ensures.value at c.in_ok-put_list.ensures.wrote.ok) c.put.ensures.wrote }
