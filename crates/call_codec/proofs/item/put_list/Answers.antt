use Rattle.std.proofs.Common.{rules, [], codes}
use Rattle.text_sinks.proofs.ToldLemmas.{stops_first, stops_second, wrote_third}
use Rattle.call_codec.specs.Answers.{items_behind}
use Rattle.call_codec.proofs.item.put_list.Goals as goal

pub returns-in_err-put : goal.returns-in_err-put
returns-in_err-put g c = record { wrote = stops_first (items_behind g.I.Item.text [] c.args.items.now) (codes "]") (search rules) c.in_err-put.ensures.wrote.err }

pub returns-in_err-put_items : goal.returns-in_err-put_items
returns-in_err-put_items g c = record { wrote = stops_second (codes "]") (search rules) c.in_ok-put.ensures.wrote.ok c.in_err-put_items.ensures.wrote.err }

pub returns : goal.returns
returns g c = record { wrote = wrote_third c.in_ok-put.ensures.wrote.ok c.in_ok-put_items.ensures.wrote.ok c.put-2.ensures.wrote }
