use Rattle.std.proofs.Common.{rules, [], codes}
use Rattle.text_sinks.proofs.ToldLemmas.{stops_first, stops_second, wrote_third}
use Rattle.call_codec.specs.Answers.{items_behind, row_text}
use Rattle.std.specs.List.{zip}
use Rattle.call_codec.proofs.answer.put_rows.Goals as goal

pub returns-in_err-put : goal.returns-in_err-put
returns-in_err-put g c = record { wrote = stops_first (items_behind (row_text c.args.name.now) [] (zip c.args.ids.now c.args.values.now)) (codes "]") (search rules) c.in_err-put.ensures.wrote.err }

pub returns-in_err-put_rows_between : goal.returns-in_err-put_rows_between
returns-in_err-put_rows_between g c = record { wrote = stops_second (codes "]") (search rules) c.in_ok-put.ensures.wrote.ok c.in_err-put_rows_between.ensures.wrote.err }

pub returns : goal.returns
returns g c = record { wrote = wrote_third c.in_ok-put.ensures.wrote.ok c.in_ok-put_rows_between.ensures.wrote.ok c.put-2.ensures.wrote }
