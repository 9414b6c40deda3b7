use Rattle.std.proofs.Common.{◌≡◌, ℕ, List, [], ◌++◌, drop, length}
use Rattle.std.specs.List.{zip}
use Rattle.text_sinks.specs.Told.{Puts}
use Rattle.call_codec.specs.Answers.{items_behind, row_text}
use Rattle.call_codec.proofs.answer.put_rows_between.Given as goal

-- what was put, and the rows that are left, make the whole
abbrev pub invariant-loop-id : goal.invariant-loop-id
invariant-loop-id g l = record {
  written : List ℕ;
  put : Puts (g.T.TextSink.told l.fn.text) (g.T.TextSink.told l.text) written;
  whole :
      written ++ items_behind (row_text l.name) l.before (drop (length l.yielded) (zip l.ids l.values))
      ≡ items_behind (row_text l.name) [] (zip l.ids l.values);
}
