use Rattle.std.proofs.Common.{◌≡◌, ℕ, List, [], ◌++◌, drop}
use Rattle.text_sinks.specs.Told.{Puts}
use Rattle.call_codec.specs.Answers.{items_behind}
use Rattle.call_codec.proofs.item.put_items.Given as goal

-- what was put, and the items that are left, make the whole
abbrev pub invariant-loop-item : goal.invariant-loop-item
invariant-loop-item g l = record {
  written : List ℕ;
  put : Puts (g.T.TextSink.told l.fn.sink) (g.T.TextSink.told l.sink) written;
  whole : written ++ items_behind g.I.Item.text l.before (drop l.item-index l.items) ≡ items_behind g.I.Item.text [] l.items;
}
