use Rattle.std.proofs.Common.{rules, ◌∙◌, ◌++◌, arith, refl, [], append_assoc, sym}
use Rattle.call_codec.specs.Answers.{items_behind}
use Rattle.text_sinks.proofs.ToldLemmas.{puts_nothing, puts_then, wrote_err}
use Rattle.text_sinks.proofs.PartLemmas.{stops_within}
use Rattle.call_codec.proofs.ItemTexts.{item_put}
use Rattle.call_codec.proofs.item.put_items.Goals as goal

pub loop-item-init : goal.loop-item-init
loop-item-init g c = record { written = []; put = puts_nothing (g.T.TextSink.told c.args.sink.now); whole = refl }

pub returns-in_err-put : goal.returns-in_err-put
returns-in_err-put g c =
    let text = g.I.Item.text in
    let items = c.args.items.now in
    let i = c.loop-item.item-index in
    let old = c.loop-item.invariant.written in
    let whole = item_put text items i c.item-item.result old c.loop-item.before.now _ (omega arith) c.item-item.is c.loop-item.invariant.whole in
    record {
      wrote =
          wrote_err (search rules)
          (stops_within (g.T.TextSink.told c.args.sink.now) (g.T.TextSink.told c.loop-item.sink) (g.T.TextSink.told c.put.new.self)
          old c.loop-item.before.now _ (items_behind text [] items)
          c.loop-item.invariant.put c.in_err-put.ensures.wrote.err (sym (append_assoc (old ++ c.loop-item.before.now) _ _) ∙ whole));
    }

pub returns-in_err-put_to : goal.returns-in_err-put_to
returns-in_err-put_to g c =
    let text = g.I.Item.text in
    let items = c.args.items.now in
    let i = c.loop-item.item-index in
    let old = c.loop-item.invariant.written in
    let put =
    puts_then c.loop-item.invariant.put c.in_ok-put.ensures.wrote.ok in
    record {
      wrote =
          wrote_err (search rules)
          (stops_within (g.T.TextSink.told c.args.sink.now) (g.T.TextSink.told c.put.new.self) (g.T.TextSink.told c.put_to.new.sink)
          (old ++ c.loop-item.before.now) _ _ (items_behind text [] items) put c.in_err-put_to.ensures.wrote.err
          (item_put text items i c.item-item.result old c.loop-item.before.now _ (omega arith) c.item-item.is c.loop-item.invariant.whole));
    }

pub loop-item-preserved : goal.loop-item-preserved
loop-item-preserved g c =
    let text = g.I.Item.text in
    let items = c.args.items.now in
    let i = c.loop-item.item-index in
    let old = c.loop-item.invariant.written in
    let put =
    puts_then c.loop-item.invariant.put c.in_ok-put.ensures.wrote.ok in
    record {
      written = (old ++ c.loop-item.before.now) ++ _;
      put =
          puts_then put c.in_ok-put_to.ensures.wrote.ok;
      whole = item_put text items i c.item-item.result old c.loop-item.before.now _ (omega arith) c.item-item.is c.loop-item.invariant.whole;
    }
