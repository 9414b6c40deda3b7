use Rattle.std.proofs.Common.{rules, ◌+◌, ◌++◌, arith, refl, drop, []}
use Rattle.text_sinks.specs.Parts.{part_text, parts_text}
use Rattle.text_sinks.proofs.ToldLemmas.{puts_nothing, puts_then, wrote_err}
use Rattle.text_sinks.proofs.PartLemmas.{one_more, stops_within}
use Rattle.text_sinks.proofs.part.put_parts.Goals as goal

pub loop-part-init : goal.loop-part-init
loop-part-init g c = record { written = []; put = puts_nothing (g.T.TextSink.told c.args.text.now); whole = refl }

pub returns-in_err-put_part : goal.returns-in_err-put_part
returns-in_err-put_part g c =
    let parts = c.args.parts.now in
    let i = c.loop-part.part-index in
    record {
      wrote =
          wrote_err (search rules)
          (stops_within (g.T.TextSink.told c.args.text.now) (g.T.TextSink.told c.loop-part.text) (g.T.TextSink.told c.put_part.new.text)
          c.loop-part.invariant.written _ (parts_text (drop (i + 1) parts)) (parts_text parts)
          c.loop-part.invariant.put c.in_err-put_part.ensures.wrote.err
          (one_more part_text parts i _ c.loop-part.invariant.written _ (omega arith) c.loop-part.invariant.whole));
    }

pub loop-part-preserved : goal.loop-part-preserved
loop-part-preserved g c =
    let parts = c.args.parts.now in
    let i = c.loop-part.part-index in
    record {
      written = c.loop-part.invariant.written ++ _;
      put =
          puts_then c.loop-part.invariant.put c.in_ok-put_part.ensures.wrote.ok;
      whole = one_more part_text parts i _ c.loop-part.invariant.written _ (omega arith) c.loop-part.invariant.whole;
    }
