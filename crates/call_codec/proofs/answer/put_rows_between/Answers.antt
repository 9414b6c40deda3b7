use Rattle.std.proofs.Common.{rules, ◌≡◌, ◌∙◌, ◌+◌, ◌<◌, w64, to_z-of_z, ℕ, ℤ, [], ◌∷◌, ◌++◌, length, drop, get_or, min, refl, sym, ap, ap₂, arith, append-nil, length-append, codes, subst}
use Rattle.std.specs.List.{zip}
use Rattle.std.proofs.lemmas.List.{drop_all}
use Rattle.std.proofs.lemmas.Slice.Zip.{zip_end, zip_turn, get_or-zip, length-zip}
use Rattle.text_sinks.specs.Told.{Puts}
use Rattle.text_sinks.proofs.ToldLemmas.{puts_nothing, puts_then, wrote_err}
use Rattle.text_sinks.proofs.PartLemmas.{stops_within}
use Rattle.call_codec.specs.Answers.{items_behind, row_text}
use Rattle.call_codec.proofs.ItemTexts.{item_more}
use Rattle.call_codec.proofs.answer.put_rows_between.Goals as goal

pub loop-id-init : goal.loop-id-init
loop-id-init g c = record { written = []; put = puts_nothing (g.T.TextSink.told c.args.text.now); whole = refl }

pub returns-in_err-put_row : goal.returns-in_err-put_row
returns-in_err-put_row g c =
    let ids = c.args.ids.now in
    let values = c.args.values.now in
    let k = length c.loop-id.yielded in
    let text = row_text c.args.name.now in
    let row : ℕ × ℤ = (c.in-Some.id.now, c.in-Some.value.now) in
    let same = to_z-of_z {w = w64} {z = c.in-Some.value.now} (search rules) in
    let turn =
    zip_turn ids values c.loop-id.yielded c.into_iter-id-iterator.result c.loop-id.id-iterator c.next.new.self c.next.result
    (search rules) (search rules) c.loop-id.yielded_by (c.in-Some.id, c.in-Some.value) c.in-Some.is c.next.ensures.steps in
    let inside : k < length (zip ids values) = omega (arith, turn.0, turn.1, length-zip ids values) in
    let at : row ≡ get_or (zip ids values) k row = ap₂ (λ (a : ℕ) (b : ℤ). (a, b)) (turn.2 _) (turn.3 _) ∙ sym (get_or-zip ids values k row turn.0 turn.1) in
    record {
      wrote =
          wrote_err (search rules)
          (stops_within (g.T.TextSink.told c.args.text.now) (g.T.TextSink.told c.loop-id.text) (g.T.TextSink.told c.put_row.new.text)
          c.loop-id.invariant.written (c.loop-id.before.now ++ text row) (items_behind text (codes ",") (drop (k + 1) (zip ids values)))
          (items_behind text [] (zip ids values)) c.loop-id.invariant.put (rw same at c.in_err-put_row.ensures.wrote.err)
          (item_more text (zip ids values) k row c.loop-id.invariant.written c.loop-id.before.now _ inside at c.loop-id.invariant.whole));
    }

pub loop-id-preserved : goal.loop-id-preserved
loop-id-preserved g c =
    let ids = c.args.ids.now in
    let values = c.args.values.now in
    let k = length c.loop-id.yielded in
    let text = row_text c.args.name.now in
    let row : ℕ × ℤ = (c.in-Some.id.now, c.in-Some.value.now) in
    let same = to_z-of_z {w = w64} {z = c.in-Some.value.now} (search rules) in
    let turn =
    zip_turn ids values c.loop-id.yielded c.into_iter-id-iterator.result c.loop-id.id-iterator c.next.new.self c.next.result
    (search rules) (search rules) c.loop-id.yielded_by (c.in-Some.id, c.in-Some.value) c.in-Some.is c.next.ensures.steps in
    let inside : k < length (zip ids values) = omega (arith, turn.0, turn.1, length-zip ids values) in
    let at : row ≡ get_or (zip ids values) k row = ap₂ (λ (a : ℕ) (b : ℤ). (a, b)) (turn.2 _) (turn.3 _) ∙ sym (get_or-zip ids values k row turn.0 turn.1) in
    let old : Puts (g.T.TextSink.told c.args.text.now) (g.T.TextSink.told c.loop-id.text) c.loop-id.invariant.written = c.loop-id.invariant.put in
    let put : Puts (g.T.TextSink.told c.loop-id.text) (g.T.TextSink.told c.put_row.new.text) (c.loop-id.before.now ++ text row) = (rw same at c.in_ok-put_row.ensures.wrote.ok) in
    record {
      written = c.loop-id.invariant.written ++ (c.loop-id.before.now ++ text row);
      put = puts_then old put;
      whole =
          rw (length-append c.loop-id.yielded ((c.in-Some.id, c.in-Some.value) ∷ []))
          (item_more text (zip ids values) k row c.loop-id.invariant.written c.loop-id.before.now _ inside at c.loop-id.invariant.whole);
    }

pub returns : goal.returns
returns g c =
    let ids = c.args.ids.now in
    let values = c.args.values.now in
    let k = length c.loop-id.yielded in
    let text = row_text c.args.name.now in
    let ended : k ≡ min (length ids) (length values) =
    zip_end ids values c.loop-id.yielded c.into_iter-id-iterator.result c.loop-id.id-iterator c.next.new.self c.next.result
    (search rules) (search rules) c.loop-id.yielded_by c.in-None.is c.next.ensures.steps in
    let none : drop k (zip ids values) ≡ [] = drop_all k (zip ids values) (omega (arith, ended, length-zip ids values)) in
    let whole : c.loop-id.invariant.written ≡ items_behind text [] (zip ids values) =
    sym (append-nil c.loop-id.invariant.written)
    ∙ ap (λ rows. c.loop-id.invariant.written ++ items_behind text c.loop-id.before.now rows) (sym none) ∙ c.loop-id.invariant.whole in
    record {
      wrote = record {
        ok = subst (Puts (g.T.TextSink.told c.args.text.now) (g.T.TextSink.told c.loop-id.text)) whole c.loop-id.invariant.put;
        err = tt;
      };
    }
