use Rattle.std.proofs.Common.{◌≡◌, ◌∷◌, [], drop, sym, ap, ◌∙◌}
use Rattle.std.specs.List.{position_or_len}
use Rattle.call_codec.specs.Lines.{is_lf}
use Rattle.gds_session.proofs.PieceLemmas.{cut_at, no_cut, no_items}
use Rattle.gds_session.proofs.serving.cut_line.Goals as goal

pub returns-in-Some : goal.returns-in-Some
returns-in-Some c =
    let bytes = c.args.bytes.now in
    let from : drop (position_or_len is_lf bytes) bytes ≡ c.in-Some.field-0-0.now ∷ c.in-Some.behind.now =
    sym (ap (λ n. drop n bytes) c.place_of.ensures.place) ∙ sym c.split_at.ensures.back ∙ c.in-Some.ensures.cases.0 in
    rw (c.split_at.ensures.front, c.place_of.ensures.place) (cut_at bytes c.in-Some.field-0-0.now c.in-Some.behind.now from)

pub returns-in-None : goal.returns-in-None
returns-in-None c =
    let bytes = c.args.bytes.now in
    let from : drop (position_or_len is_lf bytes) bytes ≡ [] =
    sym (ap (λ n. drop n bytes) c.place_of.ensures.place) ∙ sym c.split_at.ensures.back ∙ no_items c.split_at.result.1.now c.in-None.ensures.cases in
    no_cut bytes from
