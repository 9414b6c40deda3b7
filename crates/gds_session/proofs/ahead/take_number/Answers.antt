use Rattle.std.proofs.Common.{◌≡◌, ℕ, ◌<◌, ◌≤◌, ◌-◌, length, List, get_or, arith, ap, sym, ◌∙◌}
use Rattle.std.specs.Char.{is_ascii_digit}
use Rattle.std.proofs.lemmas.List.{get_or-take}
use Rattle.gds_session.proofs.FrontNumbers.{all_ascii_digits-more, digits_value-more, digits_value-seven}
use Rattle.gds_session.proofs.ahead.take_number.Goals as goal

pub overflow_mul-value : goal.overflow_mul-value
overflow_mul-value c =
    let few : c.loop-place.place ≤ 7 = omega (arith, c.split_at.ensures.front_len) in
    omega (arith, digits_value-seven c.args.text.now c.loop-place.place c.loop-place.value few c.loop-place.invariant.digits c.loop-place.invariant.value)

pub overflow_add-value : goal.overflow_add-value
overflow_add-value c =
    let few : c.loop-place.place ≤ 7 = omega (arith, c.split_at.ensures.front_len) in
    omega (
      arith,
      c.from.ensures,
      c.if-not-is_ascii_digit.ensures.cases,
      digits_value-seven c.args.text.now c.loop-place.place c.loop-place.value few c.loop-place.invariant.digits c.loop-place.invariant.value,
    )

pub loop-place-preserved : goal.loop-place-preserved
loop-place-preserved c =
    let place = c.loop-place.place in
    let text = c.args.text.now in
    let same : get_or c.split_at.result.0.now place 0 ≡ get_or text place 0 =
    ap (λ (front : List ℕ). get_or front place 0) c.split_at.ensures.front ∙ get_or-take c.min.result text place 0 (omega (arith, c.split_at.ensures.front_len)) in
    let inside : place < length text = omega (arith, c.split_at.ensures.front_len, c.min.ensures) in
    let here = c.if-not-is_ascii_digit.ensures in
    record {
      digits = all_ascii_digits-more text place inside c.loop-place.invariant.digits (ap is_ascii_digit (sym same) ∙ sym here.value);
      value = digits_value-more text place c.loop-place.value c.from.result inside c.loop-place.invariant.value (omega (arith, same, here.cases)) (omega (arith, same, here.cases)) (c.from.ensures ∙ ap (λ b. b - 48) same);
    }
