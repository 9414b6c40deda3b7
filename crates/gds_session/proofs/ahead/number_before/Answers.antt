use Rattle.std.proofs.Common.{◌≡◌, ◌≤◌, ◌++◌, get_or, decimal, arith, sym, ap, ◌∙◌}
use Rattle.gds_session.proofs.FrontNumbers.{decimal-front}
use Rattle.gds_session.proofs.ahead.number_before.Goals as goal
use Rattle.gds_session.proofs.ahead.number_before.Goals.{else-place-gt1-via-then-place-gt1+else-text-eq48, else-place-gt1-via-else-place-gt1}

pub returns-clause-text : goal.returns-clause-text
returns-clause-text c =
    let lone = λ (zero : get_or c.args.text.now 0 0 ≡ 48).
    elim c.else-place-gt1.branch as (λ _. c.args.place ≤ 1) [
      | else-place-gt1-via-then-place-gt1+else-text-eq48 w ↦ omega arith
      | else-place-gt1-via-else-place-gt1 w ↦ omega arith
    ] in
    decimal-front c.args.text.now c.args.place c.args.value (omega arith) c.requires.place c.requires.digits c.requires.value (omega arith) lone
    ∙ ap (λ rest. decimal c.args.value ++ rest) (sym c.split_at.ensures.back)
