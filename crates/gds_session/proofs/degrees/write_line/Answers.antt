use Rattle.std.proofs.Common.{◌≡◌, ℕ, ◌+◌, ◌-◌, ◌<◌, ◌++◌, drop, ap, ◌∙◌, arith, rules, decimal, length, length-set}
use Rattle.std.specs.Prelude.{slice_set}
use Rattle.gds_session.proofs.LineBytes.{decimal_short, line_written_back}
use Rattle.gds_session.proofs.degrees.write_line.Goals as goal

pub write_digits-space-requires : goal.write_digits-space-requires
write_digits-space-requires c = (omega (arith, decimal_short c.args.degree (omega arith)), search rules)

pub overflow_sub-space : goal.overflow_sub-space
overflow_sub-space c = omega (arith, decimal_short c.args.degree (omega arith), c.write_digits-space.ensures.start)

pub write_digits-requires : goal.write_digits-requires
write_digits-requires c =
    let kept = c.write_digits-space.auto.buf in (
      omega (arith, decimal_short c.from.result c.from.type_inv, decimal_short c.args.degree (omega arith), c.write_digits-space.ensures.start),
      omega (arith, length-set {A = ℕ}, kept, c.told-line, c.write_digits-space.ensures.start),
    )

pub returns-clause-line : goal.returns-clause-line
returns-clause-line c =
    let start = c.write_digits-space.result in
    let long = decimal_short c.args.degree (omega arith) in
    let second = c.write_digits-space.new.buf in
    let one : start - 1 + 1 ≡ start = omega (arith, long, c.write_digits-space.ensures.start) in
    let inside : start - 1 < length second =
    omega (arith, length-set {A = ℕ}, c.write_digits-space.auto.buf, c.told-line, c.write_digits-space.ensures.start) in
    line_written_back c.args.node c.args.degree c.write_digits.result (start - 1) 41 c.args.line.now second c.write_digits.new.buf
    (omega (arith, c.told-line)) inside (ap (λ n. drop n second) one ∙ c.write_digits-space.ensures.written)
    (c.write_digits.ensures.written ∙ ap (λ n. decimal n ++ drop (start - 1) (slice_set second (start - 1) 32)) c.from.ensures)
