use Rattle.std.proofs.Common.{sym, arith}
use Rattle.gds_session.proofs.DigitByDigit.{digits_below-large, digits_value-reaches}
use Rattle.gds_session.proofs.once.digits_below.Goals as goal

pub returns-then-value-limit-clause-value : goal.returns-then-value-limit-clause-value
returns-then-value-limit-clause-value c = sym (digits_below-large c.args.limit c.args.text.now (digits_value-reaches c.args.limit c.loop-b.value c.args.text.now c.loop-b.b-index (omega arith) c.loop-b.invariant.value c.if-not-is_ascii_digit.ensures.cases.0 c.if-not-is_ascii_digit.ensures.cases.1 (omega arith)))
