use Rattle.std.proofs.Common.{◌≡◌, take, true}
use Rattle.std.specs.Str.{all_ascii_digits}
use Rattle.std.specs.Str.Parse.{digits_value}
use Rattle.gds_session.proofs.ahead.take_number.Given as goal

-- the bytes so far are digits, and write the value so far
abbrev pub invariant-loop-place : goal.invariant-loop-place
invariant-loop-place l = record {
  digits : all_ascii_digits (take l.place l.text) ≡ true;
  value : digits_value 10 (take l.place l.text) ≡ l.value;
}
