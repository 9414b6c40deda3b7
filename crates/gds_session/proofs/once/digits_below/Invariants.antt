use Rattle.std.proofs.Common.{◌≡◌, ◌<◌, ◌≤◌, drop}
use Rattle.std.specs.Str.{all_ascii_digits}
use Rattle.std.specs.Str.Parse.{digits_value, digits_value_after}
use Rattle.gds_session.specs.OnceText.{most_nodes}
use Rattle.gds_session.proofs.once.digits_below.Given as goal

-- what is left goes on from the value so far, which is below the limit once there was a digit
abbrev pub invariant-loop-b : goal.invariant-loop-b
invariant-loop-b l = record {
  value : digits_value_after 10 l.value (drop l.b-index l.text) ≡ digits_value 10 l.text;
  digits : all_ascii_digits (drop l.b-index l.text) ≡ all_ascii_digits l.text;
  below : 0 < l.b-index → l.value < l.limit;
  small : l.value ≤ most_nodes;
}
