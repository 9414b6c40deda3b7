use Rattle.std.proofs.Common.{◌≡◌, ◌+◌, drop}
use Rattle.std.specs.List.{position_or_len}
use Rattle.gds_session.specs.Reading.{is_byte}
use Rattle.gds_session.proofs.once.place_of.Given as goal

-- the place in what is left, and what was passed, make the place in the whole
abbrev pub invariant-loop-i : goal.invariant-loop-i
invariant-loop-i l = position_or_len (is_byte l.byte) (drop l.i l.text) + l.i ≡ position_or_len (is_byte l.byte) l.text
