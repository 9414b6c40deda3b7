use Rattle.std.proofs.Common.{◌≡◌, length}
use Rattle.gds_bench.proofs.rounds.ascending.Given as goal

-- there are as many values as places so far
abbrev pub invariant-loop-place : goal.invariant-loop-place
invariant-loop-place l = length l.values.items ≡ l.place
