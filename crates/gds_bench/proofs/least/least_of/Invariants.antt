use Rattle.std.proofs.Common.{◌≡◌, drop}
use Rattle.gds_bench.specs.Least.{least_of}
use Rattle.gds_bench.proofs.least.least_of.Given as goal

-- the least so far, taken on over the places that are left, is the least of all
abbrev pub invariant-loop-place : goal.invariant-loop-place
invariant-loop-place l = least_of l.column l.least (drop l.place-index l.places) ≡ least_of l.column l.own l.places
