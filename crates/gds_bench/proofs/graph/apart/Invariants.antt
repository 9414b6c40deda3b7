use Rattle.std.proofs.Common.{◌≡◌, length}
use Rattle.gds_bench.proofs.graph.apart.Given as goal

-- so far there is a value beside each arc
abbrev pub invariant-loop-source : goal.invariant-loop-source
invariant-loop-source l = length l.values.items ≡ length l.ends.items
