use Rattle.std.proofs.Common.{ℕ, ◌<◌, get_or}
use Rattle.csr_columns.specs.Rows.{LiesBelow}
use Rattle.gds_bench.proofs.graph.lie_below.Given as goal

-- the arcs so far lie below the number of nodes
abbrev pub invariant-loop-arc : goal.invariant-loop-arc
invariant-loop-arc l = (k : ℕ) (d : ℕ × ℕ) → k < l.arc-index → LiesBelow l.nodes (get_or l.ends k d)
