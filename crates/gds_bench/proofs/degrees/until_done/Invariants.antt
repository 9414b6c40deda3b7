use Rattle.par_degree.specs.Runs.{left}
use Rattle.gds_bench.proofs.degrees.until_done.Given as goal

-- each step that isn't the last leaves fewer nodes
abbrev pub decreases-loop-turned : goal.decreases-loop-turned
decreases-loop-turned g l = left l.run
