use Rattle.round_engine.specs.Rounds.{left}
use Rattle.gds_bench.proofs.rounds.until_done.Given as goal

-- each round in which some value falls makes their sum smaller
abbrev pub decreases-loop : goal.decreases-loop
decreases-loop g l = left l.rounds
