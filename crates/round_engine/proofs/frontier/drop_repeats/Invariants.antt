use Rattle.round_engine.proofs.Spreading.{IsKeptBefore}
use Rattle.round_engine.proofs.frontier.drop_repeats.Given as goal

abbrev pub invariant-loop-at : goal.invariant-loop-at
invariant-loop-at l = IsKeptBefore l.fn.places l.places l.kept l.at
