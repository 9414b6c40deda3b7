use Rattle.round_engine.proofs.Settling.{IsSettledBefore}
use Rattle.round_engine.proofs.frontier.settle.Given as goal

abbrev pub invariant-loop-at : goal.invariant-loop-at
invariant-loop-at l = IsSettledBefore l.fn.column l.column l.fn.places l.places l.fn.values l.fell l.at
