use Rattle.round_engine.proofs.Spreading.{IsAppendedBefore}
use Rattle.round_engine.proofs.frontier.append_touched.Given as goal

abbrev pub invariant-loop-at : goal.invariant-loop-at
invariant-loop-at g l = IsAppendedBefore (g.K.Kernel.size l.fn.kernel) (g.K.Kernel.touched l.fn.kernel) l.fn.places l.places l.fn.count l.end l.at
