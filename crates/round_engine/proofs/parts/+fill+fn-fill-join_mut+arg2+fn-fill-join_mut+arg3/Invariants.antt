use Rattle.std.proofs.Common.{length}
use Rattle.round_engine.proofs.parts.+fill+fn-fill-join_mut+arg2+fn-fill-join_mut+arg3.Given as goal

abbrev pub decreases-fill : goal.decreases-fill
decreases-fill g l = length l.places.now

abbrev pub decreases-join_mut+arg2 : goal.decreases-join_mut+arg2
decreases-join_mut+arg2 g l = length l.front.now

abbrev pub decreases-join_mut+arg3 : goal.decreases-join_mut+arg3
decreases-join_mut+arg3 g l = length l.back.now
