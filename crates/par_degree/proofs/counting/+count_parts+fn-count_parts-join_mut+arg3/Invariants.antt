use Rattle.std.proofs.Common.{length}
use Rattle.par_degree.proofs.counting.+count_parts+fn-count_parts-join_mut+arg3.Given as goal

abbrev pub decreases-count_parts : goal.decreases-count_parts
decreases-count_parts g l = length l.step.now

abbrev pub decreases-join_mut+arg3 : goal.decreases-join_mut+arg3
decreases-join_mut+arg3 g l = length l.back.now
