use Rattle.std.proofs.Common.{◌≡◌, ◌*◌, take, pos, ◌≤ℤ◌}
use Rattle.graph_model.specs.Degrees.{sum_of}
use Rattle.par_degree.proofs.counting.weight_sum.Given as goal

abbrev pub invariant-loop-weight : goal.invariant-loop-weight
invariant-loop-weight l =
    (l.sum ≡ sum_of (take l.weight-index l.weights)) × (pos 0 ≤ℤ l.sum) × (l.sum ≤ℤ pos (4294967295 * l.weight-index))
