use Rattle.par_degree.specs.Weights.{AreTaken}
use Rattle.par_degree.proofs.weights.first_out_of_range.Given as goal

abbrev pub invariant-loop-at : goal.invariant-loop-at
invariant-loop-at l = AreTaken l.weights l.at
