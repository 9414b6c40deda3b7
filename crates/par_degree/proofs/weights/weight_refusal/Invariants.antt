use Rattle.std.proofs.Common.{◌≡◌, ℕ, ◌<◌, None}
use Rattle.graph_model.specs.Degrees.{first_refused}
use Rattle.csr_columns.specs.ViewParts.{view_row}
use Rattle.par_degree.proofs.weights.weight_refusal.Given as goal

abbrev pub invariant-loop-v : goal.invariant-loop-v
invariant-loop-v l = (u : ℕ) → u < l.v → first_refused (view_row l.fn.view u) ≡ None
