use Rattle.std.proofs.Common.{◌≡◌, ◌-◌, ◌++◌, take}
use Rattle.graph_model.specs.Degrees.{degrees}
use Rattle.csr_columns.specs.ViewParts.{plain_view_of}
use Rattle.par_degree.proofs.counting.count_part.Given as goal

abbrev pub invariant-loop-v : goal.invariant-loop-v
invariant-loop-v l = take l.fn.from (degrees (plain_view_of l.fn.view)) ++ take (l.v - l.fn.from) l.step ≡ take l.v (degrees (plain_view_of l.fn.view))
