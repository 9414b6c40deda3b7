use Rattle.std.proofs.Common.{◌≡◌, ◌+◌, take}
use Rattle.graph_model.specs.Projection.{most_arcs}
use Rattle.csr_columns.specs.Parts.{arcs_in}
use Rattle.native_projection.proofs.making.arcs_fit.Given as goal

-- the arcs so far and those that are left are as many as a projection has
abbrev pub invariant-loop-kind : goal.invariant-loop-kind
invariant-loop-kind l = arcs_in (take l.kind-index l.types) + l.left ≡ most_arcs
