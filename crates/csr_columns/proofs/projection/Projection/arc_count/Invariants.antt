use Rattle.std.proofs.Common.{◌≡◌, take}
use Rattle.csr_columns.specs.Parts.{arcs_in}
use Rattle.csr_columns.proofs.projection.Projection.arc_count.Given as goal

-- the arcs of the types so far
abbrev pub invariant-loop-kind : goal.invariant-loop-kind
invariant-loop-kind l = l.count ≡ arcs_in (take l.kind-index l.kind-items)
