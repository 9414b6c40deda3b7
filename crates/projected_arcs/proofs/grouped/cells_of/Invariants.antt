use Rattle.std.proofs.Common.{◌≡◌, ◌++◌, drop}
use Rattle.projection_spec.specs.RawArcs.{cells_of}
use Rattle.projected_arcs.proofs.grouped.cells_of.Given as goal

-- the cells so far with those to come are all cells
abbrev pub invariant-loop-prop : goal.invariant-loop-prop
invariant-loop-prop l = cells_of l.stored l.props ≡ l.cells.items ++ cells_of l.stored (drop l.prop-index l.props)
