use Rattle.std.proofs.Common.{◌≡◌, map, take}
use Rattle.projected_arcs.specs.Flat.{arc_column}
use Rattle.projected_arcs.proofs.rows.columns_of.Given as goal

-- the columns so far
abbrev pub invariant-loop-prop : goal.invariant-loop-prop
invariant-loop-prop l = l.columns.items ≡ map (arc_column (map (λ rel. rel.now) l.rels) l.arcs) (take l.prop-index l.props)
