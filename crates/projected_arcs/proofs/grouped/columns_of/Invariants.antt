use Rattle.std.proofs.Common.{◌≡◌, ◌++◌, drop}
use Rattle.projected_arcs.specs.Types.{grouped_columns}
use Rattle.projected_arcs.proofs.grouped.columns_of.Given as goal

-- the columns so far with those to come are all columns
abbrev pub invariant-loop-place : goal.invariant-loop-place
invariant-loop-place l = grouped_columns l.arcs 0 l.props ≡ l.columns.items ++ grouped_columns l.arcs l.place (drop l.place l.props)
