use Rattle.std.proofs.Common.{◌≡◌, map, take}
use Rattle.projected_arcs.specs.Types.{value_at}
use Rattle.projected_arcs.proofs.grouped.column_at.Given as goal

-- the values so far
abbrev pub invariant-loop-arc : goal.invariant-loop-arc
invariant-loop-arc l = l.column.items ≡ map (value_at l.place) (take l.arc-index l.arcs)
