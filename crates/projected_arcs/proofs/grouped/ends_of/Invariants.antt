use Rattle.std.proofs.Common.{◌≡◌, map, take}
use Rattle.projected_arcs.specs.Types.{grouped_ends}
use Rattle.projected_arcs.proofs.grouped.ends_of.Given as goal

-- the ends so far
abbrev pub invariant-loop-arc : goal.invariant-loop-arc
invariant-loop-arc l = l.ends.items ≡ map (grouped_ends l.places) (take l.arc-index l.arcs)
