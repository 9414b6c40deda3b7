use Rattle.std.proofs.Common.{◌≡◌, map, take}
use Rattle.projected_arcs.specs.Flat.{flat_ends}
use Rattle.projected_arcs.proofs.rows.ends_of.Given as goal

-- the ends so far
abbrev pub invariant-loop-arc : goal.invariant-loop-arc
invariant-loop-arc l = l.ends.items ≡ map (flat_ends l.places) (take l.arc-index l.arcs)
