use Rattle.std.proofs.Common.{◌≡◌, map, take}
use Rattle.projected_arcs.specs.Flat.{picked_value}
use Rattle.projected_arcs.proofs.rows.picked.Given as goal

-- the values so far
abbrev pub invariant-loop-arc : goal.invariant-loop-arc
invariant-loop-arc l = l.picked.items ≡ map (picked_value l.values) (take l.arc-index l.arcs)
