use Rattle.std.proofs.Common.{◌≡◌, map, take}
use Rattle.projected_arcs.specs.Flat.{raw_of}
use Rattle.projected_arcs.proofs.grouped.raw_arcs.Given as goal

-- the raw arcs so far
abbrev pub invariant-loop-arc : goal.invariant-loop-arc
invariant-loop-arc l = l.raws.items ≡ map (raw_of (map (λ rel. rel.now) l.rels) l.props) (take l.arc-index l.arcs)
