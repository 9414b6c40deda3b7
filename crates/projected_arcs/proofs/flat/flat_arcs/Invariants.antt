use Rattle.std.proofs.Common.{◌≡◌, ◌++◌, drop, map}
use Rattle.projected_arcs.specs.Flat.{flat_arcs}
use Rattle.projected_arcs.proofs.flat.flat_arcs.Given as goal

-- the arcs so far with those of the relationships to come are the arcs of all
abbrev pub invariant-loop-place : goal.invariant-loop-place
invariant-loop-place l = flat_arcs l.orientation 0 (map (λ rel. rel.now) l.rels) ≡ l.arcs.items ++ flat_arcs l.orientation l.place (map (λ rel. rel.now) (drop l.place l.rels))
