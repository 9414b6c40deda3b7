use Rattle.std.proofs.Common.{◌≡◌, map, take}
use Rattle.projected_arcs.specs.Flat.{kept_value}
use Rattle.projected_arcs.proofs.rows.values_of.Given as goal

-- the values so far
abbrev pub invariant-loop-rel : goal.invariant-loop-rel
invariant-loop-rel l = l.values.items ≡ map (λ rel. kept_value rel.now.props l.prop) (take l.rel-index l.rels)
