use Rattle.std.proofs.Common.{◌≡◌, ◌≤◌, length, map}
use Rattle.std.specs.List.{filter}
use Rattle.graph_model.specs.ById.{rels_below}
use Rattle.projected_arcs.specs.Flat.{joins_placed}
use Rattle.projected_arcs.proofs.matching.matching_rels.Given as goal

-- the relationships so far are those with ids below this one, and no more than that
abbrev pub invariant-loop-id : goal.invariant-loop-id
invariant-loop-id l = record {
  rels : map (λ rel. rel.now) l.rels.items ≡ filter (joins_placed l.places l.entry) (rels_below l.id l.from);
  few : length l.rels.items ≤ l.id;
}
