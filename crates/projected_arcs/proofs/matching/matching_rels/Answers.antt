use Rattle.std.proofs.Common.{◌≡◌, ◌≤◌, ◌++◌, ◌∷◌, [], List, Some, None, length, refl, sym, ap, ◌∙◌, arith}
use Rattle.std.proofs.lemmas.List.{append-nil}
use Rattle.std.specs.List.{filter, find}
use Rattle.std.specs.Option.{option_copied}
use Rattle.graph_model.specs.declared.graph.Rel.{Rel}
use Rattle.graph_model.specs.Graph.{is_rel}
use Rattle.graph_model.specs.ById.{rels_below}
use Rattle.projected_arcs.specs.Flat.{joins_placed}
use Rattle.projected_arcs.proofs.RelLemmas.{shown, shown-push, kept-next, found-kept, found-dropped, none-kept}
use Rattle.projected_arcs.proofs.matching.matching_rels.Goals as goal
use Rattle.projected_arcs.proofs.matching.matching_rels.Goals.{in-Some+then-joins_placed+in_ok-push, in-Some+else-joins_placed, in_default}

pub loop-id-preserved : goal.loop-id-preserved
loop-id-preserved c =
    let p = joins_placed c.args.places.now c.args.entry.now in
    let g = c.args.from.now in
    let id = c.loop-id.id in
    let found = find (is_rel id) g.rels in
    let before = filter p (rels_below id g) in
    let next = kept-next p g id (c.elements_come_by_id.ensures g c.next_node.ensures.valid).1 in
    elim c.match-rel.branch [
      | in-Some+then-joins_placed+in_ok-push w ↦
          let rel = w.in-Some.rel in
          let is : found ≡ Some rel.now = sym c.rel.ensures ∙ ap option_copied w.in-Some.is in
          rw w.rels-is (record {
            rels = ap shown w.in_ok-push.ensures.items
                ∙ shown-push c.loop-id.rels.items rel
                ∙ ap (λ (rels : List Rel). rels ++ rel.now ∷ []) c.loop-id.invariant.rels
                ∙ ap (λ (rels : List Rel). before ++ rels) (sym (found-kept p found rel.now is (sym w.joins_placed.ensures ∙ w.if-joins_placed.true)))
                ∙ sym next;
            few = omega (arith, w.in_ok-push.ensures.len, c.loop-id.invariant.few);
          })
      | in-Some+else-joins_placed w ↦
          let rel = w.in-Some.rel in
          let is : found ≡ Some rel.now = sym c.rel.ensures ∙ ap option_copied w.in-Some.is in
          rw w.rels-is (record {
            rels = c.loop-id.invariant.rels
                ∙ sym (append-nil before)
                ∙ ap (λ (rels : List Rel). before ++ rels) (sym (found-dropped p found rel.now is (sym w.joins_placed.ensures ∙ w.if-joins_placed.false)))
                ∙ sym next;
            few = omega (arith, c.loop-id.invariant.few);
          })
      | in_default w ↦
          let is : found ≡ None = sym c.rel.ensures ∙ ap option_copied w.in_default.is in
          rw w.rels-is (record {
            rels = c.loop-id.invariant.rels
                ∙ sym (append-nil before)
                ∙ ap (λ (rels : List Rel). before ++ rels) (sym (none-kept p found is))
                ∙ sym next;
            few = omega (arith, c.loop-id.invariant.few);
          })
    ]

pub returns-clause-rels : goal.returns-clause-rels
returns-clause-rels c =
    let p = joins_placed c.args.places.now c.args.entry.now in
    c.loop-id.invariant.rels
    ∙ ap (λ id. filter p (rels_below id c.args.from.now)) (omega (arith, c.next_rel-id-end.ensures))
    ∙ ap (filter p) (c.elements_come_by_id.ensures c.args.from.now c.next_node.ensures.valid).1.last
