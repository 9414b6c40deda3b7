use Rattle.std.proofs.Common.{List, ◌≡◌, ◌++◌, [], sym, ap, ◌∙◌, arith}
use Rattle.std.specs.List.{cons_option, find}
use Rattle.graph_model.specs.declared.graph.Rel.{Rel}
use Rattle.graph_model.specs.Graph.{is_rel}
use Rattle.graph_model.specs.ById.{rels_below}
use Rattle.store_keeper.proofs.reading.rels_of.Goals as goal

pub loop-id-init : goal.loop-id-init
loop-id-init c = c.new-rels.ensures ∙ sym (c.elements_come_by_id.ensures c.args.store.now c.requires).1.first

pub loop-id-preserved : goal.loop-id-preserved
loop-id-preserved c =
    c.in_ok-push_found.ensures
    ∙ ap (λ found. c.loop-id.rels ++ cons_option found []) c.rel.ensures
    ∙ ap (λ (front : List Rel). front ++ cons_option (find (is_rel c.loop-id.id) c.args.store.now.rels) []) c.loop-id.invariant
    ∙ sym ((c.elements_come_by_id.ensures c.args.store.now c.requires).1.next c.loop-id.id)

pub returns : goal.returns
returns c =
    let ended : c.loop-id.id ≡ c.args.store.now.next_rel = omega arith in
    c.loop-id.invariant
    ∙ ap (λ id. rels_below id c.args.store.now) ended
    ∙ (c.elements_come_by_id.ensures c.args.store.now c.requires).1.last
