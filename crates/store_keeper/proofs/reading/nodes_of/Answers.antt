use Rattle.std.proofs.Common.{List, ◌≡◌, ◌++◌, [], sym, ap, ◌∙◌, arith}
use Rattle.std.specs.List.{cons_option, find}
use Rattle.graph_model.specs.declared.graph.Node.{Node}
use Rattle.graph_model.specs.Graph.{is_node}
use Rattle.graph_model.specs.ById.{nodes_below}
use Rattle.store_keeper.proofs.reading.nodes_of.Goals as goal

pub loop-id-init : goal.loop-id-init
loop-id-init c = c.new-nodes.ensures ∙ sym (c.elements_come_by_id.ensures c.args.store.now c.requires).0.first

pub loop-id-preserved : goal.loop-id-preserved
loop-id-preserved c =
    c.in_ok-push_found.ensures
    ∙ ap (λ found. c.loop-id.nodes ++ cons_option found []) c.node.ensures
    ∙ ap (λ (front : List Node). front ++ cons_option (find (is_node c.loop-id.id) c.args.store.now.nodes) []) c.loop-id.invariant
    ∙ sym ((c.elements_come_by_id.ensures c.args.store.now c.requires).0.next c.loop-id.id)

pub returns : goal.returns
returns c =
    let ended : c.loop-id.id ≡ c.args.store.now.next_node = omega arith in
    c.loop-id.invariant
    ∙ ap (λ id. nodes_below id c.args.store.now) ended
    ∙ (c.elements_come_by_id.ensures c.args.store.now c.requires).0.last
