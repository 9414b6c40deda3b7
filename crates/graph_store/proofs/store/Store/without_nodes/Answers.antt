use Rattle.store_tables.specs.Counted.{node_classes, rel_classes, node_props, rel_props}
use Rattle.graph_store.proofs.NameCounts.{counted-gone}
use Rattle.graph_store.specs.Edits.{ends_live}
use Rattle.graph_store.proofs.SourceLemmas.{linked-after, mapped_length, kept_keeps_sources}
use Rattle.std.proofs.Common.{arith}
use Rattle.std.proofs.lemmas.Result.{err_from_is_err_and}
use Rattle.graph_model.specs.declared.change.Change.TheVariants.{DeleteNodes}
use Rattle.graph_model.specs.Graph.{node_value_count, rel_value_count}
use Rattle.graph_store.proofs.ChangeLemmas.{values_fit, gone_few, refused_for_node, nodes_gone_made, nodes_gone_answer}
use Rattle.graph_store.proofs.store.Store.without_nodes.Goals as goal

pub returns-in_err-nodes-clause-refused : goal.returns-in_err-nodes-clause-refused
returns-in_err-nodes-clause-refused c =
    let p = err_from_is_err_and c.from_residual.result c.from_residual.ensures.1 in
    rw (p.1, p.2) (refused_for_node c.self.inside.nodes c.self.inside.rels c.args.self.now (DeleteNodes c.args.ids.now) c.in_err-nodes.field-0.0
    c.self.invariant.sound.node_slots c.self.view_is c.in_err-nodes.ensures.refused)

pub gone_values-requires : goal.gone_values-requires
gone_values-requires c =
    let fit = values_fit c.self.inside.nodes c.self.inside.rels c.self.inside.values c.self.invariant.sound in
    let nodes = c.in_ok-nodes.ensures.counted node_value_count in omega (arith, fit.0, fit.1, nodes)

pub gone_values-requires-2 : goal.gone_values-requires-2
gone_values-requires-2 c =
    let fit = values_fit c.self.inside.nodes c.self.inside.rels c.self.inside.values c.self.invariant.sound in
    let rels = c.in_ok-rels.ensures.counted rel_value_count in omega (arith, fit.0, fit.1, rels)

pub overflow_sub-values : goal.overflow_sub-values
overflow_sub-values c =
    let fit = values_fit c.self.inside.nodes c.self.inside.rels c.self.inside.values c.self.invariant.sound in
    let nodes = c.in_ok-nodes.ensures.counted node_value_count in omega (arith, fit.0, nodes, c.gone_values.ensures)

pub overflow_sub-values-2 : goal.overflow_sub-values-2
overflow_sub-values-2 c =
    let fit = values_fit c.self.inside.nodes c.self.inside.rels c.self.inside.values c.self.invariant.sound in
    let nodes = c.in_ok-nodes.ensures.counted node_value_count in
    let rels = c.in_ok-rels.ensures.counted rel_value_count in omega (arith, fit.0, nodes, rels, c.gone_values.ensures, c.gone_values-2.ensures)

pub overflow_cast-answer : goal.overflow_cast-answer
overflow_cast-answer c =
    let few = c.self.invariant.sound.within.nodes in
    let gone = gone_few c.self.inside.nodes c.in_ok-nodes.nodes c.in_ok-nodes.gone_nodes c.in_ok-nodes.ensures.counted in omega (arith, few, gone, c.len.ensures)

pub overflow_cast-answer-2 : goal.overflow_cast-answer-2
overflow_cast-answer-2 c =
    let few = c.self.invariant.sound.within.rels in
    let gone = gone_few c.self.inside.rels c.in_ok-rels.rels c.in_ok-rels.gone_rels c.in_ok-rels.ensures.counted in omega (arith, few, gone, c.len-2.ensures)

pub invariant_of-store : goal.invariant_of-store
invariant_of-store c =
    let nodes = c.in_ok-nodes.ensures in let rels = c.in_ok-rels.ensures in
    record {
      sound = (nodes_gone_made c.self.inside.nodes c.self.inside.rels c.self.inside.values c.args.self.now c.args.ids.now c.in_ok-nodes.nodes c.in_ok-rels.rels c.gone_values.result c.gone_values-2.result
          (record { sound = c.self.invariant.sound; is = c.self.view_is; found = nodes.found; nodes_gone = nodes.removed; rels_gone = rels.removed; node_count = rw c.gone_values.ensures (nodes.counted node_value_count); rel_count = rw c.gone_values-2.ensures (rels.counted rel_value_count) })).0;
      linked = linked-after c.self.inside.nodes c.in_ok-nodes.nodes c.self.inside.rels c.in_ok-rels.rels c.self.inside.links c.in_ok-links.links c.self.invariant.linked c.in_ok-links.ensures
          (mapped_length c.self.inside.nodes c.in_ok-nodes.nodes _ nodes.removed) (mapped_length c.self.inside.rels c.in_ok-rels.rels _ rels.removed) (kept_keeps_sources c.self.inside.rels c.in_ok-rels.rels (ends_live c.in_ok-nodes.nodes) rels.removed);
      nodes_counted = counted-gone node_classes node_props c.self.inside.nodes c.in_ok-nodes.nodes c.in_ok-nodes.gone_nodes c.self.inside.node_names.classes c.self.inside.node_names.keys c.in_ok-node_names.node_names.classes c.in_ok-node_names.node_names.keys
          c.self.invariant.nodes_counted nodes.counted c.in_ok-node_names.ensures.classes c.in_ok-node_names.ensures.keys;
      rels_counted = counted-gone rel_classes rel_props c.self.inside.rels c.in_ok-rels.rels c.in_ok-rels.gone_rels c.self.inside.rel_names.classes c.self.inside.rel_names.keys c.in_ok-rel_names.rel_names.classes c.in_ok-rel_names.rel_names.keys
          c.self.invariant.rels_counted rels.counted c.in_ok-rel_names.ensures.classes c.in_ok-rel_names.ensures.keys;
    }

pub returns-clause-ok : goal.returns-clause-ok
returns-clause-ok c =
    let nodes = c.in_ok-nodes.ensures in let rels = c.in_ok-rels.ensures in
    (nodes_gone_made c.self.inside.nodes c.self.inside.rels c.self.inside.values c.args.self.now c.args.ids.now c.in_ok-nodes.nodes c.in_ok-rels.rels c.gone_values.result c.gone_values-2.result
    (record { sound = c.self.invariant.sound; is = c.self.view_is; found = nodes.found; nodes_gone = nodes.removed; rels_gone = rels.removed; node_count = rw c.gone_values.ensures (nodes.counted node_value_count); rel_count = rw c.gone_values-2.ensures (rels.counted rel_value_count) })).1

pub returns-clause-answer : goal.returns-clause-answer
returns-clause-answer c =
    let nodes = c.in_ok-nodes.ensures in let rels = c.in_ok-rels.ensures in
    let made = nodes_gone_made c.self.inside.nodes c.self.inside.rels c.self.inside.values c.args.self.now c.args.ids.now c.in_ok-nodes.nodes c.in_ok-rels.rels c.gone_values.result c.gone_values-2.result
    (record { sound = c.self.invariant.sound; is = c.self.view_is; found = nodes.found; nodes_gone = nodes.removed; rels_gone = rels.removed; node_count = rw c.gone_values.ensures (nodes.counted node_value_count); rel_count = rw c.gone_values-2.ensures (rels.counted rel_value_count) }) in
    rw (c.len.ensures, c.len-2.ensures) (nodes_gone_answer c.self.inside.nodes c.in_ok-nodes.nodes c.self.inside.rels c.in_ok-rels.rels c.args.self.now c.args.ids.now c.in_ok-nodes.gone_nodes c.in_ok-rels.gone_rels
    c.self.view_is made.1.0 nodes.counted rels.counted)
