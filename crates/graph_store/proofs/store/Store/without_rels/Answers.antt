use Rattle.store_tables.specs.declared.census.Census.{Census}
use Rattle.store_tables.specs.Counted.{node_classes, rel_classes, node_props, rel_props}
use Rattle.graph_store.proofs.NameCounts.{counted-gone, counted-same}
use Rattle.std.proofs.Common.{ap, length}
use Rattle.store_tables.specs.Links.{rel_id}
use Rattle.graph_store.specs.Edits.{is_unlisted}
use Rattle.graph_store.proofs.SourceLemmas.{linked-after, mapped_length, kept_keeps_sources}
use Rattle.std.proofs.Common.{refl, arith}
use Rattle.std.proofs.lemmas.Result.{err_from_is_err_and}
use Rattle.graph_model.specs.declared.change.Change.TheVariants.{DeleteRels}
use Rattle.graph_model.specs.Graph.{rel_value_count}
use Rattle.graph_store.proofs.ChangeLemmas.{values_fit, gone_few, refused_for_rel, rels_gone_made, rels_gone_answer}
use Rattle.graph_store.proofs.store.Store.without_rels.Goals as goal

pub returns-in_err-rels-clause-refused : goal.returns-in_err-rels-clause-refused
returns-in_err-rels-clause-refused c =
    let p = err_from_is_err_and c.from_residual.result c.from_residual.ensures.1 in
    rw (p.1, p.2) (refused_for_rel c.self.inside.nodes c.self.inside.rels c.args.self.now (DeleteRels c.args.ids.now) c.in_err-rels.field-0.0
    c.self.invariant.sound.rel_slots c.self.view_is refl c.in_err-rels.ensures.refused)

pub gone_values-requires : goal.gone_values-requires
gone_values-requires c =
    let fit = values_fit c.self.inside.nodes c.self.inside.rels c.self.inside.values c.self.invariant.sound in
    let rels = c.in_ok-rels.ensures.counted rel_value_count in omega (arith, fit.0, fit.1, rels)

pub overflow_sub-values : goal.overflow_sub-values
overflow_sub-values c =
    let fit = values_fit c.self.inside.nodes c.self.inside.rels c.self.inside.values c.self.invariant.sound in
    let rels = c.in_ok-rels.ensures.counted rel_value_count in omega (arith, fit.0, rels, c.gone_values.ensures)

pub overflow_cast-answer : goal.overflow_cast-answer
overflow_cast-answer c =
    let few = c.self.invariant.sound.within.rels in
    let gone = gone_few c.self.inside.rels c.in_ok-rels.rels c.in_ok-rels.gone c.in_ok-rels.ensures.counted in omega (arith, few, gone, c.len.ensures)

pub invariant_of-store : goal.invariant_of-store
invariant_of-store c =
    let gone = c.in_ok-rels.ensures in
    record {
      sound = (rels_gone_made c.self.inside.nodes c.self.inside.rels c.self.inside.values c.args.self.now c.args.ids.now c.in_ok-rels.rels c.gone_values.result c.in_ok-nodes.nodes
          (record { sound = c.self.invariant.sound; is = c.self.view_is; found = gone.found; gone = gone.removed; counted = rw c.gone_values.ensures (gone.counted rel_value_count) }) c.in_ok-nodes.ensures).0;
      linked = linked-after c.self.inside.nodes c.in_ok-nodes.nodes c.self.inside.rels c.in_ok-rels.rels c.self.inside.links c.in_ok-links.links c.self.invariant.linked c.in_ok-links.ensures
          (ap length c.in_ok-nodes.ensures) (mapped_length c.self.inside.rels c.in_ok-rels.rels _ gone.removed) (kept_keeps_sources c.self.inside.rels c.in_ok-rels.rels (is_unlisted rel_id c.args.ids.now) gone.removed);
      nodes_counted = counted-same node_classes node_props c.self.inside.nodes c.in_ok-nodes.nodes c.self.inside.node_names.classes c.self.inside.node_names.keys c.in_ok-node_names.node_names.classes c.in_ok-node_names.node_names.keys
          c.in_ok-nodes.ensures (ap (λ (names : Census). names.classes) c.in_ok-node_names.ensures) (ap (λ (names : Census). names.keys) c.in_ok-node_names.ensures) c.self.invariant.nodes_counted;
      rels_counted = counted-gone rel_classes rel_props c.self.inside.rels c.in_ok-rels.rels c.in_ok-rels.gone c.self.inside.rel_names.classes c.self.inside.rel_names.keys c.in_ok-rel_names.rel_names.classes c.in_ok-rel_names.rel_names.keys
          c.self.invariant.rels_counted gone.counted c.in_ok-rel_names.ensures.classes c.in_ok-rel_names.ensures.keys;
    }

pub returns-clause-ok : goal.returns-clause-ok
returns-clause-ok c =
    let gone = c.in_ok-rels.ensures in
    (rels_gone_made c.self.inside.nodes c.self.inside.rels c.self.inside.values c.args.self.now c.args.ids.now c.in_ok-rels.rels c.gone_values.result c.in_ok-nodes.nodes
    (record { sound = c.self.invariant.sound; is = c.self.view_is; found = gone.found; gone = gone.removed; counted = rw c.gone_values.ensures (gone.counted rel_value_count) }) c.in_ok-nodes.ensures).1

pub returns-clause-answer : goal.returns-clause-answer
returns-clause-answer c =
    let gone = c.in_ok-rels.ensures in
    let made = rels_gone_made c.self.inside.nodes c.self.inside.rels c.self.inside.values c.args.self.now c.args.ids.now c.in_ok-rels.rels c.gone_values.result c.in_ok-nodes.nodes
    (record { sound = c.self.invariant.sound; is = c.self.view_is; found = gone.found; gone = gone.removed; counted = rw c.gone_values.ensures (gone.counted rel_value_count) }) c.in_ok-nodes.ensures in
    rw c.len.ensures (rels_gone_answer c.self.inside.nodes c.in_ok-nodes.nodes c.self.inside.rels c.in_ok-rels.rels c.args.self.now c.args.ids.now c.in_ok-rels.gone c.self.view_is made.1.0 gone.counted)
