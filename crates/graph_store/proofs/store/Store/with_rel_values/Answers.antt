use Rattle.store_tables.specs.declared.census.Census.{Census}
use Rattle.store_tables.specs.Counted.{node_classes, rel_classes, node_props, rel_props}
use Rattle.graph_store.proofs.NameCounts.{values-grown, counted-set, counted-same}
use Rattle.std.proofs.Common.{ap, length}
use Rattle.graph_store.proofs.SourceLemmas.{linked-after, mapped_length, set_keeps_sources}
use Rattle.std.proofs.Common.{◌≡◌, Some, ◌∙◌, refl}
use Rattle.std.proofs.lemmas.Result.{err_from_is_err_and}
use Rattle.graph_model.specs.declared.change.Change.TheVariants.{SetRels}
use Rattle.graph_model.specs.Change.{refused_change, rel_after}
use Rattle.graph_store.proofs.ChangeLemmas.{unless_mem, refused_for_rel, rels_set_refused, rels_set_made}
use Rattle.graph_store.proofs.store.Store.with_rel_values.Goals as goal

pub returns-in_err-rels-clause-refused : goal.returns-in_err-rels-clause-refused
returns-in_err-rels-clause-refused c =
    let p = err_from_is_err_and c.from_residual.result c.from_residual.ensures.1 in
    rw (p.1, p.2) (refused_for_rel c.self.inside.nodes c.self.inside.rels c.args.self.now (SetRels c.args.key.now c.args.values.now) c.in_err-rels.field-0.0
    c.self.invariant.sound.rel_slots c.self.view_is refl c.in_err-rels.ensures.refused)

pub returns-in_err-values-clause-refused : goal.returns-in_err-values-clause-refused
returns-in_err-values-clause-refused c =
    let p = err_from_is_err_and c.from_residual-in_err-values.result c.from_residual-in_err-values.ensures.1 in
    let set = c.in_ok-rels.ensures in
    rw (p.1, p.2) (unless_mem c.in_err-values.field-0.0 (refused_change c.args.self.now (SetRels c.args.key.now c.args.values.now) ≡ Some c.in_err-values.field-0.0)
    (rels_set_refused c.self.inside.nodes c.self.inside.rels c.self.inside.values c.args.self.now c.args.key.now c.args.values.now c.in_ok-rels.rels c.in_ok-rels.added
    (record { sound = c.self.invariant.sound; is = c.self.view_is; found = set.found; set = set.set; grown = values-grown rel_props c.self.inside.rels c.in_ok-rels.rels c.args.key.now c.in_ok-rels.added set.added }) ∙ c.in_err-values.ensures.err))

pub invariant_of-store : goal.invariant_of-store
invariant_of-store c =
    let set = c.in_ok-rels.ensures in
    record {
      sound = (rels_set_made c.self.inside.nodes c.self.inside.rels c.self.inside.values c.args.self.now c.args.key.now c.args.values.now c.in_ok-rels.rels c.in_ok-rels.added c.in_ok-values.values c.in_ok-nodes.nodes
          (record { sound = c.self.invariant.sound; is = c.self.view_is; found = set.found; set = set.set; grown = values-grown rel_props c.self.inside.rels c.in_ok-rels.rels c.args.key.now c.in_ok-rels.added set.added }) c.in_ok-values.ensures.ok c.in_ok-nodes.ensures).0;
      linked = linked-after c.self.inside.nodes c.in_ok-nodes.nodes c.self.inside.rels c.in_ok-rels.rels c.self.inside.links c.in_ok-links.links c.self.invariant.linked c.in_ok-links.ensures
          (ap length c.in_ok-nodes.ensures) (mapped_length c.self.inside.rels c.in_ok-rels.rels _ set.set) (set_keeps_sources c.self.inside.rels c.in_ok-rels.rels c.args.key.now c.args.values.now set.set);
      nodes_counted = counted-same node_classes node_props c.self.inside.nodes c.in_ok-nodes.nodes c.self.inside.node_names.classes c.self.inside.node_names.keys c.in_ok-node_names.node_names.classes c.in_ok-node_names.node_names.keys
          c.in_ok-nodes.ensures (ap (λ (names : Census). names.classes) c.in_ok-node_names.ensures) (ap (λ (names : Census). names.keys) c.in_ok-node_names.ensures) c.self.invariant.nodes_counted;
      rels_counted = counted-set rel_classes rel_props (rel_after c.args.key.now c.args.values.now) c.args.key.now c.in_ok-rels.added c.self.inside.rels c.in_ok-rels.rels c.self.inside.rel_names.classes c.self.inside.rel_names.keys c.in_ok-rel_names.rel_names.classes c.in_ok-rel_names.rel_names.keys
          (λ rel. refl) set.set set.added c.in_ok-rel_names.ensures.classes c.in_ok-rel_names.ensures.keys c.self.invariant.rels_counted;
    }

pub returns-clause-ok : goal.returns-clause-ok
returns-clause-ok c =
    let set = c.in_ok-rels.ensures in
    (rels_set_made c.self.inside.nodes c.self.inside.rels c.self.inside.values c.args.self.now c.args.key.now c.args.values.now c.in_ok-rels.rels c.in_ok-rels.added c.in_ok-values.values c.in_ok-nodes.nodes
    (record { sound = c.self.invariant.sound; is = c.self.view_is; found = set.found; set = set.set; grown = values-grown rel_props c.self.inside.rels c.in_ok-rels.rels c.args.key.now c.in_ok-rels.added set.added }) c.in_ok-values.ensures.ok c.in_ok-nodes.ensures).1
