use Rattle.store_tables.specs.declared.census.Census.{Census}
use Rattle.store_tables.specs.Counted.{node_classes, rel_classes, node_props, rel_props}
use Rattle.graph_store.proofs.NameCounts.{values-grown, counted-set, counted-same}
use Rattle.std.proofs.Common.{ap, length}
use Rattle.graph_store.proofs.SourceLemmas.{linked-after, mapped_length, KeepsSources-same}
use Rattle.std.proofs.Common.{◌≡◌, Some, ◌∙◌, refl}
use Rattle.std.proofs.lemmas.Result.{err_from_is_err_and}
use Rattle.graph_model.specs.declared.change.Change.TheVariants.{SetNodes}
use Rattle.graph_model.specs.Change.{refused_change, node_after}
use Rattle.graph_store.proofs.ChangeLemmas.{unless_mem, refused_for_node, nodes_set_refused, nodes_set_made}
use Rattle.graph_store.proofs.store.Store.with_node_values.Goals as goal

pub returns-in_err-nodes-clause-refused : goal.returns-in_err-nodes-clause-refused
returns-in_err-nodes-clause-refused c =
    let p = err_from_is_err_and c.from_residual.result c.from_residual.ensures.1 in
    rw (p.1, p.2) (refused_for_node c.self.inside.nodes c.self.inside.rels c.args.self.now (SetNodes c.args.key.now c.args.values.now) c.in_err-nodes.field-0.0
    c.self.invariant.sound.node_slots c.self.view_is c.in_err-nodes.ensures.refused)

pub returns-in_err-values-clause-refused : goal.returns-in_err-values-clause-refused
returns-in_err-values-clause-refused c =
    let p = err_from_is_err_and c.from_residual-in_err-values.result c.from_residual-in_err-values.ensures.1 in
    let set = c.in_ok-nodes.ensures in
    rw (p.1, p.2) (unless_mem c.in_err-values.field-0.0 (refused_change c.args.self.now (SetNodes c.args.key.now c.args.values.now) ≡ Some c.in_err-values.field-0.0)
    (nodes_set_refused c.self.inside.nodes c.self.inside.rels c.self.inside.values c.args.self.now c.args.key.now c.args.values.now c.in_ok-nodes.nodes c.in_ok-nodes.added
    (record { sound = c.self.invariant.sound; is = c.self.view_is; found = set.found; set = set.set; grown = values-grown node_props c.self.inside.nodes c.in_ok-nodes.nodes c.args.key.now c.in_ok-nodes.added set.added }) ∙ c.in_err-values.ensures.err))

pub invariant_of-store : goal.invariant_of-store
invariant_of-store c =
    let set = c.in_ok-nodes.ensures in
    record {
      sound = (nodes_set_made c.self.inside.nodes c.self.inside.rels c.self.inside.values c.args.self.now c.args.key.now c.args.values.now c.in_ok-nodes.nodes c.in_ok-nodes.added c.in_ok-values.values c.in_ok-rels.rels
          (record { sound = c.self.invariant.sound; is = c.self.view_is; found = set.found; set = set.set; grown = values-grown node_props c.self.inside.nodes c.in_ok-nodes.nodes c.args.key.now c.in_ok-nodes.added set.added }) c.in_ok-values.ensures.ok c.in_ok-rels.ensures).0;
      linked = linked-after c.self.inside.nodes c.in_ok-nodes.nodes c.self.inside.rels c.in_ok-rels.rels c.self.inside.links c.in_ok-links.links c.self.invariant.linked c.in_ok-links.ensures
          (mapped_length c.self.inside.nodes c.in_ok-nodes.nodes _ set.set) (ap length c.in_ok-rels.ensures) (KeepsSources-same c.self.inside.rels c.in_ok-rels.rels c.in_ok-rels.ensures);
      nodes_counted = counted-set node_classes node_props (node_after c.args.key.now c.args.values.now) c.args.key.now c.in_ok-nodes.added c.self.inside.nodes c.in_ok-nodes.nodes c.self.inside.node_names.classes c.self.inside.node_names.keys c.in_ok-node_names.node_names.classes c.in_ok-node_names.node_names.keys
          (λ node. refl) set.set set.added c.in_ok-node_names.ensures.classes c.in_ok-node_names.ensures.keys c.self.invariant.nodes_counted;
      rels_counted = counted-same rel_classes rel_props c.self.inside.rels c.in_ok-rels.rels c.self.inside.rel_names.classes c.self.inside.rel_names.keys c.in_ok-rel_names.rel_names.classes c.in_ok-rel_names.rel_names.keys
          c.in_ok-rels.ensures (ap (λ (names : Census). names.classes) c.in_ok-rel_names.ensures) (ap (λ (names : Census). names.keys) c.in_ok-rel_names.ensures) c.self.invariant.rels_counted;
    }

pub returns-clause-ok : goal.returns-clause-ok
returns-clause-ok c =
    let set = c.in_ok-nodes.ensures in
    (nodes_set_made c.self.inside.nodes c.self.inside.rels c.self.inside.values c.args.self.now c.args.key.now c.args.values.now c.in_ok-nodes.nodes c.in_ok-nodes.added c.in_ok-values.values c.in_ok-rels.rels
    (record { sound = c.self.invariant.sound; is = c.self.view_is; found = set.found; set = set.set; grown = values-grown node_props c.self.inside.nodes c.in_ok-nodes.nodes c.args.key.now c.in_ok-nodes.added set.added }) c.in_ok-values.ensures.ok c.in_ok-rels.ensures).1
