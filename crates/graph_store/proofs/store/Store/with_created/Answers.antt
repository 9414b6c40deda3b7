use Rattle.store_tables.specs.Counted.{node_classes, rel_classes, node_props, rel_props}
use Rattle.graph_store.proofs.NameCounts.{counted-front}
use Rattle.graph_store.proofs.SourceLemmas.{source_below}
use Rattle.std.proofs.Common.{◌≡◌, Some, None, sym, ◌∙◌, arith}
use Rattle.std.specs.List.{find, flat_map}
use Rattle.std.proofs.lemmas.Result.{err_from_is_err_and}
use Rattle.graph_model.specs.declared.change.Change.TheVariants.{Create}
use Rattle.graph_model.specs.Change.{named_ends, refused_change}
use Rattle.graph_store.specs.Stored.{graph_of}
use Rattle.graph_store.specs.Missing.{is_dead}
use Rattle.graph_store.proofs.ChangeLemmas.{unless_mem, missing_nodes, refused_node, created_refused, created_made}
use Rattle.graph_store.proofs.store.Store.with_created.Goals as goal

pub returns-in-Some-clause-refused : goal.returns-in-Some-clause-refused
returns-in-Some-clause-refused c =
    let nodes = c.self.inside.nodes in
    let found = sym (missing_nodes nodes (flat_map named_ends c.args.rels.now) c.self.invariant.sound.node_slots) ∙ (rw c.as_slice.ensures.value at (sym c.missing_end.ensures ∙ c.in-Some.is)) in
    rw (← c.self.view_is) (refused_node (graph_of nodes c.self.inside.rels) (Create c.args.nodes.now c.args.rels.now) c.in-Some.id found)

pub returns-in_err-values-clause-refused : goal.returns-in_err-values-clause-refused
returns-in_err-values-clause-refused c =
    let p = err_from_is_err_and c.from_residual.result c.from_residual.ensures.1 in
    let found : find (is_dead c.self.inside.nodes) (flat_map named_ends c.args.rels.now) ≡ None = rw c.as_slice.ensures.value at (sym c.missing_end.ensures ∙ c.in_default.is) in
    rw (p.1, p.2) (unless_mem c.in_err-values.field-0.0 (refused_change c.args.self.now (Create c.args.nodes.now c.args.rels.now) ≡ Some c.in_err-values.field-0.0)
    (created_refused c.self.inside.nodes c.self.inside.rels c.args.self.now c.args.nodes.now c.args.rels.now c.self.invariant.sound.node_slots c.self.view_is found ∙ c.in_err-values.ensures.err))

pub extended-requires-clause-sources : goal.extended-requires-clause-sources
extended-requires-clause-sources c =
    let found : find (is_dead c.self.inside.nodes) (flat_map named_ends c.args.rels.now) ≡ None = rw c.as_slice.ensures.value at (sym c.missing_end.ensures ∙ c.in_default.is) in
    let made = created_made c.self.inside.nodes c.self.inside.rels c.self.inside.values c.args.self.now c.args.nodes.now c.args.rels.now c.in_ok-nodes.nodes c.in_ok-rels.rels c.in_ok-values.values
    c.self.invariant.sound c.self.view_is c.requires found c.in_ok-nodes.ensures (rw c.len-first.ensures at c.in_ok-rels.ensures) c.in_ok-values.ensures.ok in
    λ id rel is. rw c.len-node_ids.ensures (source_below c.in_ok-nodes.nodes c.in_ok-rels.rels id rel made.0.node_slots made.0.valid.ends is)

pub extended-requires-clause-few : goal.extended-requires-clause-few
extended-requires-clause-few c =
    let found : find (is_dead c.self.inside.nodes) (flat_map named_ends c.args.rels.now) ≡ None = rw c.as_slice.ensures.value at (sym c.missing_end.ensures ∙ c.in_default.is) in
    let made = created_made c.self.inside.nodes c.self.inside.rels c.self.inside.values c.args.self.now c.args.nodes.now c.args.rels.now c.in_ok-nodes.nodes c.in_ok-rels.rels c.in_ok-values.values
    c.self.invariant.sound c.self.view_is c.requires found c.in_ok-nodes.ensures (rw c.len-first.ensures at c.in_ok-rels.ensures) c.in_ok-values.ensures.ok in
    let few = made.0.within.rels in omega (arith, few)

pub invariant_of-store : goal.invariant_of-store
invariant_of-store c =
    let found : find (is_dead c.self.inside.nodes) (flat_map named_ends c.args.rels.now) ≡ None = rw c.as_slice.ensures.value at (sym c.missing_end.ensures ∙ c.in_default.is) in
    record {
      sound = (created_made c.self.inside.nodes c.self.inside.rels c.self.inside.values c.args.self.now c.args.nodes.now c.args.rels.now c.in_ok-nodes.nodes c.in_ok-rels.rels c.in_ok-values.values
          c.self.invariant.sound c.self.view_is c.requires found c.in_ok-nodes.ensures (rw c.len-first.ensures at c.in_ok-rels.ensures) c.in_ok-values.ensures.ok).0;
      linked = rw c.len-node_ids.ensures at c.in_ok-links.ensures;
      nodes_counted = c.in_ok-node_names.ensures;
      rels_counted = c.in_ok-rel_names.ensures;
    }

pub returns-clause-ok : goal.returns-clause-ok
returns-clause-ok c =
    let found : find (is_dead c.self.inside.nodes) (flat_map named_ends c.args.rels.now) ≡ None = rw c.as_slice.ensures.value at (sym c.missing_end.ensures ∙ c.in_default.is) in
    (created_made c.self.inside.nodes c.self.inside.rels c.self.inside.values c.args.self.now c.args.nodes.now c.args.rels.now c.in_ok-nodes.nodes c.in_ok-rels.rels c.in_ok-values.values
    c.self.invariant.sound c.self.view_is c.requires found c.in_ok-nodes.ensures (rw c.len-first.ensures at c.in_ok-rels.ensures) c.in_ok-values.ensures.ok).1

pub with_rows-requires-clause-counted : goal.with_rows-requires-clause-counted
with_rows-requires-clause-counted c =
    counted-front node_classes node_props c.self.inside.nodes _ c.in_ok-nodes.nodes c.len-first.result c.self.inside.node_names.classes c.self.inside.node_names.keys
    c.in_ok-nodes.ensures c.len-first.ensures c.self.invariant.nodes_counted

pub with_rows-requires-2-clause-counted : goal.with_rows-requires-2-clause-counted
with_rows-requires-2-clause-counted c =
    counted-front rel_classes rel_props c.self.inside.rels _ c.in_ok-rels.rels c.len-first_rel.result c.self.inside.rel_names.classes c.self.inside.rel_names.keys
    c.in_ok-rels.ensures c.len-first_rel.ensures c.self.invariant.rels_counted
