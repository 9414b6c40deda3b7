use Rattle.std.proofs.Common.{◌≡◌, ◌∙◌, ◌<◌, ℕ, true, false, sym, ap, subst, List, map, length, nat_le, Result, Ok, Err, arith}
use Rattle.std.specs.List.{All}
use Rattle.std.specs.List.Sorted.{IsStrictlyIncreasing}
use Rattle.graph_model.specs.declared.graph.PropertyGraph.{PropertyGraph}
use Rattle.graph_model.specs.declared.refusal.Refusal.{Refusal}
use Rattle.graph_model.specs.Projection.{ProjectedType, most_arcs}
use Rattle.graph_store.proofs.ChangeLemmas.{unless_mem-weaker}
use Rattle.projection_spec.specs.declared.entries.NodeEntry.{NodeEntry}
use Rattle.projection_spec.specs.Fields.{RelFields, SpecFields, HasAscendingNames}
use Rattle.projection_spec.specs.NativeProjection.{kept_nodes, projected}
use Rattle.csr_columns.specs.declared.parts.TypeColumns.{TypeColumns}
use Rattle.csr_columns.specs.Parts.{FitTogether, HasNodes, arcs_in}
use Rattle.csr_columns.specs.Plain.{plain, plain_type}
use Rattle.projected_nodes.specs.declared.columns.NodeColumns.{NodeColumns}
use Rattle.projected_nodes.specs.Columns.{node_columns}
use Rattle.native_projection.specs.Making.{types_among, made_parts}
use Rattle.native_projection.proofs.IdLemmas.{kept_ids, kept_ids-ascend, kept_ids-below, kept_ids-few}
use Rattle.native_projection.proofs.ArcLemmas.{projected-fits, projected-full, projected-refused}
use Rattle.native_projection.proofs.NodeLemmas.{made-plain}
use Rattle.native_projection.proofs.PartLemmas.{parts-fit}
use Rattle.native_projection.proofs.native.parts_of.Goals as goal

-- the nodes that were made, and their ids, where the entries that were read are those of the specification
made : (g : PropertyGraph) (spec : SpecFields) (read : List NodeEntry) (nodes : NodeColumns) → nodes ≡ node_columns read (kept_nodes g read) → read ≡ spec.nodes → nodes ≡ node_columns spec.nodes (kept_nodes g spec.nodes)
made g spec read nodes is same = is ∙ ap (λ es. node_columns es (kept_nodes g es)) same

ids-made : (g : PropertyGraph) (spec : SpecFields) (nodes : NodeColumns) (ids : List ℕ) → ids ≡ nodes.ids → nodes ≡ node_columns spec.nodes (kept_nodes g spec.nodes) → ids ≡ kept_ids g spec.nodes
ids-made g spec nodes ids are is = are ∙ ap (λ (n : NodeColumns). n.ids) is

-- types among ids that were made, of entries that were read
types-read : (g : PropertyGraph) (spec : SpecFields) (ids : List ℕ) (rels : List RelFields) → ids ≡ kept_ids g spec.nodes → rels ≡ spec.rels → types_among (kept_ids g spec.nodes) g spec.rels ≡ types_among ids g rels
types-read g spec ids rels ids_are rels_are = ap (λ is. types_among is g spec.rels) (sym ids_are) ∙ ap (types_among ids g) (sym rels_are)

types-are : (g : PropertyGraph) (spec : SpecFields) (ids : List ℕ) (rels : List RelFields) (types : List TypeColumns) → ids ≡ kept_ids g spec.nodes → rels ≡ spec.rels → types_among ids g rels ≡ Ok (map (plain_type ids) types)
    → types_among (kept_ids g spec.nodes) g spec.rels ≡ Ok (map (plain_type (kept_ids g spec.nodes)) types)
types-are g spec ids rels types ids_are rels_are is = types-read g spec ids rels ids_are rels_are ∙ is ∙ ap (λ ns. Ok (map (plain_type ns) types)) ids_are

pub of-requires-clause-ascend : goal.of-requires-clause-ascend
of-requires-clause-ascend c =
    let g = c.args.from.now in
    let spec = c.args.spec.now in
    let nodes_are = c.as_slice.ensures.value ∙ ap (λ (s : SpecFields). s.nodes) c.spec.view_is in
    let ids_are = ids-made g spec c.in_ok-nodes.nodes c.as_slice-ids.result.now c.as_slice-ids.ensures.value (made g spec c.as_slice.result.now c.in_ok-nodes.nodes c.in_ok-nodes.ensures nodes_are) in
    subst IsStrictlyIncreasing (sym ids_are) (kept_ids-ascend g spec.nodes c.next_node.ensures.valid)

pub of-requires-clause-below : goal.of-requires-clause-below
of-requires-clause-below c =
    let g = c.args.from.now in
    let spec = c.args.spec.now in
    let nodes_are = c.as_slice.ensures.value ∙ ap (λ (s : SpecFields). s.nodes) c.spec.view_is in
    let ids_are = ids-made g spec c.in_ok-nodes.nodes c.as_slice-ids.result.now c.as_slice-ids.ensures.value (made g spec c.as_slice.result.now c.in_ok-nodes.nodes c.in_ok-nodes.ensures nodes_are) in
    subst (λ (ids : List ℕ). All (λ id. id < c.next_node.result) ids) (sym ids_are)
    (subst (λ n. All (λ id. id < n) (kept_ids g spec.nodes)) (sym c.next_node.ensures.next) (kept_ids-below g spec.nodes c.next_node.ensures.valid))

pub of-requires-clause-few : goal.of-requires-clause-few
of-requires-clause-few c =
    let g = c.args.from.now in
    let spec = c.args.spec.now in
    let nodes_are = c.as_slice.ensures.value ∙ ap (λ (s : SpecFields). s.nodes) c.spec.view_is in
    let ids_are = ids-made g spec c.in_ok-nodes.nodes c.as_slice-ids.result.now c.as_slice-ids.ensures.value (made g spec c.as_slice.result.now c.in_ok-nodes.nodes c.in_ok-nodes.ensures nodes_are) in
    omega (arith, ap length ids_are, kept_ids-few g spec.nodes c.next_node.ensures.valid c.next_node.ensures.limits)

pub project_types-requires-clause-ascend : goal.project_types-requires-clause-ascend
project_types-requires-clause-ascend c =
    let g = c.args.from.now in
    let spec = c.args.spec.now in
    let nodes_are = c.as_slice.ensures.value ∙ ap (λ (s : SpecFields). s.nodes) c.spec.view_is in
    let ids_are = ids-made g spec c.in_ok-nodes.nodes c.as_slice-ids.result.now c.as_slice-ids.ensures.value (made g spec c.as_slice.result.now c.in_ok-nodes.nodes c.in_ok-nodes.ensures nodes_are) in
    subst IsStrictlyIncreasing (sym ids_are) (kept_ids-ascend g spec.nodes c.next_node.ensures.valid)

pub project_types-requires-clause-few : goal.project_types-requires-clause-few
project_types-requires-clause-few c =
    let g = c.args.from.now in
    let spec = c.args.spec.now in
    let nodes_are = c.as_slice.ensures.value ∙ ap (λ (s : SpecFields). s.nodes) c.spec.view_is in
    let ids_are = ids-made g spec c.in_ok-nodes.nodes c.as_slice-ids.result.now c.as_slice-ids.ensures.value (made g spec c.as_slice.result.now c.in_ok-nodes.nodes c.in_ok-nodes.ensures nodes_are) in
    omega (arith, ap length ids_are, kept_ids-few g spec.nodes c.next_node.ensures.valid c.next_node.ensures.limits)

pub returns-in-Err-clause-refused : goal.returns-in-Err-clause-refused
returns-in-Err-clause-refused c =
    let g = c.args.from.now in
    let spec = c.args.spec.now in
    let nodes_are = c.as_slice.ensures.value ∙ ap (λ (s : SpecFields). s.nodes) c.spec.view_is in
    let rels_are = c.as_slice-2.ensures.value ∙ ap (λ (s : SpecFields). s.rels) c.spec.view_is in
    let ids_are = ids-made g spec c.in_ok-nodes.nodes c.as_slice-ids.result.now c.as_slice-ids.ensures.value (made g spec c.as_slice.result.now c.in_ok-nodes.nodes c.in_ok-nodes.ensures nodes_are) in
    let why = c.in-Err.why in
    unless_mem-weaker why (types_among c.as_slice-ids.result.now g c.as_slice-2.result.now ≡ Err why) (projected spec g ≡ Err why)
    (λ is. projected-refused spec g why c.requires (types-read g spec c.as_slice-ids.result.now c.as_slice-2.result.now ids_are rels_are ∙ is))
    c.in-Err.ensures.refused

pub returns-then-not-arcs_fit-clause-refused : goal.returns-then-not-arcs_fit-clause-refused
returns-then-not-arcs_fit-clause-refused c =
    let g = c.args.from.now in
    let spec = c.args.spec.now in
    let nodes_are = c.as_slice.ensures.value ∙ ap (λ (s : SpecFields). s.nodes) c.spec.view_is in
    let rels_are = c.as_slice-2.ensures.value ∙ ap (λ (s : SpecFields). s.rels) c.spec.view_is in
    let ids_are = ids-made g spec c.in_ok-nodes.nodes c.as_slice-ids.result.now c.as_slice-ids.ensures.value (made g spec c.as_slice.result.now c.in_ok-nodes.nodes c.in_ok-nodes.ensures nodes_are) in
    let are = types-are g spec c.as_slice-ids.result.now c.as_slice-2.result.now c.in-Ok.types ids_are rels_are c.in-Ok.ensures.ok in
    projected-full spec g c.in-Ok.types c.requires are
    (ap (λ (types : List TypeColumns). nat_le (arcs_in types) most_arcs) (sym c.as_slice-3.ensures.value) ∙ sym c.arcs_fit.ensures ∙ c.if-not-arcs_fit.true)

pub returns-clause-fit : goal.returns-clause-fit
returns-clause-fit c =
    let g = c.args.from.now in
    let spec = c.args.spec.now in
    let nodes_are = c.as_slice.ensures.value ∙ ap (λ (s : SpecFields). s.nodes) c.spec.view_is in
    let rels_are = c.as_slice-2.ensures.value ∙ ap (λ (s : SpecFields). s.rels) c.spec.view_is in
    let nodes = made g spec c.as_slice.result.now c.in_ok-nodes.nodes c.in_ok-nodes.ensures nodes_are in
    let ids_are = ids-made g spec c.in_ok-nodes.nodes c.as_slice-ids.result.now c.as_slice-ids.ensures.value nodes in
    let types = c.in-Ok.types in
    let are = types-are g spec c.as_slice-ids.result.now c.as_slice-2.result.now types ids_are rels_are c.in-Ok.ensures.ok in
    let few = ap (λ (ts : List TypeColumns). nat_le (arcs_in ts) most_arcs) (sym c.as_slice-3.ensures.value) ∙ sym c.arcs_fit.ensures ∙ c.if-not-arcs_fit.false in
    let names : HasAscendingNames spec.nodes spec.rels = subst (λ (s : SpecFields). HasAscendingNames s.nodes s.rels) c.spec.view_is c.spec.invariant in
    let rows = subst (λ (ids : List ℕ). All (HasNodes (length ids)) types) ids_are c.in-Ok.ensures.nodes in
    subst (λ (n : NodeColumns). FitTogether (record { ids = n.ids; labels = n.labels; columns = n.columns; types = types })) (sym nodes)
    (parts-fit spec g types c.next_node.ensures.valid c.next_node.ensures.limits names are rows few)

pub returns-clause-ok : goal.returns-clause-ok
returns-clause-ok c =
    let g = c.args.from.now in
    let spec = c.args.spec.now in
    let nodes_are = c.as_slice.ensures.value ∙ ap (λ (s : SpecFields). s.nodes) c.spec.view_is in
    let rels_are = c.as_slice-2.ensures.value ∙ ap (λ (s : SpecFields). s.rels) c.spec.view_is in
    let nodes = made g spec c.as_slice.result.now c.in_ok-nodes.nodes c.in_ok-nodes.ensures nodes_are in
    let ids_are = ids-made g spec c.in_ok-nodes.nodes c.as_slice-ids.result.now c.as_slice-ids.ensures.value nodes in
    let types = c.in-Ok.types in
    let are = types-are g spec c.as_slice-ids.result.now c.as_slice-2.result.now types ids_are rels_are c.in-Ok.ensures.ok in
    let few = ap (λ (ts : List TypeColumns). nat_le (arcs_in ts) most_arcs) (sym c.as_slice-3.ensures.value) ∙ sym c.arcs_fit.ensures ∙ c.if-not-arcs_fit.false in
    projected-fits spec g types c.requires are few
    ∙ ap Ok (sym (made-plain spec g types))
    ∙ ap (λ (n : NodeColumns). Ok (plain (record { ids = n.ids; labels = n.labels; columns = n.columns; types = types }))) (sym nodes)
