use Rattle.std.proofs.Common.{◌≡◌, ◌∙◌, true, ap, subst, sym, List, Bor, map, Ok}
use Rattle.std.specs.List.{AllByRecursion, filter}
use Rattle.graph_model.specs.declared.graph.Rel.{Rel}
use Rattle.graph_model.specs.Graph.{RelBefore}
use Rattle.graph_model.specs.Lists.{Pairwise, in_order}
use Rattle.projection_spec.specs.Fields.{RelFields}
use Rattle.projection_spec.specs.KeptArcs.{kept_arcs}
use Rattle.projection_spec.specs.NativeProjection.{type_of}
use Rattle.csr_columns.specs.Rows.{ArcRows}
use Rattle.csr_columns.specs.Plain.{plain_type}
use Rattle.projected_arcs.specs.Flat.{joins_placed, raw_of, flat_arcs, flat_before}
use Rattle.projected_arcs.specs.Types.{type_among}
use Rattle.projected_arcs.proofs.RelLemmas.{shown}
use Rattle.projected_arcs.proofs.ListLemmas.{Pairwise-filter}
use Rattle.projected_arcs.proofs.PlacedLemmas.{filter-passes, IsJoined}
use Rattle.projected_arcs.proofs.KindLemmas.{type-raws, type-gives, refused-as}
use Rattle.projected_arcs.proofs.kind.project_type.Goals as goal

pub rows_of-requires-clause-rels_ascend : goal.rows_of-requires-clause-rels_ascend
rows_of-requires-clause-rels_ascend c =
    subst (Pairwise RelBefore) (sym (ap shown c.as_slice-2.ensures.value ∙ c.in_ok-rels.ensures.rels))
    (Pairwise-filter RelBefore (joins_placed c.args.places.now c.args.entry.now) c.args.from.now.rels c.next_node.ensures.valid.rels_ascend)

pub rows_of-requires-clause-joined : goal.rows_of-requires-clause-joined
rows_of-requires-clause-joined c =
    subst (AllByRecursion (IsJoined c.args.places.now c.args.entry.now)) (sym (ap shown c.as_slice-2.ensures.value ∙ c.in_ok-rels.ensures.rels))
    (filter-passes (joins_placed c.args.places.now c.args.entry.now) c.args.from.now.rels)

pub returns-in-Err-clause-refused : goal.returns-in-Err-clause-refused
returns-in-Err-clause-refused c =
    let g = c.args.from.now in
    let ids = c.args.ids.now in
    let slots = c.args.places.now in
    let entry = c.args.entry.now in
    let refs = c.as_slice-2.result.now in
    let rels = shown refs in
    let arcs = c.as_slice-3.result.now in
    let rels_are : rels ≡ filter (joins_placed slots entry) g.rels = ap shown c.as_slice-2.ensures.value ∙ c.in_ok-rels.ensures.rels in
    let up : Pairwise RelBefore rels = subst (Pairwise RelBefore) (sym rels_are) (Pairwise-filter RelBefore (joins_placed slots entry) g.rels c.next_node.ensures.valid.rels_ascend) in
    let arcs_are : arcs ≡ in_order flat_before (flat_arcs entry.orientation 0 rels) =
    c.as_slice-3.ensures.value ∙ c.in_ok-arcs.ensures
    ∙ ap (λ (f : RelFields). in_order flat_before (flat_arcs f.orientation 0 (shown c.as_slice.result.now))) c.entry.view_is
    ∙ ap (λ (rs : List (Bor Rel)). in_order flat_before (flat_arcs entry.orientation 0 (shown rs))) (c.as_slice.ensures.value ∙ sym c.as_slice-2.ensures.value) in
    refused-as c.in-Err.why (type_of entry (kept_arcs entry (map (raw_of rels entry.props) arcs))) (type_among ids g entry) (type-raws ids slots g entry rels arcs c.requires.slots rels_are up arcs_are) c.in-Err.ensures.refused

pub returns-clause-ok : goal.returns-clause-ok
returns-clause-ok c =
    let g = c.args.from.now in
    let ids = c.args.ids.now in
    let slots = c.args.places.now in
    let entry = c.args.entry.now in
    let refs = c.as_slice-2.result.now in
    let rels = shown refs in
    let arcs = c.as_slice-3.result.now in
    let rels_are : rels ≡ filter (joins_placed slots entry) g.rels = ap shown c.as_slice-2.ensures.value ∙ c.in_ok-rels.ensures.rels in
    let up : Pairwise RelBefore rels = subst (Pairwise RelBefore) (sym rels_are) (Pairwise-filter RelBefore (joins_placed slots entry) g.rels c.next_node.ensures.valid.rels_ascend) in
    let arcs_are : arcs ≡ in_order flat_before (flat_arcs entry.orientation 0 rels) =
    c.as_slice-3.ensures.value ∙ c.in_ok-arcs.ensures
    ∙ ap (λ (f : RelFields). in_order flat_before (flat_arcs f.orientation 0 (shown c.as_slice.result.now))) c.entry.view_is
    ∙ ap (λ (rs : List (Bor Rel)). in_order flat_before (flat_arcs entry.orientation 0 (shown rs))) (c.as_slice.ensures.value ∙ sym c.as_slice-2.ensures.value) in
    let named : c.in_ok-try_clone.field-0 ≡ entry.kind = c.in_ok-try_clone.ensures ∙ ap (λ (f : RelFields). f.kind) c.entry.view_is in
    let turned : c.entry.inside.orientation ≡ entry.orientation = ap (λ (f : RelFields). f.orientation) c.entry.view_is in
    type-gives ids g entry (map (raw_of rels entry.props) arcs) c.in-Ok.rows c.in_ok-try_clone.field-0 c.entry.inside.orientation (type-raws ids slots g entry rels arcs c.requires.slots rels_are up arcs_are) c.in-Ok.ensures.ok named turned
    ∙ ap (λ (rows : ArcRows). Ok (plain_type ids (record { kind = c.in_ok-try_clone.field-0; orientation = c.entry.inside.orientation; arcs = rows }))) (sym c.in_ok-new.ensures)
