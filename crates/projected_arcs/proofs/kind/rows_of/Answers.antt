use Rattle.std.proofs.Common.{◌≡◌, ◌∙◌, ◌<◌, ℕ, true, false, sym, ap, subst, List, Bor, map, length, refl}
use Rattle.std.proofs.lemmas.List.{length-map}
use Rattle.std.proofs.lemmas.List.FromFn.{length-map-range_with_len}
use Rattle.std.proofs.lemmas.List.Elements.{All-from_recursion}
use Rattle.std.specs.List.{All, AllByRecursion}
use Rattle.std.specs.List.Sorted.{IsSorted}
use Rattle.csr_columns.specs.Rows.{AreDistinct, LiesBelow, arc_cmp, arc_rows_of, ArcRows}
use Rattle.graph_model.specs.declared.graph.Rel.{Rel}
use Rattle.graph_model.specs.Arcs.{targets_of}
use Rattle.projection_spec.specs.declared.entries.RelProp.{RelProp}
use Rattle.projection_spec.specs.declared.arcs.Grouped.{Grouped}
use Rattle.projection_spec.specs.Fields.{RelFields, HasFittingRule, HasFittingRules}
use Rattle.projected_arcs.specs.declared.flat.FlatArc.{FlatArc}
use Rattle.projected_arcs.specs.Flat.{IsWithin, flat_ends, raw_of, arc_column}
use Rattle.projected_arcs.specs.Types.{grouped_ends, grouped_columns}
use Rattle.projected_arcs.proofs.RelLemmas.{shown}
use Rattle.projected_arcs.proofs.PlacedLemmas.{arcs-placed, arcs-within, arcs-ascend, flat-sorted, raws-ascend}
use Rattle.projected_arcs.proofs.SingleLemmas.{single-gives}
use Rattle.projected_arcs.proofs.GroupedLemmas.{grouped-gives}
use Rattle.projected_arcs.proofs.KindLemmas.{keys-distinct, single-below, kept-placed, kept-below, kept-in_order}
use Rattle.projected_arcs.proofs.kind.rows_of.Goals as goal

-- each arc is of one of the relationships
within : (rels : List (Bor Rel)) (arcs : List FlatArc) → AllByRecursion (IsWithin (length (shown rels))) arcs → All (IsWithin (length rels)) arcs
within rels arcs all = All-from_recursion (IsWithin (length rels)) arcs (subst (λ n. AllByRecursion (IsWithin n) arcs) (length-map rels (λ (rel : Bor Rel). rel.now)) all)

distinct : (props shown_props : List RelProp) → shown_props ≡ props → AreDistinct (map (λ prop. prop.key) props) → AreDistinct (map (λ prop. prop.key) shown_props)
distinct props shown_props are apart = subst (λ (ps : List RelProp). AreDistinct (map (λ prop. prop.key) ps)) (sym are) apart

pub grouped_arcs-requires-clause-within : goal.grouped_arcs-requires-clause-within
grouped_arcs-requires-clause-within c = within c.args.rels.now c.args.arcs.now (arcs-within c.args.entry.now (shown c.args.rels.now) c.args.arcs.now c.requires.arcs)

pub grouped_arcs-requires-clause-ascending : goal.grouped_arcs-requires-clause-ascending
grouped_arcs-requires-clause-ascending c =
    let rels = shown c.args.rels.now in
    let arcs = c.args.arcs.now in
    let entry = c.args.entry.now in
    raws-ascend rels entry.props c.requires.rels_ascend arcs (arcs-within entry rels arcs c.requires.arcs) (arcs-ascend entry rels arcs c.requires.arcs)

pub grouped_rows-requires-clause-below : goal.grouped_rows-requires-clause-below
grouped_rows-requires-clause-below c =
    let rels = shown c.args.rels.now in
    let arcs = c.args.arcs.now in
    let entry = c.args.entry.now in
    let makes : entry.grouped ≡ true = sym (ap (λ (f : RelFields). f.grouped) c.entry.view_is) ∙ c.if-entry.true in
    let placed = arcs-placed c.args.ids.now c.args.places.now entry c.requires.slots rels arcs c.requires.joined c.requires.arcs in
    subst (λ (kept : List Grouped). All (LiesBelow (length c.args.ids.now)) (map (grouped_ends c.args.places.now) kept)) (sym c.as_slice.ensures.value)
    (kept-below c.args.ids.now c.args.places.now entry rels arcs c.in_ok-kept.kept makes c.in_ok-kept.ensures.ok placed)

pub grouped_rows-requires-clause-ascend : goal.grouped_rows-requires-clause-ascend
grouped_rows-requires-clause-ascend c =
    let rels = shown c.args.rels.now in
    let arcs = c.args.arcs.now in
    let entry = c.args.entry.now in
    let makes : entry.grouped ≡ true = sym (ap (λ (f : RelFields). f.grouped) c.entry.view_is) ∙ c.if-entry.true in
    let placed = arcs-placed c.args.ids.now c.args.places.now entry c.requires.slots rels arcs c.requires.joined c.requires.arcs in
    let ascend = raws-ascend rels entry.props c.requires.rels_ascend arcs (arcs-within entry rels arcs c.requires.arcs) (arcs-ascend entry rels arcs c.requires.arcs) in
    subst (λ (kept : List Grouped). IsSorted arc_cmp (map (grouped_ends c.args.places.now) kept)) (sym c.as_slice.ensures.value)
    (kept-in_order c.args.ids.now c.args.places.now entry rels arcs c.in_ok-kept.kept makes c.in_ok-kept.ensures.ok c.requires.ascend placed ascend)

pub grouped_rows-requires-clause-distinct : goal.grouped_rows-requires-clause-distinct
grouped_rows-requires-clause-distinct c = distinct c.args.entry.now.props c.as_slice-props.result.now (c.as_slice-props.ensures.value ∙ ap (λ (f : RelFields). f.props) c.entry.view_is) (keys-distinct c.args.entry.now.props c.requires.keys)

pub single_rows-requires-clause-within : goal.single_rows-requires-clause-within
single_rows-requires-clause-within c = within c.args.rels.now c.args.arcs.now (arcs-within c.args.entry.now (shown c.args.rels.now) c.args.arcs.now c.requires.arcs)

pub single_rows-requires-clause-below : goal.single_rows-requires-clause-below
single_rows-requires-clause-below c =
    single-below c.args.ids.now c.args.places.now c.args.arcs.now (arcs-placed c.args.ids.now c.args.places.now c.args.entry.now c.requires.slots (shown c.args.rels.now) c.args.arcs.now c.requires.joined c.requires.arcs)

pub single_rows-requires-clause-ascend : goal.single_rows-requires-clause-ascend
single_rows-requires-clause-ascend c =
    flat-sorted c.args.ids.now c.args.places.now c.args.arcs.now c.requires.ascend
    (arcs-placed c.args.ids.now c.args.places.now c.args.entry.now c.requires.slots (shown c.args.rels.now) c.args.arcs.now c.requires.joined c.requires.arcs)
    (arcs-ascend c.args.entry.now (shown c.args.rels.now) c.args.arcs.now c.requires.arcs)

pub single_rows-requires-clause-distinct : goal.single_rows-requires-clause-distinct
single_rows-requires-clause-distinct c = distinct c.args.entry.now.props c.as_slice-props.result.now (c.as_slice-props.ensures.value ∙ ap (λ (f : RelFields). f.props) c.entry.view_is) (keys-distinct c.args.entry.now.props c.requires.keys)

pub returns-in_ok-grouped_rows-clause-ok : goal.returns-in_ok-grouped_rows-clause-ok
returns-in_ok-grouped_rows-clause-ok c =
    let ids = c.args.ids.now in
    let slots = c.args.places.now in
    let rels = shown c.args.rels.now in
    let arcs = c.args.arcs.now in
    let entry = c.args.entry.now in
    let kept = c.in_ok-kept.kept in
    let is = c.in_ok-kept.ensures.ok in
    let makes : entry.grouped ≡ true = sym (ap (λ (f : RelFields). f.grouped) c.entry.view_is) ∙ c.if-entry.true in
    let placed = arcs-placed ids slots entry c.requires.slots rels arcs c.requires.joined c.requires.arcs in
    let ascend = raws-ascend rels entry.props c.requires.rels_ascend arcs (arcs-within entry rels arcs c.requires.arcs) (arcs-ascend entry rels arcs c.requires.arcs) in
    let props_are : c.as_slice-props.result.now ≡ entry.props = c.as_slice-props.ensures.value ∙ ap (λ (f : RelFields). f.props) c.entry.view_is in
    grouped-gives ids slots (length ids) entry (map (raw_of rels entry.props) arcs) kept c.in_ok-grouped_rows.field-0 is
    (kept-below ids slots entry rels arcs kept makes is placed) (kept-in_order ids slots entry rels arcs kept makes is c.requires.ascend placed ascend) (kept-placed ids slots entry rels arcs kept makes is placed)
    (c.in_ok-grouped_rows.ensures
    ∙ ap (λ (ks : List Grouped). arc_rows_of (length ids) (map (grouped_ends slots) ks) (grouped_columns ks 0 c.as_slice-props.result.now)) c.as_slice.ensures.value
    ∙ ap (λ (ps : List RelProp). arc_rows_of (length ids) (map (grouped_ends slots) kept) (grouped_columns kept 0 ps)) props_are)

pub returns-in_ok-grouped_rows-clause-nodes : goal.returns-in_ok-grouped_rows-clause-nodes
returns-in_ok-grouped_rows-clause-nodes c = ap (λ (rows : ArcRows). length rows.rows) c.in_ok-grouped_rows.ensures ∙ length-map-range_with_len _ 0 (length c.args.ids.now)

pub returns-in_ok-single_rows-clause-ok : goal.returns-in_ok-single_rows-clause-ok
returns-in_ok-single_rows-clause-ok c =
    let ids = c.args.ids.now in
    let slots = c.args.places.now in
    let rels = shown c.args.rels.now in
    let arcs = c.args.arcs.now in
    let entry = c.args.entry.now in
    let keeps : entry.grouped ≡ false = sym (ap (λ (f : RelFields). f.grouped) c.entry.view_is) ∙ c.if-entry.false in
    let fits : HasFittingRules entry.grouped entry.props = subst (λ (f : RelFields). HasFittingRules f.grouped f.props) c.entry.view_is c.entry.invariant in
    let placed = arcs-placed ids slots entry c.requires.slots rels arcs c.requires.joined c.requires.arcs in
    let props_are : c.as_slice-props.result.now ≡ entry.props = c.as_slice-props.ensures.value ∙ ap (λ (f : RelFields). f.props) c.entry.view_is in
    single-gives ids slots (length ids) entry rels arcs c.in_ok-single_rows.field-0 keeps (subst (λ b. AllByRecursion (HasFittingRule b) entry.props) keeps fits)
    (single-below ids slots arcs placed) (flat-sorted ids slots arcs c.requires.ascend placed (arcs-ascend entry rels arcs c.requires.arcs)) placed
    (c.in_ok-single_rows.ensures ∙ ap (λ (ps : List RelProp). arc_rows_of (length ids) (map (flat_ends slots) arcs) (map (arc_column rels arcs) ps)) props_are)

pub returns-in_ok-single_rows-clause-nodes : goal.returns-in_ok-single_rows-clause-nodes
returns-in_ok-single_rows-clause-nodes c = ap (λ (rows : ArcRows). length rows.rows) c.in_ok-single_rows.ensures ∙ length-map-range_with_len _ 0 (length c.args.ids.now)
