-- Rows of arcs that are each kept give the type of their entry.
use Rattle.std.proofs.Common.{◌≡◌, ℕ, ℤ, false, List, [], ◌∷◌, length, map, get_or, Ok, refl, sym, ap, ◌∙◌}
use Rattle.std.specs.List.{All, AllByRecursion, filter, flat_map}
use Rattle.std.specs.List.Sorted.{IsSorted}
use Rattle.graph_model.specs.declared.graph.Rel.{Rel}
use Rattle.graph_model.specs.declared.graph.PropertyGraph.{PropertyGraph}
use Rattle.graph_model.specs.Graph.{RelBefore}
use Rattle.graph_model.specs.Lists.{Pairwise, in_order}
use Rattle.graph_model.specs.Projection.{ProjectedArc}
use Rattle.projection_spec.specs.declared.entries.RelProp.{RelProp}
use Rattle.projection_spec.specs.Fields.{RelFields, HasFittingRule}
use Rattle.projection_spec.specs.RawArcs.{arcs_of, arc_before}
use Rattle.projection_spec.specs.KeptArcs.{kept_arcs, kept_groups, groups_of}
use Rattle.projection_spec.specs.NativeProjection.{type_of, arc_from_kept, rel_prop_key}
use Rattle.csr_columns.specs.Rows.{ArcRows, LiesBelow, arc_cmp, arc_rows_of, names_of}
use Rattle.csr_columns.specs.Plain.{plain_arcs}
use Rattle.projected_arcs.specs.declared.flat.FlatArc.{FlatArc}
use Rattle.projected_arcs.specs.Flat.{flat_arcs, flat_before, flat_ends, rel_of, raw_of, kept_value, arc_value, arc_column}
use Rattle.projected_arcs.specs.Types.{joins_among, arcs_among, RowsGive}
use Rattle.projected_arcs.proofs.RawLemmas.{raw-flat}
use Rattle.projected_arcs.proofs.KeptLemmas.{kept_of, kept-alone}
use Rattle.projected_arcs.proofs.EndLemmas.{IsPlaced}
use Rattle.projected_arcs.proofs.RowLemmas.{column_over, arc_over, EndsStand, plain-over, keys-over}

-- a flat arc's source and target
abbrev pub source_of : FlatArc → ℕ
source_of arc = arc.source

abbrev pub target_of : FlatArc → ℕ
target_of arc = arc.target

-- the fields of arcs that are each kept
abbrev single_fields : List Rel → List RelProp → List (List ℕ × (FlatArc → ℤ))
single_fields rels [] = []
single_fields rels (prop ∷ props) = (prop.key, arc_value rels prop) ∷ single_fields rels props

fields-over : (ids slots : List ℕ) (rels : List Rel) (arcs : List FlatArc) (all props : List RelProp) → map (arc_column rels arcs) props ≡ map (column_over ids source_of target_of (flat_ends slots) (single_fields rels all) arcs) (single_fields rels props)
fields-over ids slots rels arcs all [] = refl
fields-over ids slots rels arcs all (prop ∷ props) = ap (λ columns. arc_column rels arcs prop ∷ columns) (fields-over ids slots rels arcs all props)

names-single : (rels : List Rel) (props : List RelProp) → map (λ field. field.0) (single_fields rels props) ≡ map rel_prop_key props
names-single rels [] = refl
names-single rels (prop ∷ props) = ap (λ names. prop.key ∷ names) (names-single rels props)

values-single : (rels : List Rel) (props : List RelProp) (arc : FlatArc) → map (λ field. field.1 arc) (single_fields rels props) ≡ map (kept_value (rel_of rels arc).props) props
values-single rels [] arc = refl
values-single rels (prop ∷ props) arc = ap (λ values. arc_value rels prop arc ∷ values) (values-single rels props arc)

arcs-single : (ids slots : List ℕ) (rels : List Rel) (props : List RelProp) (arcs : List FlatArc) → map (arc_over ids source_of target_of (flat_ends slots) (single_fields rels props)) arcs ≡ map arc_from_kept (map (kept_of rels props) arcs)
arcs-single ids slots rels props [] = refl
arcs-single ids slots rels props (arc ∷ arcs) =
    ap (λ values. record { source = arc.source; target = arc.target; values = values } ∷ map (arc_over ids source_of target_of (flat_ends slots) (single_fields rels props)) arcs) (values-single rels props arc)
    ∙ ap (λ rest. arc_from_kept (kept_of rels props arc) ∷ rest) (arcs-single ids slots rels props arcs)

stand-single : (ids slots : List ℕ) (fields : List (List ℕ × (FlatArc → ℤ))) (arcs : List FlatArc) → AllByRecursion (IsPlaced ids slots source_of target_of) arcs → AllByRecursion (EndsStand ids source_of target_of (flat_ends slots) fields) arcs
stand-single ids slots fields [] placed = tt
stand-single ids slots fields (arc ∷ arcs) placed = (record { source_stands = placed.0.source_found.stands; target_stands = placed.0.target_found.stands }, stand-single ids slots fields arcs placed.1)

-- raw arcs among ids are flat arcs in order, read from their relationships
pub raws-among : (ids : List ℕ) (g : PropertyGraph) (entry : RelFields) (rels : List Rel) (arcs : List FlatArc) → rels ≡ filter (joins_among ids entry) g.rels → Pairwise RelBefore rels
    → arcs ≡ in_order flat_before (flat_arcs entry.orientation 0 rels) → arcs_among ids g entry ≡ map (raw_of rels entry.props) arcs
raws-among ids g entry rels arcs rels_are up arcs_are =
    ap (λ rs. in_order arc_before (flat_map (arcs_of entry) rs)) (sym rels_are)
    ∙ raw-flat entry.orientation entry.props rels up
    ∙ ap (map (raw_of rels entry.props)) (sym arcs_are)

pub single-gives : (ids slots : List ℕ) (n : ℕ) (entry : RelFields) (rels : List Rel) (arcs : List FlatArc) (rows : ArcRows)
    → entry.grouped ≡ false → AllByRecursion (HasFittingRule false) entry.props
    → All (LiesBelow n) (map (flat_ends slots) arcs) → IsSorted arc_cmp (map (flat_ends slots) arcs) → AllByRecursion (IsPlaced ids slots source_of target_of) arcs
    → rows ≡ arc_rows_of n (map (flat_ends slots) arcs) (map (arc_column rels arcs) entry.props)
    → RowsGive ids entry (map (raw_of rels entry.props) arcs) rows
single-gives ids slots n entry rels arcs rows single fits below sorted placed are =
    let props = entry.props in
    let fields = single_fields rels props in
    let made : rows ≡ arc_rows_of n (map (flat_ends slots) arcs) (map (column_over ids source_of target_of (flat_ends slots) fields arcs) fields) =
    are ∙ ap (arc_rows_of n (map (flat_ends slots) arcs)) (fields-over ids slots rels arcs props props) in
    let kept : kept_arcs entry (map (raw_of rels props) arcs) ≡ Ok (map (kept_of rels props) arcs) =
    ap (λ b. kept_groups props (groups_of b (map (raw_of rels props) arcs))) single
    ∙ kept-alone rels props arcs fits in
    let keys : map rel_prop_key props ≡ names_of rows.columns =
    sym (keys-over ids source_of target_of (flat_ends slots) fields n arcs below sorted rows made ∙ names-single rels props) in
    let plain : map arc_from_kept (map (kept_of rels props) arcs) ≡ plain_arcs ids rows =
    sym (plain-over ids source_of target_of (flat_ends slots) fields n arcs below sorted rows made (stand-single ids slots fields arcs placed) ∙ arcs-single ids slots rels props arcs) in
    ap (type_of entry) kept
    ∙ ap (λ ks. Ok (record { name = entry.kind; orientation = entry.orientation; keys = ks; arcs = map arc_from_kept (map (kept_of rels props) arcs) })) keys
    ∙ ap (λ arcs_now. Ok (record { name = entry.kind; orientation = entry.orientation; keys = names_of rows.columns; arcs = arcs_now })) plain
