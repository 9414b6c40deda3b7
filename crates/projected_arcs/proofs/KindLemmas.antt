-- What the rows of a type are made from fits together.
use Rattle.std.proofs.Common.{◌≡◌, ℕ, ℤ, ◌+◌, ◌<◌, Bool, true, true≢false, cond, ◌&&◌, is_some, List, [], ◌∷◌, length, map, get_or, Result, Ok, Err, refl, sym, ap, subst, ◌∙◌, arith}
use Rattle.std.proofs.lemmas.List.{length-map, get_or-map}
use Rattle.std.proofs.lemmas.List.Elements.{All-from_recursion}
use Rattle.std.proofs.lemmas.Cmp.{nat_list_cmp_total}
use Rattle.std.specs.List.{All, AllByRecursion, filter}
use Rattle.std.specs.List.Sorted.{IsSorted, IsStrictlyIncreasing}
use Rattle.std.specs.Ordering.{nat_cmp, is_lt, ordering_reverse}
use Rattle.std.specs.Cmp.Lexicographic.{slice_cmp}
use Rattle.std.specs.declared.cmp.Ordering.TheVariants.{Less}
use Rattle.graph_model.specs.declared.graph.Prop.{Prop}
use Rattle.graph_model.specs.declared.graph.Rel.{Rel}
use Rattle.graph_model.specs.declared.graph.Orientation.{Orientation}
use Rattle.graph_model.specs.declared.graph.PropertyGraph.{PropertyGraph}
use Rattle.graph_model.specs.declared.refusal.Refusal.{Refusal}
use Rattle.graph_model.specs.Refusals.{UnlessMem}
use Rattle.graph_model.specs.Projection.{ProjectedType}
use Rattle.graph_model.specs.Graph.{RelBefore}
use Rattle.graph_model.specs.Lists.{Pairwise, in_order}
use Rattle.projection_spec.specs.declared.arcs.RawArc.{RawArc}
use Rattle.projection_spec.specs.declared.arcs.Grouped.{Grouped}
use Rattle.projection_spec.specs.declared.entries.RelProp.{RelProp}
use Rattle.projection_spec.specs.Fields.{RelFields, RelKeyBefore}
use Rattle.projection_spec.specs.RawArcs.{ArcInOrder, cells_of, is_asked_for}
use Rattle.projection_spec.specs.KeptArcs.{groups_of, kept_arcs, kept_groups}
use Rattle.projection_spec.specs.NativeProjection.{type_of}
use Rattle.csr_columns.specs.Rows.{AreDistinct, LiesBelow, arc_cmp}
use Rattle.projected_arcs.specs.declared.flat.FlatArc.{FlatArc}
use Rattle.csr_columns.specs.Rows.{ArcRows, names_of}
use Rattle.csr_columns.specs.Plain.{plain_arcs, plain_type}
use Rattle.projected_arcs.specs.Flat.{flat_ends, raw_of, rel_of, flat_arcs, flat_before, joins_placed}
use Rattle.projected_arcs.specs.Places.{place_of, slot_at, place_or_zero, AreSlots}
use Rattle.projected_arcs.specs.Types.{grouped_ends, grouped_columns, value_at, joins_among, type_among, RowsGive}
use Rattle.projected_arcs.proofs.EndLemmas.{IsFound, IsPlaced, ends-below}
use Rattle.projected_arcs.proofs.ListLemmas.{Pairwise-at}
use Rattle.projected_arcs.proofs.SingleLemmas as single
use Rattle.projected_arcs.proofs.GroupedLemmas as grouped

-- a text doesn't come before itself
before-differs : (a b : List ℕ) → slice_cmp nat_cmp a b ≡ Less → a ≡ b → ⊥
before-differs a b less same =
    let itself : slice_cmp nat_cmp b b ≡ Less = ap (λ x. slice_cmp nat_cmp x b) (sym same) ∙ less in
    true≢false (ap is_lt (sym itself ∙ nat_list_cmp_total.antisymm b b ∙ ap ordering_reverse itself))

-- keys that ascend differ
pub keys-distinct : (props : List RelProp) → Pairwise RelKeyBefore props → AreDistinct (map (λ prop. prop.key) props)
keys-distinct [] up = λ i j d h within same. omega (arith, within)
keys-distinct (first ∷ rest) up = λ i j d h within same.
    let props = first ∷ rest in
    let j_in : j < length props = omega (arith, within, length-map props (λ (prop : RelProp). prop.key)) in
    before-differs (get_or props i first).key (get_or props j first).key (Pairwise-at RelKeyBefore props i j first h j_in up)
    (sym (get_or-map (λ (prop : RelProp). prop.key) props i first d (omega arith)) ∙ same ∙ get_or-map (λ (prop : RelProp). prop.key) props j first d j_in)

-- ---- arcs that are each kept

pub single-below : (ids slots : List ℕ) (arcs : List FlatArc) → AllByRecursion (IsPlaced ids slots single.source_of single.target_of) arcs → All (LiesBelow (length ids)) (map (flat_ends slots) arcs)
single-below ids slots arcs placed = All-from_recursion (LiesBelow (length ids)) (map (flat_ends slots) arcs) (ends-below ids slots single.source_of single.target_of arcs placed)

-- ---- arcs that are kept for groups

-- each raw arc has a cell for each key
length-cells : (own : List Prop) (props : List RelProp) → length (cells_of own props) ≡ length props
length-cells own [] = refl
length-cells own (prop ∷ props) = omega (arith, length-cells own props)

pub raws-have_cells : (rels : List Rel) (props : List RelProp) (arcs : List FlatArc) → AllByRecursion (λ (arc : RawArc). length arc.cells ≡ length props) (map (raw_of rels props) arcs)
raws-have_cells rels props [] = tt
raws-have_cells rels props (arc ∷ arcs) = (length-cells (rel_of rels arc).props props, raws-have_cells rels props arcs)

-- both ends stand at their places
abbrev BothFound : List ℕ → List ℕ → ℕ → ℕ → Type 0
BothFound ids slots source target = IsFound ids source (place_or_zero slots source) × IsFound ids target (place_or_zero slots target)

raws-found : (ids slots : List ℕ) (rels : List Rel) (props : List RelProp) (arcs : List FlatArc) → AllByRecursion (IsPlaced ids slots single.source_of single.target_of) arcs → AllByRecursion (λ (arc : RawArc). BothFound ids slots arc.source arc.target) (map (raw_of rels props) arcs)
raws-found ids slots rels props [] placed = tt
raws-found ids slots rels props (arc ∷ arcs) placed = ((placed.0.source_found, placed.0.target_found), raws-found ids slots rels props arcs placed.1)

found-placed : (ids slots : List ℕ) (kept : List Grouped) → AllByRecursion (λ (arc : Grouped). BothFound ids slots arc.source arc.target) kept → AllByRecursion (IsPlaced ids slots grouped.source_of grouped.target_of) kept
found-placed ids slots [] found = tt
found-placed ids slots (arc ∷ kept) found = (record { source_found = found.0.0; target_found = found.0.1 }, found-placed ids slots kept found.1)

module _ (ids slots : List ℕ) (entry : RelFields) (rels : List Rel) (arcs : List FlatArc) (kept : List Grouped) (makes : entry.grouped ≡ true) (is : kept_arcs entry (map (raw_of rels entry.props) arcs) ≡ Ok kept) where
  -- the raw arcs of the groups
  abbrev pub raws_of_groups : List RawArc
  raws_of_groups = map (raw_of rels entry.props) arcs

  each : grouped.AreKeptFor (length entry.props) (groups_of true raws_of_groups) kept
  each = grouped.kept-each entry.props (groups_of true raws_of_groups) kept (ap (λ b. kept_groups entry.props (groups_of b raws_of_groups)) (sym makes) ∙ is)

  pub kept-placed : AllByRecursion (IsPlaced ids slots single.source_of single.target_of) arcs → AllByRecursion (IsPlaced ids slots grouped.source_of grouped.target_of) kept
  kept-placed placed =
      found-placed ids slots kept
      (grouped.kept-all (BothFound ids slots) (length entry.props) (groups_of true raws_of_groups) kept each (grouped.groups-all (BothFound ids slots) raws_of_groups (raws-found ids slots rels entry.props arcs placed)))

  pub kept-below : AllByRecursion (IsPlaced ids slots single.source_of single.target_of) arcs → All (LiesBelow (length ids)) (map (grouped_ends slots) kept)
  kept-below placed = All-from_recursion (LiesBelow (length ids)) (map (grouped_ends slots) kept) (ends-below ids slots grouped.source_of grouped.target_of kept (kept-placed placed))

  pub kept-in_order : IsStrictlyIncreasing ids → AllByRecursion (IsPlaced ids slots single.source_of single.target_of) arcs → Pairwise ArcInOrder raws_of_groups → IsSorted arc_cmp (map (grouped_ends slots) kept)
  kept-in_order up placed ascend =
      grouped.kept-sorted ids slots kept up (kept-placed placed) (grouped.kept-ascend (length entry.props) (groups_of true raws_of_groups) kept each (grouped.groups-ascend raws_of_groups ascend))

-- columns of kept arcs are as long as there are arcs, and named as the keys
pub grouped-long : (kept : List Grouped) (first : ℕ) (props : List RelProp) → AllByRecursion (λ (column : List ℕ × List ℤ). length column.1 ≡ length kept) (grouped_columns kept first props)
grouped-long kept first [] = tt
grouped-long kept first (prop ∷ props) = (length-map kept (value_at first), grouped-long kept (first + 1) props)

pub grouped-named : (kept : List Grouped) (first : ℕ) (props : List RelProp) → map (λ column. column.0) (grouped_columns kept first props) ≡ map (λ prop. prop.key) props
grouped-named kept first [] = refl
grouped-named kept first (prop ∷ props) = ap (λ names. prop.key ∷ names) (grouped-named kept (first + 1) props)

-- ---- the type

joins-same : (ids slots : List ℕ) (entry : RelFields) (rel : Rel) → AreSlots ids slots → joins_placed slots entry rel ≡ joins_among ids entry rel
joins-same ids slots entry rel are =
    ap (λ s. is_asked_for entry.store rel.kind && is_some s && is_some (slot_at slots rel.target)) (are rel.source)
    ∙ ap (λ t. is_asked_for entry.store rel.kind && is_some (place_of ids rel.source) && is_some t) (are rel.target)

filter-same : (p q : Rel → Bool) (rels : List Rel) → ((rel : Rel) → p rel ≡ q rel) → filter p rels ≡ filter q rels
filter-same p q [] same = refl
filter-same p q (rel ∷ rels) same =
    ap (λ b. cond b (rel ∷ filter p rels) (filter p rels)) (same rel)
    ∙ ap (λ rest. cond (q rel) (rel ∷ rest) rest) (filter-same p q rels same)

-- the type is made of these raw arcs
pub type-raws : (ids slots : List ℕ) (g : PropertyGraph) (entry : RelFields) (rels : List Rel) (arcs : List FlatArc) → AreSlots ids slots → rels ≡ filter (joins_placed slots entry) g.rels → Pairwise RelBefore rels
    → arcs ≡ in_order flat_before (flat_arcs entry.orientation 0 rels) → type_among ids g entry ≡ type_of entry (kept_arcs entry (map (raw_of rels entry.props) arcs))
type-raws ids slots g entry rels arcs are rels_are up arcs_are =
    ap (λ raws. type_of entry (kept_arcs entry raws))
    (single.raws-among ids g entry rels arcs (rels_are ∙ filter-same (joins_placed slots entry) (joins_among ids entry) g.rels (λ rel. joins-same ids slots entry rel are)) up arcs_are)

-- and these rows are its own
pub type-gives : (ids : List ℕ) (g : PropertyGraph) (entry : RelFields) (raws : List RawArc) (rows : ArcRows) (kind : List ℕ) (orientation : Orientation) → type_among ids g entry ≡ type_of entry (kept_arcs entry raws)
    → RowsGive ids entry raws rows → kind ≡ entry.kind → orientation ≡ entry.orientation → type_among ids g entry ≡ Ok (plain_type ids (record { kind = kind; orientation = orientation; arcs = rows }))
type-gives ids g entry raws rows kind orientation made gives named turned =
    made ∙ gives
    ∙ ap (λ k. Ok (record { name = k; orientation = entry.orientation; keys = names_of rows.columns; arcs = plain_arcs ids rows })) (sym named)
    ∙ ap (λ o. Ok (record { name = kind; orientation = o; keys = names_of rows.columns; arcs = plain_arcs ids rows })) (sym turned)

-- what a type is refused for doesn't depend on how it is written
pub refused-as : (why : Refusal) (made type : Result ProjectedType Refusal) → type ≡ made → UnlessMem why (made ≡ Err why) → UnlessMem why (type ≡ Err why)
refused-as why made type same refused = subst (λ t. UnlessMem why (t ≡ Err why)) (sym same) refused
