-- Rows of arcs that are kept for groups give the type of their entry.
use Rattle.std.proofs.Common.{◌≡◌, ℕ, ◌+◌, ◌<◌, ◌≤◌, ℤ, Bool, true, false, true≢false, cond, eqb, nat_lt, ◌&&◌, List, [], ◌∷◌, ◌++◌, length, map, get_or, Option, Some, None, Result, Ok, Err, refl, sym, ap, subst, ◌∙◌, suc, zero, arith}
use Rattle.std.proofs.lemmas.List.{length-map}
use Rattle.std.proofs.lemmas.Option.{same_Some}
use Rattle.std.specs.List.{All, AllByRecursion, filter}
use Rattle.std.specs.List.Sorted.{IsSorted, IsStrictlyIncreasing}
use Rattle.std.specs.Result.{is_ok, result_ok}
use Rattle.graph_model.specs.Lists.{Pairwise}
use Rattle.graph_model.specs.Projection.{missing_value}
use Rattle.projection_spec.specs.declared.arcs.RawArc.{RawArc}
use Rattle.projection_spec.specs.declared.arcs.Grouped.{Grouped}
use Rattle.projection_spec.specs.declared.entries.RelProp.{RelProp}
use Rattle.projection_spec.specs.Fields.{RelFields}
use Rattle.projection_spec.specs.RawArcs.{ArcInOrder}
use Rattle.projection_spec.specs.KeptArcs.{ArcGroup, SumOut, has_other_ends, with_arcs, ends_of, groups_of, rule_value, with_value, group_values, least_rel, kept_arc, with_kept, kept_groups, kept_arcs}
use Rattle.projection_spec.specs.NativeProjection.{type_of, arc_from_kept, rel_prop_key}
use Rattle.csr_columns.specs.Rows.{ArcRows, LiesBelow, arc_cmp, arc_rows_of, names_of}
use Rattle.csr_columns.specs.Plain.{plain_arcs}
use Rattle.projected_arcs.specs.Types.{RowsGive, value_at, grouped_columns, grouped_ends}
use Rattle.projected_arcs.proofs.EndLemmas.{IsPlaced, EndsInOrder, in-order-from, ends-sorted}
use Rattle.projected_arcs.proofs.ListLemmas.{at-middle, length-push, push-front, Pairwise-at, Pairwise-filter, All-filter}
use Rattle.projected_arcs.proofs.RowLemmas.{column_over, arc_over, EndsStand, plain-over, keys-over}

-- the source and the target of an arc that is kept
abbrev pub source_of : Grouped → ℕ
source_of arc = arc.source

abbrev pub target_of : Grouped → ℕ
target_of arc = arc.target

-- two values that are answered alike are the same
pub same_Ok : {T E : Type 0} (x y : T) → ◌≡◌ {A = Result T E} (Ok x) (Ok y) → x ≡ y
same_Ok x y is = same_Some x y (ap result_ok is)

-- ---- what is kept for groups

-- an arc is what is kept for a group of this source and this target
pub record IsKeptFor (many : ℕ) (group : ArcGroup) (arc : Grouped) : Type 0 where
  pub source_same : arc.source ≡ group.source
  pub target_same : arc.target ≡ group.target
  pub values_many : length arc.values ≡ many

abbrev pub AreKeptFor : ℕ → List ArcGroup → List Grouped → Type 0
AreKeptFor many [] [] = Unit {0}
AreKeptFor many [] (arc ∷ arcs) = ⊥
AreKeptFor many (group ∷ groups) [] = ⊥
AreKeptFor many (group ∷ groups) (arc ∷ arcs) = IsKeptFor many group arc × AreKeptFor many groups arcs

values-many : (place : ℕ) (props : List RelProp) (arcs : List RawArc) (values : List ℤ) → group_values place props arcs ≡ Ok values → length values ≡ length props
values-many place [] arcs values is = ap length (sym (same_Ok [] values is))
values-many place (prop ∷ props) arcs values is = by (λ rest o. values-many (place + 1) props arcs rest o) (rule_value prop.rule place prop arcs) (group_values (place + 1) props arcs) refl is
  where
    by : ((rest : List ℤ) → group_values (place + 1) props arcs ≡ Ok rest → length rest ≡ length props) → (value : Option ℤ) (others : Result (List ℤ) (List ℕ)) → group_values (place + 1) props arcs ≡ others → with_value prop.key value others ≡ Ok values → length values ≡ suc (length props)
    by later None others o e = absurd (true≢false (sym (ap is_ok e)))
    by later (Some value) (Ok rest) o e = ap length (sym (same_Ok (value ∷ rest) values e)) ∙ ap suc (later rest o)
    by later (Some value) (Err first) o e = absurd (true≢false (sym (ap is_ok e)))

kept-one : (props : List RelProp) (group : ArcGroup) (values : Result (List ℤ) (List ℕ)) (arc : Grouped) → group_values 0 props group.arcs ≡ values → kept_arc group values ≡ Ok arc → IsKeptFor (length props) group arc
kept-one props group (Ok values) arc are is =
    let same = same_Ok (record { source = group.source; target = group.target; rel = least_rel group.arcs; values = values }) arc is in
    record {
      source_same = ap (λ (a : Grouped). a.source) (sym same);
      target_same = ap (λ (a : Grouped). a.target) (sym same);
      values_many = ap (λ (a : Grouped). length a.values) (sym same) ∙ values-many 0 props group.arcs values are;
    }
kept-one props group (Err key) arc are is = absurd (true≢false (sym (ap is_ok is)))

pub kept-each : (props : List RelProp) (groups : List ArcGroup) (kept : List Grouped) → kept_groups props groups ≡ Ok kept → AreKeptFor (length props) groups kept
kept-each props [] kept is = subst (AreKeptFor (length props) []) (same_Ok [] kept is) tt
kept-each props (group ∷ groups) kept is = by (λ arcs o. kept-each props groups arcs o) (kept_arc group (group_values 0 props group.arcs)) (kept_groups props groups) refl refl is
  where
    by : ((arcs : List Grouped) → kept_groups props groups ≡ Ok arcs → AreKeptFor (length props) groups arcs) → (first : Result Grouped SumOut) (others : Result (List Grouped) SumOut) → kept_arc group (group_values 0 props group.arcs) ≡ first → kept_groups props groups ≡ others → with_kept first others ≡ Ok kept → AreKeptFor (length props) (group ∷ groups) kept
    by later (Err out) others f o e = absurd (true≢false (sym (ap is_ok e)))
    by later (Ok arc) (Ok arcs) f o e = subst (AreKeptFor (length props) (group ∷ groups)) (same_Ok (arc ∷ arcs) kept e) (kept-one props group (group_values 0 props group.arcs) arc refl f, later arcs o)
    by later (Ok arc) (Err out) f o e = absurd (true≢false (sym (ap is_ok e)))

-- ---- the ends of groups

module _ (P : ℕ → ℕ → Type 0) where
  ends-all : (arcs : List RawArc) → AllByRecursion (λ arc. P arc.source arc.target) arcs → AllByRecursion (λ group. P group.source group.target) (ends_of arcs)
  ends-all [] all = tt
  ends-all (arc ∷ arcs) all = (all.0, All-filter (λ (group : ArcGroup). P group.source group.target) (has_other_ends arc) (ends_of arcs) (ends-all arcs all.1))

  with-all : (raws : List RawArc) (groups : List ArcGroup) → AllByRecursion (λ group. P group.source group.target) groups → AllByRecursion (λ group. P group.source group.target) (map (with_arcs raws) groups)
  with-all raws [] all = tt
  with-all raws (group ∷ groups) all = (all.0, with-all raws groups all.1)

  -- what holds of the ends of all raw arcs holds of those of all groups
  pub groups-all : (raws : List RawArc) → AllByRecursion (λ arc. P arc.source arc.target) raws → AllByRecursion (λ group. P group.source group.target) (groups_of true raws)
  groups-all raws all = with-all raws (ends_of raws) (ends-all raws all)

  -- and of those of all arcs that are kept
  pub kept-all : (many : ℕ) (groups : List ArcGroup) (kept : List Grouped) → AreKeptFor many groups kept → AllByRecursion (λ group. P group.source group.target) groups → AllByRecursion (λ arc. P arc.source arc.target) kept
  kept-all many [] [] are all = tt
  kept-all many [] (arc ∷ arcs) are all = absurd are
  kept-all many (group ∷ groups) [] are all = absurd are
  kept-all many (group ∷ groups) (arc ∷ arcs) are all =
      (subst (λ s. P s arc.target) (sym are.0.source_same) (subst (λ t. P group.source t) (sym are.0.target_same) all.0), kept-all many groups arcs are.1 all.1)

-- groups in order
abbrev GroupsInOrder : ArcGroup → ArcGroup → Type 0
GroupsInOrder a b = EndsInOrder a.source a.target b.source b.target

abbrev pub KeptInOrder : Grouped → Grouped → Type 0
KeptInOrder a b = EndsInOrder a.source a.target b.source b.target

later-ends : (arc : RawArc) (arcs : List RawArc) → AllByRecursion (ArcInOrder arc) arcs → AllByRecursion (λ b. EndsInOrder arc.source arc.target b.source b.target) arcs
later-ends arc [] later = tt
later-ends arc (b ∷ arcs) later =
    (in-order-from arc.source arc.target b.source b.target (eqb b.target arc.target && nat_lt b.rel arc.rel) later.0, later-ends arc arcs later.1)

ends-ascend : (arcs : List RawArc) → Pairwise ArcInOrder arcs → Pairwise GroupsInOrder (ends_of arcs)
ends-ascend [] up = tt
ends-ascend (arc ∷ arcs) up = (
  All-filter (λ (group : ArcGroup). EndsInOrder arc.source arc.target group.source group.target) (has_other_ends arc) (ends_of arcs) (ends-all (EndsInOrder arc.source arc.target) arcs (later-ends arc arcs up.0)),
  Pairwise-filter GroupsInOrder (has_other_ends arc) (ends_of arcs) (ends-ascend arcs up.1),
)

with-ascend : (raws : List RawArc) (groups : List ArcGroup) → Pairwise GroupsInOrder groups → Pairwise GroupsInOrder (map (with_arcs raws) groups)
with-ascend raws [] up = tt
with-ascend raws (group ∷ groups) up = (with-all (EndsInOrder group.source group.target) raws groups up.0, with-ascend raws groups up.1)

-- the arcs that are kept for the groups of raw arcs in order are in order
pub kept-ascend : (many : ℕ) (groups : List ArcGroup) (kept : List Grouped) → AreKeptFor many groups kept → Pairwise GroupsInOrder groups → Pairwise KeptInOrder kept
kept-ascend many [] [] are up = tt
kept-ascend many [] (arc ∷ arcs) are up = absurd are
kept-ascend many (group ∷ groups) [] are up = absurd are
kept-ascend many (group ∷ groups) (arc ∷ arcs) are up = (
  subst (λ s. AllByRecursion (λ b. EndsInOrder s arc.target b.source b.target) arcs) (sym are.0.source_same)
      (subst (λ t. AllByRecursion (λ b. EndsInOrder group.source t b.source b.target) arcs) (sym are.0.target_same)
      (kept-all (EndsInOrder group.source group.target) many groups arcs are.1 up.0)),
  kept-ascend many groups arcs are.1 up.1,
)

pub groups-ascend : (raws : List RawArc) → Pairwise ArcInOrder raws → Pairwise GroupsInOrder (groups_of true raws)
groups-ascend raws up = with-ascend raws (ends_of raws) (ends-ascend raws up)

-- the ends of kept arcs are in order
pub kept-sorted : (ids slots : List ℕ) (kept : List Grouped) → IsStrictlyIncreasing ids → AllByRecursion (IsPlaced ids slots source_of target_of) kept → Pairwise KeptInOrder kept → IsSorted arc_cmp (map (grouped_ends slots) kept)
kept-sorted ids slots kept up placed ascend =
    ends-sorted ids slots source_of target_of kept up placed (λ k d within. Pairwise-at KeptInOrder kept k (k + 1) d (omega arith) within ascend)

-- ---- the fields of kept arcs

abbrev grouped_fields : ℕ → List RelProp → List (List ℕ × (Grouped → ℤ))
grouped_fields first [] = []
grouped_fields first (prop ∷ props) = (prop.key, value_at first) ∷ grouped_fields (first + 1) props

fields-over : (ids slots : List ℕ) (all : List (List ℕ × (Grouped → ℤ))) (kept : List Grouped) (first : ℕ) (props : List RelProp) → grouped_columns kept first props ≡ map (column_over ids source_of target_of (grouped_ends slots) all kept) (grouped_fields first props)
fields-over ids slots all kept first [] = refl
fields-over ids slots all kept first (prop ∷ props) = ap (λ columns. (prop.key, map (value_at first) kept) ∷ columns) (fields-over ids slots all kept (first + 1) props)

names-grouped : (first : ℕ) (props : List RelProp) → map (λ field. field.0) (grouped_fields first props) ≡ map rel_prop_key props
names-grouped first [] = refl
names-grouped first (prop ∷ props) = ap (λ names. prop.key ∷ names) (names-grouped (first + 1) props)

-- the values of an arc by their places are its values
values-grouped : (arc : Grouped) (front values : List ℤ) (props : List RelProp) → arc.values ≡ front ++ values → length values ≡ length props → map (λ field. field.1 arc) (grouped_fields (length front) props) ≡ values
values-grouped arc front [] [] are many = refl
values-grouped arc front [] (prop ∷ props) are many = absurd (omega arith)
values-grouped arc front (value ∷ values) [] are many = absurd (omega arith)
values-grouped arc front (value ∷ values) (prop ∷ props) are many =
    let here : value_at (length front) arc ≡ value = ap (λ vs. get_or vs (length front) missing_value) are ∙ at-middle front value values missing_value in
    ap (λ v. v ∷ map (λ field. field.1 arc) (grouped_fields (length front + 1) props)) here
    ∙ ap (λ vs. value ∷ vs)
    (ap (λ n. map (λ field. field.1 arc) (grouped_fields n props)) (sym (length-push front value))
    ∙ values-grouped arc (front ++ value ∷ []) values props (are ∙ sym (push-front front value values)) (omega arith))

abbrev HasMany : ℕ → Grouped → Type 0
HasMany many arc = length arc.values ≡ many

kept-many : (many : ℕ) (groups : List ArcGroup) (kept : List Grouped) → AreKeptFor many groups kept → AllByRecursion (HasMany many) kept
kept-many many [] [] are = tt
kept-many many [] (arc ∷ arcs) are = absurd are
kept-many many (group ∷ groups) [] are = absurd are
kept-many many (group ∷ groups) (arc ∷ arcs) are = (are.0.values_many, kept-many many groups arcs are.1)

arcs-grouped : (ids slots : List ℕ) (props : List RelProp) (kept : List Grouped) → AllByRecursion (HasMany (length props)) kept → map (arc_over ids source_of target_of (grouped_ends slots) (grouped_fields 0 props)) kept ≡ map arc_from_kept kept
arcs-grouped ids slots props [] many = refl
arcs-grouped ids slots props (arc ∷ kept) many =
    ap (λ values. record { source = arc.source; target = arc.target; values = values } ∷ map (arc_over ids source_of target_of (grouped_ends slots) (grouped_fields 0 props)) kept) (values-grouped arc [] arc.values props refl many.0)
    ∙ ap (λ rest. arc_from_kept arc ∷ rest) (arcs-grouped ids slots props kept many.1)

stand-grouped : (ids slots : List ℕ) (fields : List (List ℕ × (Grouped → ℤ))) (kept : List Grouped) → AllByRecursion (IsPlaced ids slots source_of target_of) kept → AllByRecursion (EndsStand ids source_of target_of (grouped_ends slots) fields) kept
stand-grouped ids slots fields [] placed = tt
stand-grouped ids slots fields (arc ∷ kept) placed = (record { source_stands = placed.0.source_found.stands; target_stands = placed.0.target_found.stands }, stand-grouped ids slots fields kept placed.1)

pub grouped-gives : (ids slots : List ℕ) (n : ℕ) (entry : RelFields) (raws : List RawArc) (kept : List Grouped) (rows : ArcRows)
    → kept_arcs entry raws ≡ Ok kept
    → All (LiesBelow n) (map (grouped_ends slots) kept) → IsSorted arc_cmp (map (grouped_ends slots) kept) → AllByRecursion (IsPlaced ids slots source_of target_of) kept
    → rows ≡ arc_rows_of n (map (grouped_ends slots) kept) (grouped_columns kept 0 entry.props)
    → RowsGive ids entry raws rows
grouped-gives ids slots n entry raws kept rows is below sorted placed are =
    let props = entry.props in
    let fields = grouped_fields 0 props in
    let made : rows ≡ arc_rows_of n (map (grouped_ends slots) kept) (map (column_over ids source_of target_of (grouped_ends slots) fields kept) fields) =
    are ∙ ap (arc_rows_of n (map (grouped_ends slots) kept)) (fields-over ids slots fields kept 0 props) in
    let each = kept-each props (groups_of entry.grouped raws) kept is in
    let keys : map rel_prop_key props ≡ names_of rows.columns =
    sym (keys-over ids source_of target_of (grouped_ends slots) fields n kept below sorted rows made ∙ names-grouped 0 props) in
    let plain : map arc_from_kept kept ≡ plain_arcs ids rows =
    sym (plain-over ids source_of target_of (grouped_ends slots) fields n kept below sorted rows made (stand-grouped ids slots fields kept placed) ∙ arcs-grouped ids slots props kept (kept-many (length props) (groups_of entry.grouped raws) kept each)) in
    ap (type_of entry) is
    ∙ ap (λ ks. Ok (record { name = entry.kind; orientation = entry.orientation; keys = ks; arcs = map arc_from_kept kept })) keys
    ∙ ap (λ arcs_now. Ok (record { name = entry.kind; orientation = entry.orientation; keys = names_of rows.columns; arcs = arcs_now })) plain
