-- Rows of columns that are taken one place after another, and what they are of a projection.
use Rattle.std.proofs.Common.{◌≡◌, ℕ, ℤ, ◌+◌, ◌<◌, ◌≤◌, ◌||◌, ⊎_elim, Bool, true, false, cond, List, [], ◌∷◌, ◌++◌, length, map, get_or, Option, Some, None, refl, sym, ap, ◌∙◌, subst, zero, suc, arith, filter, slice_index_or, slice_index}
use Rattle.std.specs.List.{AllByRecursion, cons_option, filter_map, range_with_len, zip, list_any}
use Rattle.std.specs.Option.{unwrap_or, option_map, is_some}
use Rattle.std.specs.Str.{bytes_eq}
use Rattle.std.specs.Cmp.Lexicographic.{bytes_decides}
use Rattle.std.proofs.lemmas.Bool.{cases_Bool, cond-true, cond-false, false_from_ne_true, true≢false}
use Rattle.graph_model.specs.declared.refusal.Refusal.{Refusal}
use Rattle.graph_model.specs.declared.refusal.Refusal.TheVariants.{NoSuchLabel, NoSuchProperty}
use Rattle.graph_model.specs.Lists.{first_there}
use Rattle.std.specs.List.Sorted.{IsStrictlyIncreasing}
use Rattle.std.proofs.lemmas.List.Elements.{filter_map-append}
use Rattle.std.proofs.lemmas.List.FromFn.{get_or-map-range_with_len}
use Rattle.graph_model.specs.declared.graph.Choice.{Choice}
use Rattle.graph_model.specs.declared.graph.Choice.TheVariants.{All, Of}
use Rattle.graph_model.specs.Projection.{ProjectedNode, PlainProjection, missing_value, is_among, under}
use Rattle.graph_model.specs.View.{chooses_node, unknown_choice}
use Rattle.csr_columns.specs.declared.parts.Parts.{Parts}
use Rattle.csr_columns.specs.Rows.{names_of}
use Rattle.csr_columns.specs.Choosing.{is_kept, kept_flags}
use Rattle.csr_columns.specs.Plain.{plain, plain_node, labels_at, value_of, values_at}
use Rattle.csr_columns.proofs.Increasing.{increasing-less}
use Rattle.desk_model.specs.Graphs.{row_under, rows_under, refused_under, unknown_key}
use Rattle.desk_core.specs.Rows.{kept_row, kept_below}

-- one more place
range-more : (a n : ℕ) → range_with_len a (n + 1) ≡ range_with_len a n ++ (a + n) ∷ []
range-more a zero = let same : a ≡ a + 0 = omega arith in ap (λ (x : ℕ). x ∷ []) same
range-more a (suc n) =
    let same : a + 1 + n ≡ a + suc n = omega arith in
    let longer : suc n + 1 ≡ suc (n + 1) = omega arith in
    ap (range_with_len a) longer
    ∙ ap (λ rest. a ∷ rest) (range-more (a + 1) n ∙ ap (λ (x : ℕ). range_with_len (a + 1) n ++ x ∷ []) same)

pub kept-next : (ids : List ℕ) (kept : List Bool) (values : List ℤ) (v : ℕ) → kept_below ids kept values (v + 1) ≡ kept_below ids kept values v ++ cons_option (kept_row ids kept values v) []
kept-next ids kept values v =
    let here : 0 + v ≡ v = omega arith in
    ap (filter_map (kept_row ids kept values)) (range-more 0 v ∙ ap (λ (x : ℕ). range_with_len 0 v ++ x ∷ []) here)
    ∙ filter_map-append (kept_row ids kept values) (range_with_len 0 v) (v ∷ [])

-- ids below one place are below the next
pub below-later : (ids seen : List ℕ) (v : ℕ) → IsStrictlyIncreasing ids → v + 1 < length ids → AllByRecursion (λ before. before < get_or ids v 0) seen → AllByRecursion (λ before. before < get_or ids (v + 1) 0) seen
below-later ids [] v up within below = tt
below-later ids (x ∷ seen) v up within below =
    let next = increasing-less ids v (v + 1) (omega arith) within up in
    (omega (arith, below.0), below-later ids seen v up within below.1)

pub below-with : (ids seen : List ℕ) (v id : ℕ) → IsStrictlyIncreasing ids → v + 1 < length ids → id ≡ get_or ids v 0 → AllByRecursion (λ before. before < get_or ids v 0) seen → AllByRecursion (λ before. before < get_or ids (v + 1) 0) (seen ++ id ∷ [])
below-with ids [] v id up within is below =
    let next = increasing-less ids v (v + 1) (omega arith) within up in
    (omega (arith, is), tt)
below-with ids (x ∷ seen) v id up within is below =
    let next = increasing-less ids v (v + 1) (omega arith) within up in
    (omega (arith, below.0), below-with ids seen v id up within is below.1)

-- ---- the rows of a projection

-- a node's value under a key, by its column
value-under : (key : List ℕ) (columns : List (List ℕ × List ℤ)) (column : List ℤ) (v : ℕ) → Some column ≡ under key columns → unwrap_or (under key (zip (names_of columns) (values_at columns v))) missing_value ≡ slice_index_or column v missing_value
value-under key [] column v found = absurd cc
value-under key (first ∷ columns) column v found = here (bytes_eq first.0 key) (λ there. value-under key columns column v there) found
  where
    here : (b : Bool) → (Some column ≡ under key columns → unwrap_or (under key (zip (names_of columns) (values_at columns v))) missing_value ≡ slice_index_or column v missing_value) → Some column ≡ cond b (Some first.1) (under key columns) → unwrap_or (cond b (Some (value_of v first)) (under key (zip (names_of columns) (values_at columns v)))) missing_value ≡ slice_index_or column v missing_value
    here true rest is = let same : column ≡ first.1 = cc in ap (λ (xs : List ℤ). slice_index_or xs v missing_value) (sym same)
    here false rest is = rest is

-- whether a node is kept is whether a choice chooses it
chosen-is : (labels : Choice) (parts : Parts) (v : ℕ) → is_kept labels parts.labels v ≡ chooses_node labels (plain_node parts v)
chosen-is All parts v = refl
chosen-is (Of names) parts v = refl

-- the row at a place is that of the node there
row-is : (key : List ℕ) (labels : Choice) (parts : Parts) (values : List ℤ) (v : ℕ) → v < length parts.ids → Some values ≡ under key parts.columns → kept_row parts.ids (kept_flags labels parts.labels (length parts.ids)) values v ≡ cond (chooses_node labels (plain_node parts v)) (Some (row_under (plain parts).keys key (plain_node parts v))) None
row-is key labels parts values v within found =
    let flag = get_or-map-range_with_len (is_kept labels parts.labels) 0 (length parts.ids) v v false within (omega arith) ∙ chosen-is labels parts v in
    ap (λ (b : Bool). cond b (Some (slice_index parts.ids v, slice_index_or values v missing_value)) None) flag
    ∙ ap (λ (x : ℤ). cond (chooses_node labels (plain_node parts v)) (Some (slice_index parts.ids v, x)) None) (sym (value-under key parts.columns values v found))

-- rows of nodes, place by place
map-chosen : (labels : Choice) (row : ProjectedNode → ℕ × ℤ) (node : ℕ → ProjectedNode) (row_at : ℕ → Option (ℕ × ℤ)) (a n : ℕ) → ((v : ℕ) → v < a + n → row_at v ≡ cond (chooses_node labels (node v)) (Some (row (node v))) None) → filter_map row_at (range_with_len a n) ≡ map row (filter (chooses_node labels) (map node (range_with_len a n)))
map-chosen labels row node row_at a zero is = refl
map-chosen labels row node row_at a (suc n) is =
    let rest = map-chosen labels row node row_at (a + 1) n (λ v h. is v (omega (arith, h))) in
    ap (λ (r : Option (ℕ × ℤ)). cons_option r (filter_map row_at (range_with_len (a + 1) n))) (is a (omega arith))
    ∙ step (chooses_node labels (node a)) (filter_map row_at (range_with_len (a + 1) n)) (filter (chooses_node labels) (map node (range_with_len (a + 1) n))) rest
  where
    step : (b : Bool) (rows : List (ℕ × ℤ)) (nodes : List ProjectedNode) → rows ≡ map row nodes → cons_option (cond b (Some (row (node a))) None) rows ≡ map row (cond b (node a ∷ nodes) nodes)
    step true rows nodes same = ap (λ rs. row (node a) ∷ rs) same
    step false rows nodes same = same

pub kept-rows : (key : List ℕ) (labels : Choice) (parts : Parts) (values : List ℤ) → Some values ≡ under key parts.columns → kept_below parts.ids (kept_flags labels parts.labels (length parts.ids)) values (length parts.ids) ≡ rows_under key labels (plain parts)
kept-rows key labels parts values found =
    map-chosen labels (row_under (plain parts).keys key) (plain_node parts) (kept_row parts.ids (kept_flags labels parts.labels (length parts.ids)) values) 0 (length parts.ids)
    (λ v within. row-is key labels parts values v (omega (arith, within)) found)

-- ---- names

bytes-turned : (a b : List ℕ) → bytes_eq a b ≡ bytes_eq b a
bytes-turned a b =
    ⊎_elim
    (λ (same : bytes_eq a b ≡ true). same ∙ sym ((bytes_decides b a).1 (sym ((bytes_decides a b).0 same))))
    (λ (other : bytes_eq a b ≡ false). other ∙ sym (false_from_ne_true (bytes_eq b a) (λ same. true≢false (sym ((bytes_decides a b).1 (sym ((bytes_decides b a).0 same))) ∙ other))))
    (cases_Bool (bytes_eq a b))

-- there is a column under a key exactly where it is among the keys
pub some-among : (key : List ℕ) (columns : List (List ℕ × List ℤ)) → is_some (under key columns) ≡ is_among (names_of columns) key
some-among key [] = refl
some-among key (first ∷ columns) =
    here (bytes_eq first.0 key) (under key columns)
    ∙ ap (λ (b : Bool). b || is_some (under key columns)) (bytes-turned first.0 key)
    ∙ ap (λ (b : Bool). bytes_eq key first.0 || b) (some-among key columns)
  where
    here : (b : Bool) (rest : Option (List ℤ)) → is_some (cond b (Some first.1) rest) ≡ (b || is_some rest)
    here true rest = refl
    here false rest = refl

pub key-known : (key : List ℕ) (columns : List (List ℕ × List ℤ)) (column : List ℤ) → Some column ≡ under key columns → unknown_key (names_of columns) key ≡ None
key-known key columns column found =
    cond-true (is_among (names_of columns) key) None (Some (NoSuchProperty key)) (sym (some-among key columns) ∙ ap is_some (sym found))

pub key-unknown : (key : List ℕ) (columns : List (List ℕ × List ℤ)) → None ≡ under key columns → unknown_key (names_of columns) key ≡ Some (NoSuchProperty key)
key-unknown key columns missing =
    cond-false (is_among (names_of columns) key) None (Some (NoSuchProperty key)) (sym (some-among key columns) ∙ ap is_some (sym missing))

-- a label that isn't projected is told first
pub label-first : (key : List ℕ) (labels : Choice) (p : PlainProjection) (why : Refusal) → option_map NoSuchLabel (unknown_choice p.labels labels) ≡ Some why → refused_under key labels p ≡ Some why
label-first key labels p why is = ap (λ (first : Option Refusal). first_there first (unknown_key p.keys key)) is

pub then-key : (key : List ℕ) (labels : Choice) (p : PlainProjection) (why : Option Refusal) → unknown_choice p.labels labels ≡ None → unknown_key p.keys key ≡ why → refused_under key labels p ≡ why
then-key key labels p why none is =
    ap (λ (first : Option (List ℕ)). first_there (option_map NoSuchLabel first) (unknown_key p.keys key)) none ∙ is
