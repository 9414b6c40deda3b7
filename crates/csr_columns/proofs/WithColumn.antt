-- A projection with one more column.
use Rattle.std.proofs.Common.{◌≡◌, ◌≢◌, inl, inr, ⊎_elim, eqb, ℕ, ℤ, ◌<◌, ◌≤◌, Bool, true, false, ◌||◌, List, [], ◌∷◌, length, map, get_or, take, drop, refl, sym, ap, ◌∙◌, subst, zero, suc, arith}
use Rattle.std.specs.List.{All, AllByRecursion, zip, insert, range_with_len}
use Rattle.std.specs.List.Sorted.{IsStrictlyIncreasing}
use Rattle.std.specs.Str.{bytes_eq}
use Rattle.std.specs.Ordering.{nat_cmp, is_lt, ordering_reverse, ordering_then}
use Rattle.std.specs.Cmp.Lexicographic.{slice_cmp, bytes_decides, nat_list_cmp_total}
use Rattle.std.specs.declared.cmp.Ordering.{Ordering}
use Rattle.std.specs.declared.cmp.Ordering.TheVariants.{Less, Equal, Greater}
use Rattle.std.proofs.lemmas.Bool.{cases_Bool, cond-true, cond-false, false_from_ne_true}
use Rattle.std.proofs.lemmas.Map.Lookups.{exact_unsigned}
use Rattle.graph_model.specs.Lists.{Pairwise}
use Rattle.graph_model.specs.Names.{IsBefore}
use Rattle.graph_model.specs.Projection.{is_among, name_before, place_among, value_beside, missing_value}
use Rattle.std.proofs.lemmas.Bool.{cases_lt, eq-eqb, ne_eqb}
use Rattle.csr_columns.specs.Offsets.{IsUnnamed}
use Rattle.std.proofs.lemmas.List.{length-map, get_or-map}
use Rattle.std.proofs.lemmas.Simd.{map-map}
use Rattle.std.proofs.lemmas.List.Edits.{length-insert}
use Rattle.std.proofs.lemmas.List.Elements.{All-append, All-take, All-drop, All-cons}
use Rattle.std.proofs.lemmas.Slice.Zip.{firsts-zip, seconds-zip}
use Rattle.graph_model.specs.Projection.{value_for, with_column, node_with_column}
use Rattle.graph_model.specs.declared.graph.Column.{Column}
use Rattle.csr_columns.specs.declared.parts.Parts.{Parts}
use Rattle.csr_columns.specs.declared.parts.TypeColumns.{TypeColumns}
use Rattle.csr_columns.specs.Rows.{names_of}
use Rattle.csr_columns.specs.Parts.{IsLong, parts_shown, AreColumns}
use Rattle.csr_columns.specs.Plain.{plain, plain_node, labels_at, value_of, values_at, parts_with_column}
use Rattle.csr_columns.proofs.Increasing.{increasing-less}
use Rattle.csr_columns.proofs.OffsetRows.{map-range_agree}
use Rattle.csr_columns.proofs.Ascending.{count_by-yes, count_by-no}

both_equal : (a b : Ordering) → ordering_then a b ≡ Equal → (a ≡ Equal) × (b ≡ Equal)
both_equal Less b h = absurd cc
both_equal Equal b h = (refl, h)
both_equal Greater b h = absurd cc

-- names that compare alike are one
exact : (a b : List ℕ) → slice_cmp nat_cmp a b ≡ Equal → a ≡ b
exact [] [] h = refl
exact [] (y ∷ ys) h = absurd cc
exact (x ∷ xs) [] h = absurd cc
exact (x ∷ xs) (y ∷ ys) h =
    let parts = both_equal (nat_cmp x y) (slice_cmp nat_cmp xs ys) h in
    let head : x ≡ y = exact_unsigned x y parts.0 in
    let tail : xs ≡ ys = exact xs ys parts.1 in
    cc

-- what the test says
before-yes : (key other : List ℕ) → name_before key other ≡ true → IsBefore other key
before-yes key other h = less (slice_cmp nat_cmp other key) h
  where
    less : (o : Ordering) → is_lt o ≡ true → o ≡ Less
    less Less h = refl
    less Equal h = absurd cc
    less Greater h = absurd cc

before-no : (key other : List ℕ) → name_before key other ≡ false → key ≢ other → IsBefore key other
before-no key other h differ = reverse (slice_cmp nat_cmp other key) refl h
  where
    reverse : (o : Ordering) → slice_cmp nat_cmp other key ≡ o → is_lt o ≡ false → IsBefore key other
    reverse Less e h = absurd cc
    reverse Equal e h = absurd (differ (sym (exact other key e)))
    reverse Greater e h = nat_list_cmp_total.antisymm key other ∙ ap ordering_reverse e

-- what comes after a key doesn't come before it
before-later : (key other : List ℕ) → IsBefore key other → name_before key other ≡ false
before-later key other h = ap is_lt (nat_list_cmp_total.antisymm other key ∙ ap ordering_reverse h)

-- a key that isn't among keys differs from each
is_among-head : (key first : List ℕ) (keys : List (List ℕ)) → is_among (first ∷ keys) key ≡ false → key ≢ first
is_among-head key first keys none same =
    let here : bytes_eq key first ≡ true = (bytes_decides key first).1 same in
    let h : (true || is_among keys key) ≡ false = subst (λ (b : Bool). (b || is_among keys key) ≡ false) here none in
    absurd cc

is_among-tail : (key first : List ℕ) (keys : List (List ℕ)) → is_among (first ∷ keys) key ≡ false → is_among keys key ≡ false
is_among-tail key first keys none =
    elim (cases_Bool (bytes_eq key first)) [
      | inl there ↦ absurd (is_among-head key first keys none ((bytes_decides key first).0 there))
      | inr gone ↦ subst (λ (b : Bool). (b || is_among keys key) ≡ false) gone none
    ]

-- what the search for a place says of a key
pub is_among-unnamed : (keys : List (List ℕ)) (key : List ℕ) → IsUnnamed keys key (length keys) → is_among keys key ≡ false
is_among-unnamed [] key absent = refl
is_among-unnamed (first ∷ keys) key absent =
    let other = false_from_ne_true (bytes_eq key first) (λ same. absent 0 (omega arith) (sym ((bytes_decides key first).0 same))) in
    ap (λ (b : Bool). b || is_among keys key) other ∙ is_among-unnamed keys key (λ n h. absent (suc n) (omega arith))

pub is_among-named : (keys : List (List ℕ)) (key : List ℕ) (place : ℕ) → place < length keys → get_or keys place [] ≡ key → is_among keys key ≡ true
is_among-named [] key place h same = absurd (omega arith)
is_among-named (first ∷ keys) key zero h same = ap (λ (b : Bool). b || is_among keys key) ((bytes_decides key first).1 (sym same))
is_among-named (first ∷ keys) key (suc place) h same =
    elim (cases_Bool (bytes_eq key first)) [
      | inl there ↦ ap (λ (b : Bool). b || is_among keys key) there
      | inr gone ↦ ap (λ (b : Bool). b || is_among keys key) gone ∙ is_among-named keys key place (omega arith) same
    ]

-- all later ones follow, too
all_after : (key first : List ℕ) (keys : List (List ℕ)) → IsBefore key first → AllByRecursion (IsBefore first) keys → AllByRecursion (IsBefore key) keys
all_after key first [] h after = tt
all_after key first (k ∷ keys) h after = (nat_list_cmp_total.trans key first k h after.0, all_after key first keys h after.1)

-- none of those that come after a key comes before it
none_before : (key : List ℕ) (keys : List (List ℕ)) → AllByRecursion (IsBefore key) keys → place_among keys key ≡ 0
none_before key [] after = refl
none_before key (first ∷ keys) after =
    count_by-no (name_before key) first keys (before-later key first after.0) ∙ none_before key keys after.1

All-inserted : (P : List ℕ → Type 0) (keys : List (List ℕ)) (place : ℕ) (key : List ℕ) → P key → AllByRecursion P keys → AllByRecursion P (insert keys place key)
All-inserted P [] zero key here all = (here, tt)
All-inserted P [] (suc place) key here all = (here, tt)
All-inserted P (first ∷ keys) zero key here all = (here, all)
All-inserted P (first ∷ keys) (suc place) key here all = (all.0, All-inserted P keys place key here all.1)

-- keys still ascend when one is put in its place
pub Pairwise-inserted : (keys : List (List ℕ)) (key : List ℕ) → Pairwise IsBefore keys → is_among keys key ≡ false → Pairwise IsBefore (insert keys (place_among keys key) key)
Pairwise-inserted [] key pairs none = (tt, tt)
Pairwise-inserted (first ∷ keys) key pairs none =
    elim (cases_Bool (name_before key first)) [
      | inl there ↦ rw (count_by-yes (name_before key) first keys there) (All-inserted (IsBefore first) keys (place_among keys key) key (before-yes key first there) pairs.0, Pairwise-inserted keys key pairs.1 (is_among-tail key first keys none))
      | inr gone ↦
          let earlier = before-no key first gone (is_among-head key first keys none) in
          let after : AllByRecursion (IsBefore key) (first ∷ keys) = (earlier, all_after key first keys earlier pairs.0) in
          rw (none_before key (first ∷ keys) after) (after, pairs)
    ]

-- names and columns, with one more in each
pub zip-inserted : {X Y : Type 0} (xs : List X) (ys : List Y) (place : ℕ) (x : X) (y : Y) → length ys ≡ length xs → place ≤ length xs → zip (insert xs place x) (insert ys place y) ≡ insert (zip xs ys) place (x, y)
zip-inserted [] [] zero x y long h = refl
zip-inserted [] [] (suc place) x y long h = absurd (omega arith)
zip-inserted [] (b ∷ ys) place x y long h = absurd (omega arith)
zip-inserted (a ∷ xs) [] place x y long h = absurd (omega arith)
zip-inserted (a ∷ xs) (b ∷ ys) zero x y long h = refl
zip-inserted {X} {Y} (a ∷ xs) (b ∷ ys) (suc place) x y long h = ap (λ (zs : List (X × Y)). (a, b) ∷ zs) (zip-inserted xs ys place x y (omega arith) (omega arith))

pub map-inserted : {X Y : Type 0} (f : X → Y) (xs : List X) (place : ℕ) (x : X) → map f (insert xs place x) ≡ insert (map f xs) place (f x)
map-inserted f [] zero x = refl
map-inserted f [] (suc place) x = refl
map-inserted f (a ∷ xs) zero x = refl
map-inserted {X} {Y} f (a ∷ xs) (suc place) x = ap (λ (ys : List Y). f a ∷ ys) (map-inserted f xs place x)

-- the value beside an id that stands at a place, and where it stands nowhere
pub value_beside-found : (ids : List ℕ) (values : List ℤ) (id at : ℕ) (d : ℤ) → length values ≡ length ids → ((k : ℕ) → k < at → get_or ids k 0 < id) → at < length ids → get_or ids at 0 ≡ id → get_or values at d ≡ value_beside ids values id
value_beside-found [] values id at d long passed h same = absurd (omega arith)
value_beside-found (first ∷ ids) [] id at d long passed h same = absurd (omega arith)
value_beside-found (first ∷ ids) (value ∷ values) id zero d long passed h same = sym (cond-true (eqb first id) value (value_beside ids values id) (eq-eqb first id same))
value_beside-found (first ∷ ids) (value ∷ values) id (suc at) d long passed h same =
    let less : first < id = passed 0 (omega arith) in
    value_beside-found ids values id at d (omega arith) (λ k k_in. passed (suc k) (omega arith)) (omega arith) same
    ∙ sym (cond-false (eqb first id) value (value_beside ids values id) (ne_eqb first id (omega arith)))

pub value_beside-none : (ids : List ℕ) (values : List ℤ) (id : ℕ) → length values ≡ length ids → ((k : ℕ) → k < length ids → get_or ids k 0 ≢ id) → missing_value ≡ value_beside ids values id
value_beside-none [] values id long absent = refl
value_beside-none (first ∷ ids) [] id long absent = refl
value_beside-none (first ∷ ids) (value ∷ values) id long absent =
    value_beside-none ids values id (omega arith) (λ k h. absent (suc k) (omega arith))
    ∙ sym (cond-false (eqb first id) value (value_beside ids values id) (ne_eqb first id (absent 0 (omega arith))))

-- a place that no id stands at, among ids that ascend
pub nowhere : (ids : List ℕ) (id at : ℕ) → IsStrictlyIncreasing ids → ((k : ℕ) → k < at → get_or ids k 0 < id) → (at < length ids → id < get_or ids at 0) → (k : ℕ) → k < length ids → get_or ids k 0 ≢ id
nowhere ids id at up passed stops k h same =
    ⊎_elim
    (λ (e : k < at). omega (arith, passed k e))
    (λ (e : at ≤ k).
    ⊎_elim
    (λ (f : at < k). omega (arith, increasing-less ids at k f h up, stops (omega arith)))
    (λ (f : k ≤ at).
    let here : k ≡ at = omega arith in
    let there : id < get_or ids k 0 = subst (λ (n : ℕ). id < get_or ids n 0) (sym here) (stops (omega arith)) in
    omega arith)
    (cases_lt at k))
    (cases_lt k at)

-- a place among keys
pub place_among-le : (keys : List (List ℕ)) (key : List ℕ) → place_among keys key ≤ length keys
place_among-le [] key = omega arith
place_among-le (first ∷ keys) key =
    ⊎_elim
    (λ (e : name_before key first ≡ true). omega (arith, count_by-yes (name_before key) first keys e, place_among-le keys key))
    (λ (e : name_before key first ≡ false). omega (arith, count_by-no (name_before key) first keys e, place_among-le keys key))
    (cases_Bool (name_before key first))

All-column : {X : Type 0} (P : X → Type 0) (xs : List X) (place : ℕ) (x : X) → P x → All P xs → All P (insert xs place x)
All-column P xs place x here all = All-append P (take place xs) (x ∷ drop place xs) (All-take P place xs all) (All-cons P x (drop place xs) here (All-drop P place xs all))

-- columns with one more
module _ (ids : List ℕ) (labels : List (List ℕ)) (flags : List (List Bool)) (keys : List (List ℕ)) (columns : List (List ℤ)) (types : List TypeColumns) (key : List ℕ) (column : Column) (are : AreColumns ids labels flags keys columns types) where
  pub shown-wider : parts_shown ids labels flags (insert keys (place_among keys key) key) (insert columns (place_among keys key) (map (value_for column) ids)) types ≡ parts_with_column (parts_shown ids labels flags keys columns types) key column
  shown-wider =
      let values : List ℤ = map (value_for column) ids in
      let names : names_of (zip keys columns) ≡ keys = firsts-zip keys columns are.columns_named in
      ap (λ (cs : List (List ℕ × List ℤ)). record { ids = ids; labels = zip labels flags; columns = cs; types = types })
      (zip-inserted keys columns (place_among keys key) key values are.columns_named (place_among-le keys key)
      ∙ ap (λ (ks : List (List ℕ)). insert (zip keys columns) (place_among ks key) (key, values)) (sym names))

  pub AreColumns-wider : is_among keys key ≡ false → AreColumns ids labels flags (insert keys (place_among keys key) key) (insert columns (place_among keys key) (map (value_for column) ids)) types
  AreColumns-wider none =
      let values : List ℤ = map (value_for column) ids in
      let place : ℕ = place_among keys key in
      let wide : length (insert columns place values) ≡ length (insert keys place key) = omega (arith, are.columns_named, place_among-le keys key, length-insert keys place key (place_among-le keys key), length-insert columns place values (omega (arith, are.columns_named, place_among-le keys key))) in
      let names : names_of (zip keys columns) ≡ keys = firsts-zip keys columns are.columns_named in
      let up : Pairwise IsBefore keys = subst (Pairwise IsBefore) names are.fit.keys_ascend in
      let long : All (IsLong (length ids)) columns = subst (All (IsLong (length ids))) (seconds-zip keys columns are.columns_named) are.fit.values in
      record {
        flags_named = are.flags_named;
        columns_named = wide;
        fit = record {
          ids_ascend = are.fit.ids_ascend;
          labels_ascend = are.fit.labels_ascend;
          keys_ascend = subst (Pairwise IsBefore) (sym (firsts-zip (insert keys place key) (insert columns place values) wide)) (Pairwise-inserted keys key up none);
          types_ascend = are.fit.types_ascend;
          flags = are.fit.flags;
          values = subst (All (IsLong (length ids))) (sym (seconds-zip (insert keys place key) (insert columns place values) wide)) (All-column (IsLong (length ids)) columns place values (length-map ids (value_for column)) long);
          rows = are.fit.rows;
          few_nodes = are.fit.few_nodes;
          few_arcs = are.fit.few_arcs;
        };
      }

-- one more column, as plain rows
pub plain-wider : (parts : Parts) (key : List ℕ) (column : Column) → plain (parts_with_column parts key column) ≡ with_column (plain parts) key column
plain-wider parts key column =
    let values : List ℤ = map (value_for column) parts.ids in
    let place : ℕ = place_among (names_of parts.columns) key in
    let wider : Parts = parts_with_column parts key column in
    let nodes : map (plain_node wider) (range_with_len 0 (length parts.ids)) ≡ map (node_with_column place column) (map (plain_node parts) (range_with_len 0 (length parts.ids))) =
    map-range_agree (plain_node wider) (λ v. node_with_column place column (plain_node parts v)) 0 (length parts.ids)
    (λ v low high.
    ap (λ (vs : List ℤ). record { id = get_or parts.ids v 0; labels = labels_at parts.labels v; values = vs })
    (map-inserted (value_of v) parts.columns place (key, values)
    ∙ ap (insert (values_at parts.columns v) place) (get_or-map (value_for column) parts.ids v 0 missing_value (omega arith))))
    ∙ sym (map-map (node_with_column place column) (plain_node parts) (range_with_len 0 (length parts.ids))) in
    let names : names_of (insert parts.columns place (key, values)) ≡ insert (names_of parts.columns) place key = map-inserted (λ (c : List ℕ × List ℤ). c.0) parts.columns place (key, values) in
    cc
