-- Arcs that are taken over: how many they are, where their ends lie, and the values beside them.
use Rattle.std.proofs.Common.{◌≡◌, ⊎_elim, ℕ, ℤ, ◌+◌, ◌<◌, ◌≤◌, Bool, true, false, ◌&&◌, ◌||◌, List, [], ◌∷◌, ◌++◌, length, map, Option, Some, None, IfSome, refl, sym, ap, ◌∙◌, zero, suc, arith}
use Rattle.std.specs.Option.{is_some}
use Rattle.std.specs.List.{All, filter_map, cons_option, flat_map, range_with_len, sum_by, list_all, zip}
use Rattle.std.specs.Str.{bytes_eq}
use Rattle.std.specs.Cmp.Lexicographic.{bytes_decides}
use Rattle.std.proofs.lemmas.Bool.{cases_Bool, cond-true, cond-false, false_from_ne_true, true≢false}
use Rattle.std.proofs.lemmas.List.{length-append, length-map, map-append}
use Rattle.std.proofs.lemmas.List.Concat.{length-flat_map}
use Rattle.std.proofs.lemmas.List.Sums.{sum_by-cons}
use Rattle.std.proofs.lemmas.List.Elements.{All-head, All-tail, All-nil, All-cons, All-append}
use Rattle.std.proofs.lemmas.List.FromFn.{fill_by_all}
use Rattle.graph_model.specs.Projection.{is_among, under}
use Rattle.graph_model.specs.declared.graph.Choice.{Choice}
use Rattle.csr_columns.specs.Rows.{IsBeside, LiesBelow, arc_from, arcs_at, arcs_of, listed, names_of, row_at}
use Rattle.csr_columns.specs.Order.{grouped, source_by, target_by, ordered, itself, arc_beside}
use Rattle.csr_columns.specs.Parts.{arcs_in, arcs_in_type}
use Rattle.csr_columns.specs.Choosing.{chosen, chooses_kind, has_column}
use Rattle.csr_columns.specs.Keeping.{HasPlacesBelow, HasValuesBeside, new_place, both_ends, moved, moved_with, beside_arc, rows_under, taken_arcs, taken_of}
use Rattle.csr_columns.specs.declared.parts.TypeColumns.{TypeColumns}
use Rattle.csr_columns.proofs.Grouping.{grouped-map}
use Rattle.csr_columns.proofs.ViewArcs.{flat_map-map}

-- no more than there are
length-filter_map : {X Y : Type 0} (f : X → Option Y) (xs : List X) → length (filter_map f xs) ≤ length xs
length-filter_map f [] = omega arith
length-filter_map {X} {Y} f (x ∷ xs) = one (f x) (filter_map f xs) (length-filter_map f xs)
  where
    one : (o : Option Y) (ys : List Y) → length ys ≤ length xs → length (cons_option o ys) ≤ length (x ∷ xs)
    one None ys h = omega arith
    one (Some y) ys h = omega arith

-- pieces of the same lengths
pub length-flat_maps : {X Y : Type 0} (f : ℕ → List X) (g : ℕ → List Y) (a n : ℕ) → ((v : ℕ) → a ≤ v → v < a + n → length (g v) ≡ length (f v)) → length (flat_map g (range_with_len a n)) ≡ length (flat_map f (range_with_len a n))
length-flat_maps f g a zero long = refl
length-flat_maps f g a (suc n) long =
    let here = long a (omega arith) (omega arith) in
    let later = length-flat_maps f g (a + 1) n (λ v low high. long v (omega arith) (omega arith)) in
    omega (arith, here, later, length-append (f a) (flat_map f (range_with_len (a + 1) n)), length-append (g a) (flat_map g (range_with_len (a + 1) n)))

-- rows, by their places
pub listed-rows : {X : Type 0} (rows : List (List X)) → listed rows ≡ flat_map (row_at rows) (range_with_len 0 (length rows))
listed-rows {X} rows =
    ap listed (fill_by_all (row_at rows) rows (length rows) [] refl (λ k h. refl))
    ∙ flat_map-map (λ (row : List X). row) (row_at rows) (range_with_len 0 (length rows))

-- the number of the arcs of rows
pub length-arcs_of : (rows : List (List ℕ)) → length (arcs_of rows) ≡ sum_by length rows
length-arcs_of rows =
    sym (length-flat_maps (arcs_at rows) (row_at rows) 0 (length rows) (λ v low high. sym (length-map (row_at rows v) (arc_from v))))
    ∙ ap (λ (xs : List ℕ). length xs) (sym (listed-rows rows))
    ∙ length-flat_map (λ (row : List ℕ). row) rows

-- a column has as many values as there are arcs
pub length-beside : (rows : List (List ℕ)) (column : List (List ℤ)) → IsBeside rows column → length (listed column) ≡ length (arcs_of rows)
length-beside rows column beside =
    ap (λ (xs : List ℤ). length xs) (listed-rows column ∙ ap (λ (n : ℕ). flat_map (row_at column) (range_with_len 0 n)) beside.many)
    ∙ length-flat_maps (arcs_at rows) (row_at column) 0 (length rows) (λ v low high. beside.long v (omega arith) ∙ sym (length-map (row_at rows v) (arc_from v)))

-- the arcs that are taken over are no more than all arcs
pub length-taken : (places : List (Option ℕ)) (choice : Choice) (types : List TypeColumns) → length (flat_map (taken_arcs places) (chosen choice types)) ≤ arcs_in types
length-taken places choice [] = omega arith
length-taken places choice (type ∷ types) =
    let rest = length-taken places choice types in
    let all = sum_by-cons arcs_in_type type types in
    ⊎_elim
    (λ (e : chooses_kind choice type ≡ true).
    let one : chosen choice (type ∷ types) ≡ type ∷ chosen choice types = cond-true (chooses_kind choice type) (type ∷ chosen choice types) (chosen choice types) e in
    rw one (omega (arith, rest, all, length-append (taken_arcs places type) (flat_map (taken_arcs places) (chosen choice types)), length-filter_map (moved places) (arcs_of type.arcs.rows), length-arcs_of type.arcs.rows)))
    (λ (e : chooses_kind choice type ≡ false).
    let none : chosen choice (type ∷ types) ≡ chosen choice types = cond-false (chooses_kind choice type) (type ∷ chosen choice types) (chosen choice types) e in
    rw none (omega (arith, rest, all)))
    (cases_Bool (chooses_kind choice type))

-- ends that get places lie below the number of places
module _ (nodes : ℕ) (places : List (Option ℕ)) (has : HasPlacesBelow nodes places) where
  ends-below : (source target : ℕ) (s t : Option ℕ) (arcs : List (ℕ × ℕ)) → new_place places source ≡ s → new_place places target ≡ t → All (LiesBelow nodes) arcs → All (LiesBelow nodes) (cons_option (both_ends s t) arcs)
  ends-below source target None t arcs is is' below = below
  ends-below source target (Some a) None arcs is is' below = below
  ends-below source target (Some a) (Some b) arcs is is' below = All-cons (LiesBelow nodes) (a, b) arcs (has.below source a is, has.below target b is') below

  moved-below : (arcs : List (ℕ × ℕ)) → All (LiesBelow nodes) (filter_map (moved places) arcs)
  moved-below [] = All-nil (LiesBelow nodes)
  moved-below (arc ∷ arcs) = ends-below arc.0 arc.1 (new_place places arc.0) (new_place places arc.1) (filter_map (moved places) arcs) refl refl (moved-below arcs)

  pub taken-below : (types : List TypeColumns) → All (LiesBelow nodes) (flat_map (taken_arcs places) types)
  taken-below [] = All-nil (LiesBelow nodes)
  taken-below (type ∷ types) = All-append (LiesBelow nodes) (taken_arcs places type) (flat_map (taken_arcs places) types) (moved-below (arcs_of type.arcs.rows)) (taken-below types)

-- the arcs alone, of arcs beside values
module _ (places : List (Option ℕ)) where
  first-moved : (value : ℤ) (o : Option (ℕ × ℕ)) (entries : List ((ℕ × ℕ) × ℤ)) → map arc_beside (cons_option (beside_arc value o) entries) ≡ cons_option o (map arc_beside entries)
  first-moved value None entries = refl
  first-moved value (Some arc) entries = refl

  pub arcs-moved : (arcs : List (ℕ × ℕ)) (values : List ℤ) → length values ≡ length arcs → map arc_beside (filter_map (moved_with places) (zip arcs values)) ≡ filter_map (moved places) arcs
  arcs-moved [] values long = refl
  arcs-moved (arc ∷ arcs) [] long = absurd (omega arith)
  arcs-moved (arc ∷ arcs) (value ∷ values) long =
      first-moved value (moved places arc) (filter_map (moved_with places) (zip arcs values))
      ∙ ap (λ (rest : List (ℕ × ℕ)). cons_option (moved places arc) rest) (arcs-moved arcs values (omega arith))

  -- the column under a key that a type has stands beside its arcs
  pub beside-key : (key : List ℕ) (rows : List (List ℕ)) (columns : List (List ℕ × List (List ℤ))) → is_some (under key columns) ≡ true → IfSome (under key columns) (IsBeside rows) → IsBeside rows (rows_under (under key columns))
  beside-key key rows columns has beside = go (under key columns) has beside
    where
      go : (o : Option (List (List ℤ))) → is_some o ≡ true → IfSome o (IsBeside rows) → IsBeside rows (rows_under o)
      go None has beside = absurd cc
      go (Some column) has beside = beside

-- both of two tests
pub both-first : (a b : Bool) → (a && b) ≡ true → a ≡ true
both-first true b h = refl
both-first false b h = absurd cc

pub both-second : (a b : Bool) → (a && b) ≡ true → b ≡ true
both-second true b h = h
both-second false b h = absurd cc

-- something stands under a name that is among the names
pub under-among : {A : Type 0} (key : List ℕ) (columns : List (List ℕ × A)) → is_among (names_of columns) key ≡ true → is_some (under key columns) ≡ true
under-among key [] among = absurd cc
under-among {A} key (entry ∷ columns) among =
    ⊎_elim
    (λ (e : bytes_eq entry.0 key ≡ true). ap (λ (o : Option A). is_some o) (cond-true (bytes_eq entry.0 key) (Some entry.1) (under key columns) e))
    (λ (e : bytes_eq entry.0 key ≡ false).
    let other : bytes_eq key entry.0 ≡ false = false_from_ne_true (bytes_eq key entry.0) (λ same.
    let here : bytes_eq entry.0 key ≡ true = (bytes_decides entry.0 key).1 (sym ((bytes_decides key entry.0).0 same)) in
    true≢false (sym here ∙ e)) in
    ap (λ (o : Option A). is_some o) (cond-false (bytes_eq entry.0 key) (Some entry.1) (under key columns) e)
    ∙ under-among key columns (ap (λ (b : Bool). b || is_among (names_of columns) key) (sym other) ∙ among))
    (cases_Bool (bytes_eq entry.0 key))

-- the values under a key that a type has stand beside its arcs
pub beside-has : (key : List ℕ) (type : TypeColumns) → has_column key type ≡ true → HasValuesBeside key type → IsBeside type.arcs.rows (rows_under (under key type.arcs.columns))
beside-has key type has beside = beside-key [] key type.arcs.rows type.arcs.columns (under-among key type.arcs.columns has) beside

-- the arcs alone, of all types
pub arcs-taken : (places : List (Option ℕ)) (key : List ℕ) (types : List TypeColumns) → list_all (has_column key) types ≡ true → All (HasValuesBeside key) types → map arc_beside (flat_map (taken_of places key) types) ≡ flat_map (taken_arcs places) types
arcs-taken places key [] has beside = refl
arcs-taken places key (type ∷ types) has beside =
    let column : List (List ℤ) = rows_under (under key type.arcs.columns) in
    let stands = beside-has key type (both-first (has_column key type) (list_all (has_column key) types) has) (All-head (HasValuesBeside key) type types beside) in
    let rest : List ((ℕ × ℕ) × ℤ) = flat_map (taken_of places key) types in
    map-append arc_beside (taken_of places key type) rest
    ∙ ap (λ (xs : List (ℕ × ℕ)). xs ++ map arc_beside rest) (arcs-moved places (arcs_of type.arcs.rows) (listed column) (length-beside type.arcs.rows column stands))
    ∙ ap (λ (xs : List (ℕ × ℕ)). taken_arcs places type ++ xs) (arcs-taken places key types (both-second (has_column key type) (list_all (has_column key) types) has) (All-tail (HasValuesBeside key) type types beside))

-- pairs, taken apart and put side by side
pub zip-pairs : {X Y : Type 0} (entries : List (X × Y)) → zip (map (λ (e : X × Y). e.0) entries) (map (λ (e : X × Y). e.1) entries) ≡ entries
zip-pairs [] = refl
zip-pairs {X} {Y} (entry ∷ entries) = ap (λ (es : List (X × Y)). entry ∷ es) (zip-pairs entries)

-- the arcs of ordered entries are the ordered arcs
pub ordered-arcs : (nodes : ℕ) (entries : List ((ℕ × ℕ) × ℤ)) → ordered itself nodes (map arc_beside entries) ≡ map arc_beside (ordered arc_beside nodes entries)
ordered-arcs nodes entries =
    ap (grouped (source_by itself) nodes) (grouped-map (target_by itself) (target_by arc_beside) arc_beside nodes entries (λ x. refl))
    ∙ grouped-map (source_by itself) (source_by arc_beside) arc_beside nodes (grouped (target_by arc_beside) nodes entries) (λ x. refl)
