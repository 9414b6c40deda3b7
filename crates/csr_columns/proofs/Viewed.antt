-- The view that is made of kept nodes and of arcs that are taken over is the plain view.
use Rattle.std.proofs.Common.{◌≡◌, ℕ, ℤ, ◌+◌, ◌<◌, ◌≤◌, Bool, true, false, cond, List, [], ◌∷◌, ◌++◌, length, map, filter, get_or, Option, Some, None, refl, sym, ap, ◌∙◌, zero, suc, arith}
use Rattle.std.specs.Option.{is_some}
use Rattle.std.specs.Str.{bytes_eq}
use Rattle.std.specs.List.{All, filter_map, flat_map, range_with_len, enumerate_from, list_all, zip}
use Rattle.std.specs.List.Sorted.{IsStrictlyIncreasing}
use Rattle.std.proofs.lemmas.List.{map-append}
use Rattle.std.proofs.lemmas.Simd.{map-map}
use Rattle.std.proofs.lemmas.List.FromFn.{fill_by_all, length-map-range_with_len}
use Rattle.std.proofs.lemmas.List.Elements.{All-head, All-tail, All-nil, All-cons, All-append, All-map, All-filter, filter_map-append}
use Rattle.graph_model.specs.Projection.{missing_value, under}
use Rattle.graph_model.specs.declared.graph.Choice.{Choice}
use Rattle.graph_model.specs.declared.graph.Choice.TheVariants.{All as Each, Of}
use Rattle.graph_model.specs.View.{ViewArc, arcs_within, chooses_node, chosen_ids, chosen_types, first_directed, node_id, plain_view, weighed_arc, weighed_arcs}
use Rattle.csr_columns.specs.Rows.{ArcRows, HasTargetsBelow, IsBeside, LiesBelow, arc_from, arcs_at, arcs_of, column_at, listed, listed_column, names_of, row_at}
use Rattle.csr_columns.specs.Order.{ordered, itself, arc_beside}
use Rattle.csr_columns.specs.Parts.{HasNodes}
use Rattle.csr_columns.specs.Plain.{plain, plain_arc, plain_node, plain_type, values_at}
use Rattle.csr_columns.specs.Choosing.{chosen, chooses_kind, first_directed_kind, has_column, is_kept, kept_flags}
use Rattle.csr_columns.specs.Keeping.{HasArcsBelow, HasValuesBeside, arcs_beside, kept_of, moved, moved_with, new_place, renumbered, rows_under, taken_arcs, taken_of}
use Rattle.csr_columns.specs.ViewParts.{bare_arc, heavy_arc, plain_view_of, view_shown}
use Rattle.csr_columns.specs.declared.parts.Parts.{Parts}
use Rattle.csr_columns.specs.declared.parts.TypeColumns.{TypeColumns}
use Rattle.csr_columns.proofs.Grouping.{filter-map}
use Rattle.csr_columns.proofs.Increasing.{Ascends-from_increasing}
use Rattle.csr_columns.proofs.Refusing.{chosen_types-plain, first_directed-plain}
use Rattle.csr_columns.proofs.Renumbering.{HasPlace, HasPlace-kept, taken-bare, taken-heavy}
use Rattle.csr_columns.proofs.Taken.{beside-has, under-among, both-first, both-second, length-beside}
use Rattle.csr_columns.proofs.ViewArcs.{IsTaken, arcs_within-taken}

-- the kept ones of what a function makes of a range
kept_of-range : {X : Type 0} (keeps : ℕ → Bool) (f : ℕ → X) (a n : ℕ) → kept_of (map keeps (range_with_len a n)) (map f (range_with_len a n)) ≡ map f (filter keeps (range_with_len a n))
kept_of-range keeps f a zero = refl
kept_of-range {X} keeps f a (suc n) = one (keeps a) (kept_of-range keeps f (a + 1) n)
  where
    one : (b : Bool) → kept_of (map keeps (range_with_len (a + 1) n)) (map f (range_with_len (a + 1) n)) ≡ map f (filter keeps (range_with_len (a + 1) n)) → kept_of (b ∷ map keeps (range_with_len (a + 1) n)) (f a ∷ map f (range_with_len (a + 1) n)) ≡ map f (cond b (a ∷ filter keeps (range_with_len (a + 1) n)) (filter keeps (range_with_len (a + 1) n)))
    one true rest = ap (λ (xs : List X). f a ∷ xs) rest
    one false rest = rest

-- a plain node is chosen where its place is kept
chooses-node : (choice : Choice) (parts : Parts) (v : ℕ) → chooses_node choice (plain_node parts v) ≡ is_kept choice parts.labels v
chooses-node Each parts v = refl
chooses-node (Of names) parts v = refl

-- the chosen ids
pub chosen_ids-kept : (parts : Parts) (labels : Choice) → chosen_ids (plain parts) labels ≡ kept_of (kept_flags labels parts.labels (length parts.ids)) parts.ids
chosen_ids-kept parts labels =
    let places : List ℕ = range_with_len 0 (length parts.ids) in
    let id_at : ℕ → ℕ = λ v. get_or parts.ids v 0 in
    ap (map node_id) (filter-map (chooses_node labels) (is_kept labels parts.labels) (plain_node parts) places (chooses-node labels parts))
    ∙ map-map node_id (plain_node parts) (filter (is_kept labels parts.labels) places)
    ∙ sym (kept_of-range (is_kept labels parts.labels) id_at 0 (length parts.ids))
    ∙ ap (kept_of (kept_flags labels parts.labels (length parts.ids))) (sym (fill_by_all id_at parts.ids (length parts.ids) 0 refl (λ k h. refl)))

-- what all arcs of rows have
All-range : {X : Type 0} (P : X → Type 0) (f : ℕ → List X) (a n : ℕ) → ((v : ℕ) → a ≤ v → v < a + n → All P (f v)) → All P (flat_map f (range_with_len a n))
All-range P f a zero each = All-nil P
All-range P f a (suc n) each = All-append P (f a) (flat_map f (range_with_len (a + 1) n)) (each a (omega arith) (omega arith)) (All-range P f (a + 1) n (λ v low high. each v (omega arith) (omega arith)))

pub arcs-below : (nodes : ℕ) (rows : List (List ℕ)) → length rows ≡ nodes → HasTargetsBelow rows → All (LiesBelow nodes) (arcs_of rows)
arcs-below nodes rows long below =
    All-range (LiesBelow nodes) (arcs_at rows) 0 (length rows)
    (λ v low high. All-map (LiesBelow nodes) (arc_from v) (row_at rows v) (λ k d h. (omega arith, omega (arith, below.below v (omega arith) k d h))))

pub All-zip : {X Y : Type 0} (P : X → Type 0) (xs : List X) (ys : List Y) → All P xs → All (λ (e : X × Y). P e.0) (zip xs ys)
All-zip {X} {Y} P [] ys all = All-nil (λ (e : X × Y). P e.0)
All-zip {X} {Y} P (x ∷ xs) [] all = All-nil (λ (e : X × Y). P e.0)
All-zip {X} {Y} P (x ∷ xs) (y ∷ ys) all = All-cons (λ (e : X × Y). P e.0) (x, y) (zip xs ys) (All-head P x xs all) (All-zip P xs ys (All-tail P x xs all))

pub All-pieces : {X Y : Type 0} (P : Y → Type 0) (Q : X → Type 0) (f : X → List Y) (xs : List X) → ((x : X) → Q x → All P (f x)) → All Q xs → All P (flat_map f xs)
All-pieces P Q f [] each all = All-nil P
All-pieces P Q f (x ∷ xs) each all = All-append P (f x) (flat_map f xs) (each x (All-head Q x xs all)) (All-pieces P Q f xs each (All-tail Q x xs all))

pub All-agree : {X : Type 0} (P Q : X → Type 0) (xs : List X) → ((x : X) → P x → Q x) → All P xs → All Q xs
All-agree P Q [] f all = All-nil Q
All-agree P Q (x ∷ xs) f all = All-cons Q x xs (f x (All-head P x xs all)) (All-agree P Q xs f (All-tail P x xs all))

pub All-two : {X : Type 0} (P Q : X → Type 0) (xs : List X) → All P xs → All Q xs → All (λ x. P x × Q x) xs
All-two P Q [] p q = All-nil (λ x. P x × Q x)
All-two P Q (x ∷ xs) p q = All-cons (λ y. P y × Q y) x xs (All-head P x xs p, All-head Q x xs q) (All-two P Q xs (All-tail P x xs p) (All-tail Q x xs q))

pub filter_map-pieces : {X Y Z : Type 0} (g : Y → Option Z) (f : X → List Y) (xs : List X) → flat_map (λ x. filter_map g (f x)) xs ≡ filter_map g (flat_map f xs)
filter_map-pieces g f [] = refl
filter_map-pieces {X} {Y} {Z} g f (x ∷ xs) =
    ap (λ (zs : List Z). filter_map g (f x) ++ zs) (filter_map-pieces g f xs) ∙ sym (filter_map-append g (f x) (flat_map f xs))

-- items beside their places
map-enumerated : {X Y : Type 0} (f : X → Y) (n : ℕ) (xs : List X) → map (λ (e : ℕ × X). f e.1) (enumerate_from n xs) ≡ map f xs
map-enumerated f n [] = refl
map-enumerated {X} {Y} f n (x ∷ xs) = ap (λ (ys : List Y). f x ∷ ys) (map-enumerated f (n + 1) xs)

map-beside : {X Y Z : Type 0} (f : ℕ → X → Z) (g : X → Y → Z) (d : Y) (n : ℕ) (xs : List X) (ys : List Y) → length ys ≡ length xs → ((k : ℕ) (x : X) → k < length xs → f (n + k) x ≡ g x (get_or ys k d)) → map (λ (e : ℕ × X). f e.0 e.1) (enumerate_from n xs) ≡ map (λ (e : X × Y). g e.0 e.1) (zip xs ys)
map-beside f g d n [] ys long agree = refl
map-beside f g d n (x ∷ xs) [] long agree = absurd (omega arith)
map-beside {X} {Y} {Z} f g d n (x ∷ xs) (y ∷ ys) long agree =
    ap (λ (z : Z). z ∷ map (λ (e : ℕ × X). f e.0 e.1) (enumerate_from (n + 1) xs)) (ap (λ (m : ℕ). f m x) (omega arith) ∙ agree 0 x (omega arith))
    ∙ ap (λ (zs : List Z). g x y ∷ zs) (map-beside f g d (n + 1) xs ys (omega arith) (λ k z h. ap (λ (m : ℕ). f m z) (omega arith) ∙ agree (suc k) z (omega arith)))

-- the weight of an arc at a place
weight-at : (key : List ℕ) (place : ℕ) (columns : List (List ℕ × List (List ℤ))) (column : List (List ℤ)) → under key columns ≡ Some column → under key (zip (names_of columns) (values_at (map listed_column columns) place)) ≡ Some (get_or (listed column) place missing_value)
weight-at key place [] column is = absurd cc
weight-at key place (entry ∷ columns) column is = one (bytes_eq entry.0 key) is (weight-at key place columns column)
  where
    one : (b : Bool) → cond b (Some entry.1) (under key columns) ≡ Some column → (under key columns ≡ Some column → under key (zip (names_of columns) (values_at (map listed_column columns) place)) ≡ Some (get_or (listed column) place missing_value)) → cond b (Some (get_or (listed entry.1) place missing_value)) (under key (zip (names_of columns) (values_at (map listed_column columns) place))) ≡ Some (get_or (listed column) place missing_value)
    one true is later = let same : entry.1 ≡ column = cc in ap (λ (c : List (List ℤ)). Some (get_or (listed c) place missing_value)) same
    one false is later = later is

-- the arcs of a type, without weights and with them
bare-type : (ids : List ℕ) (type : TypeColumns) → weighed_arcs None (plain_type ids type) ≡ map (bare_arc ids) (arcs_of type.arcs.rows)
bare-type ids type =
    map-map (weighed_arc None (names_of type.arcs.columns)) (plain_arc ids (map listed_column type.arcs.columns)) (enumerate_from 0 (arcs_of type.arcs.rows))
    ∙ map-enumerated (bare_arc ids) 0 (arcs_of type.arcs.rows)

heavy-type : (ids : List ℕ) (key : List ℕ) (type : TypeColumns) (column : List (List ℤ)) → under key type.arcs.columns ≡ Some column → IsBeside type.arcs.rows column → weighed_arcs (Some key) (plain_type ids type) ≡ map (heavy_arc ids) (arcs_beside type.arcs.rows column)
heavy-type ids key type column is beside =
    let arcs : List (ℕ × ℕ) = arcs_of type.arcs.rows in
    let columns = type.arcs.columns in
    map-map (weighed_arc (Some key) (names_of columns)) (plain_arc ids (map listed_column columns)) (enumerate_from 0 arcs)
    ∙ map-beside (λ (k : ℕ) (arc : ℕ × ℕ). weighed_arc (Some key) (names_of columns) (plain_arc ids (map listed_column columns) (k, arc))) (λ (arc : ℕ × ℕ) (value : ℤ). heavy_arc ids (arc, value)) missing_value 0 arcs (listed column) (length-beside type.arcs.rows column beside)
    (λ k arc h.
    ap (λ (o : Option ℤ). record { source = get_or ids arc.0 0; target = get_or ids arc.1 0; weight = o })
    (ap (λ (m : ℕ). under key (zip (names_of columns) (values_at (map listed_column columns) m))) (omega arith) ∙ weight-at key k columns column is))

-- the types without weights, all of them
bare-types : (ids : List ℕ) (types : List TypeColumns) → flat_map (weighed_arcs None) (map (plain_type ids) types) ≡ map (bare_arc ids) (flat_map (λ type. arcs_of type.arcs.rows) types)
bare-types ids [] = refl
bare-types ids (type ∷ types) =
    let rest : List (ℕ × ℕ) = flat_map (λ t. arcs_of t.arcs.rows) types in
    ap (λ (xs : List ViewArc). xs ++ flat_map (weighed_arcs None) (map (plain_type ids) types)) (bare-type ids type)
    ∙ ap (λ (xs : List ViewArc). map (bare_arc ids) (arcs_of type.arcs.rows) ++ xs) (bare-types ids types)
    ∙ sym (map-append (bare_arc ids) (arcs_of type.arcs.rows) rest)

-- the arcs of a type beside their values under a key
abbrev entries_of_type : List ℕ → TypeColumns → List ((ℕ × ℕ) × ℤ)
entries_of_type key type = arcs_beside type.arcs.rows (rows_under (under key type.arcs.columns))

-- the column under a key that a type has
pub under-has : (key : List ℕ) (type : TypeColumns) → has_column key type ≡ true → under key type.arcs.columns ≡ Some (rows_under (under key type.arcs.columns))
under-has key type has = go (under key type.arcs.columns) (under-among key type.arcs.columns has)
  where
    go : (o : Option (List (List ℤ))) → is_some o ≡ true → o ≡ Some (rows_under o)
    go None h = absurd cc
    go (Some column) h = refl

-- the types with weights, all of them
heavy-types : (ids : List ℕ) (key : List ℕ) (types : List TypeColumns) → list_all (has_column key) types ≡ true → All (HasValuesBeside key) types → flat_map (weighed_arcs (Some key)) (map (plain_type ids) types) ≡ map (heavy_arc ids) (flat_map (entries_of_type key) types)
heavy-types ids key [] has beside = refl
heavy-types ids key (type ∷ types) has beside =
    let rest : List ((ℕ × ℕ) × ℤ) = flat_map (entries_of_type key) types in
    let here = both-first (has_column key type) (list_all (has_column key) types) has in
    let stands = beside-has key type here (All-head (HasValuesBeside key) type types beside) in
    ap (λ (xs : List ViewArc). xs ++ flat_map (weighed_arcs (Some key)) (map (plain_type ids) types)) (heavy-type ids key type (rows_under (under key type.arcs.columns)) (under-has key type here) stands)
    ∙ ap (λ (xs : List ViewArc). map (heavy_arc ids) (entries_of_type key type) ++ xs) (heavy-types ids key types (both-second (has_column key type) (list_all (has_column key) types) has) (All-tail (HasValuesBeside key) type types beside))
    ∙ sym (map-append (heavy_arc ids) (entries_of_type key type) rest)

module _ (parts : Parts) (labels types : Choice) (up : IsStrictlyIncreasing parts.ids) (rows : All (HasNodes (length parts.ids)) parts.types) (below : All HasArcsBelow (chosen types parts.types)) where
  abbrev flags_of : List Bool
  flags_of = kept_flags labels parts.labels (length parts.ids)

  abbrev new_ids : List ℕ
  new_ids = kept_of flags_of parts.ids

  abbrev places_of : List (Option ℕ)
  places_of = renumbered 0 flags_of

  -- a type's arcs lie between its nodes
  type-below : (type : TypeColumns) → HasNodes (length parts.ids) type × HasArcsBelow type → All (LiesBelow (length parts.ids)) (arcs_of type.arcs.rows)
  type-below type has = arcs-below (length parts.ids) type.arcs.rows has.0 has.1

  chosen-has : All (λ type. HasNodes (length parts.ids) type × HasArcsBelow type) (chosen types parts.types)
  chosen-has =
      All-two (HasNodes (length parts.ids)) HasArcsBelow (chosen types parts.types)
      (All-filter (chooses_kind types) (HasNodes (length parts.ids)) parts.types rows) below

  has-place : (v : ℕ) → v < length parts.ids → HasPlace 0 new_ids (new_place places_of v) (get_or parts.ids v 0)
  has-place v h =
      HasPlace-kept 0 flags_of parts.ids v (length-map-range_with_len (is_kept labels parts.labels) 0 (length parts.ids)) h (Ascends-from_increasing parts.ids up)

  bare-arcs : map (bare_arc new_ids) (ordered itself (length new_ids) (flat_map (taken_arcs places_of) (chosen types parts.types))) ≡ arcs_within (flat_map (weighed_arcs None) (chosen_types (plain parts) types)) (chosen_ids (plain parts) labels)
  bare-arcs =
      let all : List (ℕ × ℕ) = flat_map (λ type. arcs_of type.arcs.rows) (chosen types parts.types) in
      let inside = All-pieces (LiesBelow (length parts.ids)) (λ type. HasNodes (length parts.ids) type × HasArcsBelow type) (λ type. arcs_of type.arcs.rows) (chosen types parts.types) type-below chosen-has in
      let taken = All-agree (LiesBelow (length parts.ids)) (λ arc. IsTaken (bare_arc new_ids) itself new_ids (moved places_of arc) (bare_arc parts.ids arc)) all
      (λ arc ends. taken-bare parts.ids new_ids arc (new_place places_of arc.0) (new_place places_of arc.1) (has-place arc.0 ends.0) (has-place arc.1 ends.1)) inside in
      ap (λ (arcs : List (ℕ × ℕ)). map (bare_arc new_ids) (ordered itself (length new_ids) arcs)) (filter_map-pieces (moved places_of) (λ type. arcs_of type.arcs.rows) (chosen types parts.types))
      ∙ arcs_within-taken (moved places_of) (bare_arc parts.ids) (bare_arc new_ids) itself new_ids all taken
      ∙ ap (λ (arcs : List ViewArc). arcs_within arcs new_ids) (sym (ap (flat_map (weighed_arcs None)) (chosen_types-plain parts types) ∙ bare-types parts.ids (chosen types parts.types)))
      ∙ ap (λ (ids : List ℕ). arcs_within (flat_map (weighed_arcs None) (chosen_types (plain parts) types)) ids) (sym (chosen_ids-kept parts labels))

  -- the first chosen type that isn't undirected
  directed-plain : first_directed_kind (chosen types parts.types) ≡ first_directed (chosen_types (plain parts) types)
  directed-plain = sym (ap first_directed (chosen_types-plain parts types) ∙ first_directed-plain parts.ids (chosen types parts.types))

  -- the view without weights
  pub viewed-bare : (arcs : ArcRows) → arcs_of arcs.rows ≡ ordered itself (length new_ids) (flat_map (taken_arcs places_of) (chosen types parts.types)) → plain_view_of (view_shown new_ids arcs None (first_directed_kind (chosen types parts.types))) ≡ plain_view (plain parts) labels types None
  viewed-bare arcs are =
      let ids : new_ids ≡ chosen_ids (plain parts) labels = sym (chosen_ids-kept parts labels) in
      let shown : map (bare_arc new_ids) (arcs_of arcs.rows) ≡ arcs_within (flat_map (weighed_arcs None) (chosen_types (plain parts) types)) (chosen_ids (plain parts) labels) = ap (map (bare_arc new_ids)) are ∙ bare-arcs in
      let first = directed-plain in
      cc

  module _ (key : List ℕ) (has : list_all (has_column key) (chosen types parts.types) ≡ true) (beside : All (HasValuesBeside key) (chosen types parts.types)) where
    heavy-arcs : map (heavy_arc new_ids) (ordered arc_beside (length new_ids) (flat_map (taken_of places_of key) (chosen types parts.types))) ≡ arcs_within (flat_map (weighed_arcs (Some key)) (chosen_types (plain parts) types)) (chosen_ids (plain parts) labels)
    heavy-arcs =
        let all : List ((ℕ × ℕ) × ℤ) = flat_map (entries_of_type key) (chosen types parts.types) in
        let ends : (ℕ × ℕ) × ℤ → Type 0 = λ entry. LiesBelow (length parts.ids) entry.0 in
        let inside = All-pieces ends (λ type. HasNodes (length parts.ids) type × HasArcsBelow type) (entries_of_type key) (chosen types parts.types)
        (λ type h. All-zip (LiesBelow (length parts.ids)) (arcs_of type.arcs.rows) (listed (rows_under (under key type.arcs.columns))) (type-below type h)) chosen-has in
        let taken = All-agree ends (λ entry. IsTaken (heavy_arc new_ids) arc_beside new_ids (moved_with places_of entry) (heavy_arc parts.ids entry)) all
        (λ entry h. taken-heavy parts.ids new_ids entry.0 entry.1 (new_place places_of entry.0.0) (new_place places_of entry.0.1) (has-place entry.0.0 h.0) (has-place entry.0.1 h.1)) inside in
        ap (λ (entries : List ((ℕ × ℕ) × ℤ)). map (heavy_arc new_ids) (ordered arc_beside (length new_ids) entries)) (filter_map-pieces (moved_with places_of) (entries_of_type key) (chosen types parts.types))
        ∙ arcs_within-taken (moved_with places_of) (heavy_arc parts.ids) (heavy_arc new_ids) arc_beside new_ids all taken
        ∙ ap (λ (arcs : List ViewArc). arcs_within arcs new_ids) (sym (ap (flat_map (weighed_arcs (Some key))) (chosen_types-plain parts types) ∙ heavy-types parts.ids key (chosen types parts.types) has beside))
        ∙ ap (λ (ids : List ℕ). arcs_within (flat_map (weighed_arcs (Some key)) (chosen_types (plain parts) types)) ids) (sym (chosen_ids-kept parts labels))

    -- the view with weights
    pub viewed-heavy : (place : ℕ) (arcs : ArcRows) → arcs_beside arcs.rows (column_at arcs.columns place) ≡ ordered arc_beside (length new_ids) (flat_map (taken_of places_of key) (chosen types parts.types)) → plain_view_of (view_shown new_ids arcs (Some place) (first_directed_kind (chosen types parts.types))) ≡ plain_view (plain parts) labels types (Some key)
    viewed-heavy place arcs are =
        let ids : new_ids ≡ chosen_ids (plain parts) labels = sym (chosen_ids-kept parts labels) in
        let shown : map (heavy_arc new_ids) (arcs_beside arcs.rows (column_at arcs.columns place)) ≡ arcs_within (flat_map (weighed_arcs (Some key)) (chosen_types (plain parts) types)) (chosen_ids (plain parts) labels) = ap (map (heavy_arc new_ids)) are ∙ heavy-arcs in
        let first = directed-plain in
        cc
