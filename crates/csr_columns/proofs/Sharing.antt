-- A view that shares the ids of a projection and the rows of its one chosen type is the plain view.
use Rattle.std.proofs.Common.{◌≡◌, ℕ, ℤ, ◌+◌, ◌<◌, ◌≤◌, Bool, true, false, cond, List, [], ◌∷◌, length, map, Option, Some, None, IfSome, Result, Ok, Err, IfOk, OnOk, MatchOption, refl, sym, ap, ap₂, ◌∙◌, subst, zero, suc, arith}
use Rattle.std.specs.List.{All, AllByRecursion, cons_option, filter_map, flat_map, list_all, range_with_len}
use Rattle.std.proofs.lemmas.List.{append-nil}
use Rattle.std.proofs.lemmas.List.Sums.{sum_by-cons}
use Rattle.std.proofs.lemmas.List.FromFn.{length-map-range_with_len}
use Rattle.std.proofs.lemmas.List.Elements.{All-head, All-tail, All-nil, All-cons, All-filter}
use Rattle.graph_model.specs.Projection.{most_arcs, under}
use Rattle.graph_model.specs.declared.graph.Choice.{Choice}
use Rattle.graph_model.specs.declared.graph.Choice.TheVariants.{All as Each}
use Rattle.graph_model.specs.View.{plain_view}
use Rattle.csr_columns.specs.Rows.{IsBeside, LiesBelow, arcs_of, column_at, listed}
use Rattle.csr_columns.specs.Order.{ordered, itself, arc_beside}
use Rattle.csr_columns.specs.Parts.{FitTogether, HasNodes, arcs_in, arcs_in_type}
use Rattle.csr_columns.specs.Plain.{plain}
use Rattle.csr_columns.specs.Choosing.{IsWhole, chosen, chooses_kind, first_directed_kind, has_column, is_kept, kept_flags}
use Rattle.csr_columns.specs.Keeping.{HasArcsBelow, HasValuesBeside, arcs_beside, beside_arc, both_ends, kept_of, moved, moved_with, new_place, renumbered, rows_under, taken_arcs, taken_of}
use Rattle.csr_columns.specs.ViewParts.{IsView, StandsAmong, ViewColumns, plain_view_of, view_shown}
use Rattle.csr_columns.specs.declared.parts.Parts.{Parts}
use Rattle.csr_columns.specs.declared.parts.TypeColumns.{TypeColumns}
use Rattle.csr_columns.proofs.Taken.{both-first}
use Rattle.csr_columns.proofs.Unmoved.{EndsBelow, arcs-ordered, values-ordered}
use Rattle.csr_columns.proofs.Viewed.{All-agree, All-zip, arcs-below, under-has, viewed-bare, viewed-heavy}

-- what a view has that was made
pub made : {E : Type 0} (r : Result ViewColumns E) (P Q : ViewColumns → Type 0) (F : Type 0) → IfOk r P → OnOk r F → (F → (view : ViewColumns) → P view → Q view) → IfOk r Q
made (Ok view) P Q F p fit f = f fit view p
made (Err e) P Q F p fit f = tt

-- a choice of all keeps each node
pub kept-each : (labels : List (List ℕ × List Bool)) (a n : ℕ) → All (λ kept. kept ≡ true) (map (is_kept Each labels) (range_with_len a n))
kept-each labels a zero = All-nil (λ (kept : Bool). kept ≡ true)
kept-each labels a (suc n) = All-cons (λ (kept : Bool). kept ≡ true) true (map (is_kept Each labels) (range_with_len (a + 1) n)) refl (kept-each labels (a + 1) n)

-- the arcs of what is chosen
arcs-chosen : (choice : Choice) (types : List TypeColumns) → arcs_in (chosen choice types) ≤ arcs_in types
arcs-chosen choice [] = omega arith
arcs-chosen choice (type ∷ types) = one (chooses_kind choice type) (arcs-chosen choice types)
  where
    one : (b : Bool) → arcs_in (chosen choice types) ≤ arcs_in types → arcs_in (cond b (type ∷ chosen choice types) (chosen choice types)) ≤ arcs_in (type ∷ types)
    one true rest = omega (arith, rest, sum_by-cons arcs_in_type type (chosen choice types), sum_by-cons arcs_in_type type types)
    one false rest = omega (arith, rest, sum_by-cons arcs_in_type type types)

-- the rows of the one chosen type are those of a view
pub IsView-shared : (parts : Parts) (choice : Choice) (type : TypeColumns) (weight : Option ℕ) → FitTogether parts → chosen choice parts.types ≡ type ∷ [] → StandsAmong weight (length type.arcs.columns) → IsView parts.ids type.arcs weight
IsView-shared parts choice type weight fit only weighted =
    let P : List TypeColumns → Type 0 = λ ts. All (HasNodes (length parts.ids)) ts in
    let has = subst P only (All-filter (chooses_kind choice) (HasNodes (length parts.ids)) parts.types fit.rows) in
    let Q : List TypeColumns → Type 0 = λ ts. arcs_in ts ≤ most_arcs in
    let few : arcs_in (chosen choice parts.types) ≤ most_arcs = omega (arith, arcs-chosen choice parts.types, fit.few_arcs) in
    let one : arcs_in (type ∷ []) ≤ most_arcs = subst Q only few in
    record {
      ids_ascend = fit.ids_ascend;
      rows = All-head (HasNodes (length parts.ids)) type [] has;
      weighted = weighted;
      few_nodes = fit.few_nodes;
      few_arcs = omega (arith, one, sum_by-cons arcs_in_type type []);
    }

-- where all are kept, the ids stay, and each node gets its own place
kept-all : (flags : List Bool) (xs : List ℕ) → length flags ≡ length xs → All (λ flag. flag ≡ true) flags → kept_of flags xs ≡ xs
kept-all [] [] long all = refl
kept-all [] (x ∷ xs) long all = absurd (omega arith)
kept-all (flag ∷ flags) [] long all = absurd (omega arith)
kept-all (true ∷ flags) (x ∷ xs) long all = ap (λ (ys : List ℕ). x ∷ ys) (kept-all flags xs (omega arith) (All-tail (λ flag. flag ≡ true) true flags all))
kept-all (false ∷ flags) (x ∷ xs) long all = let wrong : false ≡ true = All-head (λ flag. flag ≡ true) false flags all in cc

place-all : (n : ℕ) (flags : List Bool) (v : ℕ) → v < length flags → All (λ flag. flag ≡ true) flags → new_place (renumbered n flags) v ≡ Some (n + v)
place-all n [] v h all = absurd (omega arith)
place-all n (true ∷ flags) zero h all = ap (λ (m : ℕ). Some m) (omega arith)
place-all n (true ∷ flags) (suc v) h all = place-all (n + 1) flags v (omega arith) (All-tail (λ flag. flag ≡ true) true flags all) ∙ ap (λ (m : ℕ). Some m) (omega arith)
place-all n (false ∷ flags) v h all = let wrong : false ≡ true = All-head (λ flag. flag ≡ true) false flags all in cc

-- items that stay as they are
filter_map-same : {X : Type 0} (f : X → Option X) (xs : List X) → All (λ x. f x ≡ Some x) xs → filter_map f xs ≡ xs
filter_map-same f [] all = refl
filter_map-same {X} f (x ∷ xs) all =
    ap (λ (o : Option X). cons_option o (filter_map f xs)) (All-head (λ y. f y ≡ Some y) x xs all)
    ∙ ap (λ (ys : List X). x ∷ ys) (filter_map-same f xs (All-tail (λ y. f y ≡ Some y) x xs all))

moved-same : (places : List (Option ℕ)) (nodes : ℕ) → ((v : ℕ) → v < nodes → new_place places v ≡ Some v) → (arc : ℕ × ℕ) → LiesBelow nodes arc → moved places arc ≡ Some arc
moved-same places nodes at arc below = ap₂ both_ends (at arc.0 below.0) (at arc.1 below.1)

each-ends : (nodes : ℕ) (arcs : List (ℕ × ℕ)) → All (LiesBelow nodes) arcs → AllByRecursion (EndsBelow itself nodes) arcs
each-ends nodes [] all = tt
each-ends nodes (arc ∷ arcs) all = (All-head (LiesBelow nodes) arc arcs all, each-ends nodes arcs (All-tail (LiesBelow nodes) arc arcs all))

module _ (parts : Parts) (labels types : Choice) (fit : FitTogether parts) (type : TypeColumns) (whole : IsWhole parts labels types type) where
  abbrev flags_of : List Bool
  flags_of = kept_flags labels parts.labels (length parts.ids)

  abbrev places_of : List (Option ℕ)
  places_of = renumbered 0 flags_of

  flags_long : length flags_of ≡ length parts.ids
  flags_long = length-map-range_with_len (is_kept labels parts.labels) 0 (length parts.ids)

  ids-same : kept_of flags_of parts.ids ≡ parts.ids
  ids-same = kept-all flags_of parts.ids flags_long whole.nodes

  own-place : (v : ℕ) → v < length parts.ids → new_place places_of v ≡ Some v
  own-place v h = place-all 0 flags_of v (omega (arith, flags_long)) whole.nodes ∙ ap (λ (m : ℕ). Some m) (omega arith)

  has-nodes : HasNodes (length parts.ids) type
  has-nodes =
      let P : List TypeColumns → Type 0 = λ ts. All (HasNodes (length parts.ids)) ts in
      All-head (HasNodes (length parts.ids)) type [] (subst P whole.only (All-filter (chooses_kind types) (HasNodes (length parts.ids)) parts.types fit.rows))

  inside : All (LiesBelow (length parts.ids)) (arcs_of type.arcs.rows)
  inside = arcs-below (length parts.ids) type.arcs.rows has-nodes whole.below

  chosen-below : All HasArcsBelow (chosen types parts.types)
  chosen-below =
      let P : List TypeColumns → Type 0 = λ ts. All HasArcsBelow ts in
      subst P (sym whole.only) (All-cons HasArcsBelow type [] whole.below (All-nil HasArcsBelow))

  taken-same : taken_arcs places_of type ≡ arcs_of type.arcs.rows
  taken-same =
      filter_map-same (moved places_of) (arcs_of type.arcs.rows)
      (All-agree (LiesBelow (length parts.ids)) (λ arc. moved places_of arc ≡ Some arc) (arcs_of type.arcs.rows) (moved-same places_of (length parts.ids) own-place) inside)

  arcs-same : arcs_of type.arcs.rows ≡ ordered itself (length (kept_of flags_of parts.ids)) (flat_map (taken_arcs places_of) (chosen types parts.types))
  arcs-same =
      let nodes : ℕ = length (kept_of flags_of parts.ids) in
      sym
      (ap (λ (ts : List TypeColumns). ordered itself nodes (flat_map (taken_arcs places_of) ts)) whole.only
      ∙ ap (λ (arcs : List (ℕ × ℕ)). ordered itself nodes arcs) (append-nil (taken_arcs places_of type) ∙ taken-same)
      ∙ ap (λ (ids : List ℕ). ordered itself (length ids) (arcs_of type.arcs.rows)) ids-same
      ∙ arcs-ordered (length parts.ids) type.arcs.rows whole.ascend (each-ends (length parts.ids) (arcs_of type.arcs.rows) inside))

  -- the view without weights
  pub shared-bare : plain_view_of (view_shown parts.ids type.arcs None (first_directed_kind (chosen types parts.types))) ≡ plain_view (plain parts) labels types None
  shared-bare =
      ap (λ (ids : List ℕ). plain_view_of (view_shown ids type.arcs None (first_directed_kind (chosen types parts.types)))) (sym ids-same)
      ∙ viewed-bare parts labels types fit.ids_ascend fit.rows chosen-below type.arcs arcs-same

  module _ (key : List ℕ) (has : list_all (has_column key) (chosen types parts.types) ≡ true) where
    has-key : has_column key type ≡ true
    has-key =
        let P : List TypeColumns → Type 0 = λ ts. list_all (has_column key) ts ≡ true in
        both-first (has_column key type) true (subst P whole.only has)

    module _ (place : ℕ) (found : under key type.arcs.columns ≡ Some (column_at type.arcs.columns place)) (beside : IsBeside type.arcs.rows (column_at type.arcs.columns place)) where
      abbrev entries : List ((ℕ × ℕ) × ℤ)
      entries = arcs_beside type.arcs.rows (column_at type.arcs.columns place)

      chosen-beside : All (HasValuesBeside key) (chosen types parts.types)
      chosen-beside =
          let P : List TypeColumns → Type 0 = λ ts. All (HasValuesBeside key) ts in
          let Q : Option (List (List ℤ)) → Type 0 = λ o. IfSome o (IsBeside type.arcs.rows) in
          subst P (sym whole.only) (All-cons (HasValuesBeside key) type [] (subst Q (sym found) beside) (All-nil (HasValuesBeside key)))

      entries-taken : taken_of places_of key type ≡ entries
      entries-taken =
          ap (λ (o : Option (List (List ℤ))). filter_map (moved_with places_of) (arcs_beside type.arcs.rows (rows_under o))) found
          ∙ filter_map-same (moved_with places_of) entries
          (All-agree (λ entry. LiesBelow (length parts.ids) entry.0) (λ entry. moved_with places_of entry ≡ Some entry) entries
          (λ entry h. ap (beside_arc entry.1) (moved-same places_of (length parts.ids) own-place entry.0 h))
          (All-zip (LiesBelow (length parts.ids)) (arcs_of type.arcs.rows) (listed (column_at type.arcs.columns place)) inside))

      entries-same : entries ≡ ordered arc_beside (length (kept_of flags_of parts.ids)) (flat_map (taken_of places_of key) (chosen types parts.types))
      entries-same =
          let nodes : ℕ = length (kept_of flags_of parts.ids) in
          sym
          (ap (λ (ts : List TypeColumns). ordered arc_beside nodes (flat_map (taken_of places_of key) ts)) whole.only
          ∙ ap (λ (es : List ((ℕ × ℕ) × ℤ)). ordered arc_beside nodes es) (append-nil (taken_of places_of key type) ∙ entries-taken)
          ∙ ap (λ (ids : List ℕ). ordered arc_beside (length ids) entries) ids-same
          ∙ values-ordered (length parts.ids) type.arcs.rows (listed (column_at type.arcs.columns place)) whole.ascend (each-ends (length parts.ids) (arcs_of type.arcs.rows) inside))

      shared-at : plain_view_of (view_shown parts.ids type.arcs (Some place) (first_directed_kind (chosen types parts.types))) ≡ plain_view (plain parts) labels types (Some key)
      shared-at =
          ap (λ (ids : List ℕ). plain_view_of (view_shown ids type.arcs (Some place) (first_directed_kind (chosen types parts.types)))) (sym ids-same)
          ∙ viewed-heavy parts labels types fit.ids_ascend fit.rows chosen-below key has chosen-beside place type.arcs entries-same

    -- the view with weights, where the key was looked for
    pub shared-heavy : (weight : Option ℕ) → MatchOption weight (under key type.arcs.columns ≡ None) (λ place. (place < length type.arcs.columns) × (under key type.arcs.columns ≡ Some (column_at type.arcs.columns place))) → IfSome weight (λ place. IsBeside type.arcs.rows (column_at type.arcs.columns place)) → plain_view_of (view_shown parts.ids type.arcs weight (first_directed_kind (chosen types parts.types))) ≡ plain_view (plain parts) labels types (Some key)
    shared-heavy None found beside = let there = under-has key type has-key in absurd cc
    shared-heavy (Some place) found beside = shared-at place found.1 beside
