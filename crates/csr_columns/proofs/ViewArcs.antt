-- Arcs that are taken over into a view, in the order of their new places.
use Rattle.std.proofs.Common.{◌≡◌, ℕ, ◌<◌, Bool, true, false, ◌&&◌, cond, eqb, List, [], ◌∷◌, ◌++◌, length, map, filter, get_or, Option, Some, None, refl, sym, ap, ◌∙◌}
use Rattle.std.specs.List.{All, filter_map, cons_option, flat_map, range_with_len}
use Rattle.std.proofs.lemmas.List.Elements.{All-head, All-tail, filter-append}
use Rattle.std.proofs.lemmas.List.FromFn.{fill_by_all}
use Rattle.graph_model.specs.View.{ViewArc, joins, arcs_between, arcs_out, arcs_within}
use Rattle.csr_columns.specs.Order.{has_number, items_of, grouped, source_by, target_by, ordered}
use Rattle.csr_columns.proofs.Grouping.{map-flat_map, flat_map-range_agree}

-- a filter of pieces
pub filter-flat_map : {X Y : Type 0} (p : Y → Bool) (f : X → List Y) (xs : List X) → filter p (flat_map f xs) ≡ flat_map (λ x. filter p (f x)) xs
filter-flat_map p f [] = refl
filter-flat_map p f (x ∷ xs) = filter-append p (f x) (flat_map f xs) ∙ ap (λ ys. filter p (f x) ++ ys) (filter-flat_map p f xs)

-- pieces that are made of what a function gives
pub flat_map-map : {X Y Z : Type 0} (f : Y → List Z) (g : X → Y) (xs : List X) → flat_map f (map g xs) ≡ flat_map (λ x. f (g x)) xs
flat_map-map f g [] = refl
flat_map-map f g (x ∷ xs) = ap (λ ys. f (g x) ++ ys) (flat_map-map f g xs)

-- pieces of all items, by their places
flat_map-places : {Z : Type 0} (f : ℕ → List Z) (ids : List ℕ) → flat_map f ids ≡ flat_map (λ i. f (get_or ids i 0)) (range_with_len 0 (length ids))
flat_map-places f ids =
    ap (flat_map f) (fill_by_all (λ i. get_or ids i 0) ids (length ids) 0 refl (λ k h. refl))
    ∙ flat_map-map f (λ i. get_or ids i 0) (range_with_len 0 (length ids))

-- an arc that is left out joins no two ids, and one that becomes an item joins the ids of the item's ends alone
abbrev pub IsTaken : {B : Type 0} → (B → ViewArc) → (B → ℕ × ℕ) → List ℕ → Option B → ViewArc → Type 0
IsTaken new ends ids None arc = (i j : ℕ) → i < length ids → j < length ids → joins (get_or ids i 0) (get_or ids j 0) arc ≡ false
IsTaken new ends ids (Some item) arc =
    (new item ≡ arc) × ((i j : ℕ) → i < length ids → j < length ids → joins (get_or ids i 0) (get_or ids j 0) arc ≡ (eqb (ends item).0 i && eqb (ends item).1 j))

-- arcs that become items or are left out
module _ {A B : Type 0} (taken : A → Option B) (old : A → ViewArc) (new : B → ViewArc) (ends : B → ℕ × ℕ) (ids : List ℕ) where
  module _ (i j : ℕ) (i_in : i < length ids) (j_in : j < length ids) where
    -- the items from one place to another
    abbrev between : List B → List B
    between items = filter (has_number (source_by ends) i) (filter (has_number (target_by ends) j) items)

    -- an arc more
    pick : (a b : Bool) (item : B) (arcs : List ViewArc) (items : List B) → arcs ≡ map new items → cond (a && b) (new item ∷ arcs) arcs ≡ map new (cond b (cond a (item ∷ items) items) items)
    pick true true item arcs items same = ap (λ (xs : List ViewArc). new item ∷ xs) same
    pick true false item arcs items same = same
    pick false true item arcs items same = same
    pick false false item arcs items same = same

    filter-cond : (p : B → Bool) (b : Bool) (item : B) (items : List B) → filter p (cond b (item ∷ items) items) ≡ cond b (cond (p item) (item ∷ filter p items) (filter p items)) (filter p items)
    filter-cond p true item items = refl
    filter-cond p false item items = refl

    step : (o : Option B) (arc : ViewArc) (arcs : List ViewArc) (items : List B) → IsTaken new ends ids o arc → filter (joins (get_or ids i 0) (get_or ids j 0)) arcs ≡ map new (between items) → filter (joins (get_or ids i 0) (get_or ids j 0)) (arc ∷ arcs) ≡ map new (between (cons_option o items))
    step None arc arcs items is same =
        ap (λ (b : Bool). cond b (arc ∷ filter (joins (get_or ids i 0) (get_or ids j 0)) arcs) (filter (joins (get_or ids i 0) (get_or ids j 0)) arcs)) (is i j i_in j_in) ∙ same
    step (Some item) arc arcs items is same =
        let kept : List ViewArc = filter (joins (get_or ids i 0) (get_or ids j 0)) arcs in
        let a : Bool = eqb (ends item).0 i in
        let b : Bool = eqb (ends item).1 j in
        ap (λ (t : Bool). cond t (arc ∷ kept) kept) (is.1 i j i_in j_in)
        ∙ ap (λ (x : ViewArc). cond (a && b) (x ∷ kept) kept) (sym is.0)
        ∙ pick a b item kept (between items) same
        ∙ ap (map new) (sym (filter-cond (has_number (source_by ends) i) b item (filter (has_number (target_by ends) j) items)))

    -- the arcs from one id to another
    arcs_between-taken : (xs : List A) → All (λ x. IsTaken new ends ids (taken x) (old x)) xs → filter (joins (get_or ids i 0) (get_or ids j 0)) (map old xs) ≡ map new (between (filter_map taken xs))
    arcs_between-taken [] all = refl
    arcs_between-taken (x ∷ xs) all =
        step (taken x) (old x) (map old xs) (filter_map taken xs) (All-head (λ y. IsTaken new ends ids (taken y) (old y)) x xs all) (arcs_between-taken xs (All-tail (λ y. IsTaken new ends ids (taken y) (old y)) x xs all))

  -- the arcs within some ids are those that are taken over, in the order of their new places
  pub arcs_within-taken : (xs : List A) → All (λ x. IsTaken new ends ids (taken x) (old x)) xs → map new (ordered ends (length ids) (filter_map taken xs)) ≡ arcs_within (map old xs) ids
  arcs_within-taken xs all =
      let items : List B = filter_map taken xs in
      let places : List ℕ = range_with_len 0 (length ids) in
      let arcs : List ViewArc = map old xs in
      map-flat_map new (items_of (source_by ends) (grouped (target_by ends) (length ids) items)) places
      ∙ flat_map-range_agree (λ i. map new (items_of (source_by ends) (grouped (target_by ends) (length ids) items) i)) (λ i. arcs_out arcs ids (get_or ids i 0)) (length ids)
      (λ i i_in.
      ap (map new) (filter-flat_map (has_number (source_by ends) i) (items_of (target_by ends) items) places)
      ∙ map-flat_map new (λ j. filter (has_number (source_by ends) i) (items_of (target_by ends) items j)) places
      ∙ flat_map-range_agree (λ j. map new (filter (has_number (source_by ends) i) (items_of (target_by ends) items j))) (λ j. arcs_between arcs (get_or ids i 0) (get_or ids j 0)) (length ids)
      (λ j j_in. sym (arcs_between-taken i j i_in j_in xs all))
      ∙ sym (flat_map-places (arcs_between arcs (get_or ids i 0)) ids))
      ∙ sym (flat_map-places (arcs_out arcs ids) ids)
