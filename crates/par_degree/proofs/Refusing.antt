-- The first weight that is refused, row by row.
use Rattle.std.proofs.Common.{◌≡◌, ℕ, ℤ, pos, zero, suc, ◌+◌, ◌<◌, ◌≤◌, true, false, List, [], ◌∷◌, ◌++◌, map, length, slice_index, slice_index_or, Option, Some, None, ⊎_elim, refl, sym, ap, ◌∙◌, arith}
use Rattle.std.specs.List.{flat_map, range_with_len, zip}
use Rattle.std.proofs.lemmas.Bool.{cases_lt, cases_Bool, cond-true, cond-false}
use Rattle.graph_model.specs.declared.refusal.Refusal.{Refusal}
use Rattle.graph_model.specs.declared.refusal.Refusal.TheVariants.{WeightOutOfRange}
use Rattle.graph_model.specs.Lists.{first_there}
use Rattle.graph_model.specs.View.{ViewArc}
use Rattle.graph_model.specs.Degrees.{first_refused, is_out_of_range, refused_weight}
use Rattle.csr_columns.specs.Rows.{arc_from}
use Rattle.csr_columns.specs.ViewParts.{bare_arc, heavy_arc}
use Rattle.graph_model.proofs.ListLemmas.{first_there-none}
use Rattle.par_degree.specs.Weights.{AreTaken, IsFirstRefused}

-- of three the first that is there
first_there-assoc : {A : Type 0} (a b c : Option A) → first_there a (first_there b c) ≡ first_there (first_there a b) c
first_there-assoc None b c = refl
first_there-assoc (Some x) b c = refl

first-append : (xs ys : List ViewArc) → first_refused (xs ++ ys) ≡ first_there (first_refused xs) (first_refused ys)
first-append [] ys = refl
first-append (x ∷ xs) ys =
    ap (first_there (refused_weight x.source x.target x.weight)) (first-append xs ys)
    ∙ first_there-assoc (refused_weight x.source x.target x.weight) (first_refused xs) (first_refused ys)

-- no row has one
pub none-in-rows : (f : ℕ → List ViewArc) (a n : ℕ) → ((u : ℕ) → a ≤ u → u < a + n → first_refused (f u) ≡ None) → first_refused (flat_map f (range_with_len a n)) ≡ None
none-in-rows f a zero none = refl
none-in-rows f a (suc n) none =
    first-append (f a) (flat_map f (range_with_len (a + 1) n))
    ∙ ap (λ (o : Option Refusal). first_there o (first_refused (flat_map f (range_with_len (a + 1) n)))) (none a (omega arith) (omega arith))
    ∙ none-in-rows f (a + 1) n (λ u low high. none u (omega arith) (omega arith))

-- the row of v has the first
pub first-in-rows : (f : ℕ → List ViewArc) (a n v : ℕ) (why : Refusal) → a ≤ v → v < a + n → ((u : ℕ) → a ≤ u → u < v → first_refused (f u) ≡ None)
    → first_refused (f v) ≡ Some why → first_refused (flat_map f (range_with_len a n)) ≡ Some why
first-in-rows f a zero v why low high none here = absurd (omega arith)
first-in-rows f a (suc n) v why low high none here =
    first-append (f a) (flat_map f (range_with_len (a + 1) n))
    ∙ ⊎_elim
    (λ (later : a < v).
    ap (λ (o : Option Refusal). first_there o (first_refused (flat_map f (range_with_len (a + 1) n)))) (none a (omega arith) later)
    ∙ first-in-rows f (a + 1) n v why (omega arith) (omega arith) (λ u from below. none u (omega arith) below) here)
    (λ (first : v ≤ a).
    (let is : a ≡ v = omega arith in
    ap (λ (o : Option Refusal). first_there o (first_refused (flat_map f (range_with_len (a + 1) n)))) (ap (λ (w : ℕ). first_refused (f w)) is ∙ here)))
    (cases_lt a v)

-- where none has one, no row has
pub none-of-rows : (f : ℕ → List ViewArc) (a n v : ℕ) → a ≤ v → v < a + n → first_refused (flat_map f (range_with_len a n)) ≡ None → first_refused (f v) ≡ None
none-of-rows f a zero v low high none = absurd (omega arith)
none-of-rows f a (suc n) v low high none =
    let both = first_there-none (first_refused (f a)) (first_refused (flat_map f (range_with_len (a + 1) n))) (sym (first-append (f a) (flat_map f (range_with_len (a + 1) n))) ∙ none) in
    ⊎_elim
    (λ (later : a < v). none-of-rows f (a + 1) n v (omega arith) (omega arith) both.1)
    (λ (first : v ≤ a). (let is : a ≡ v = omega arith in sym (ap (λ (w : ℕ). first_refused (f w)) is) ∙ both.0))
    (cases_lt a v)

-- arcs without weights have none
pub bare-none : (ids : List ℕ) (v : ℕ) (targets : List ℕ) → first_refused (map (bare_arc ids) (map (arc_from v) targets)) ≡ None
bare-none ids v [] = refl
bare-none ids v (target ∷ targets) = bare-none ids v targets

weight-taken : (source target : ℕ) (weight : ℤ) → is_out_of_range weight ≡ false → refused_weight source target (Some weight) ≡ None
weight-taken source target weight e = cond-false (is_out_of_range weight) (Some (WeightOutOfRange source target weight)) None e

weight-refused : (source target : ℕ) (weight : ℤ) → is_out_of_range weight ≡ true → refused_weight source target (Some weight) ≡ Some (WeightOutOfRange source target weight)
weight-refused source target weight e = cond-true (is_out_of_range weight) (Some (WeightOutOfRange source target weight)) None e

module _ (ids : List ℕ) (v : ℕ) where
  abbrev pub heavy-row : List ℕ → List ℤ → List ViewArc
  heavy-row targets weights = map (heavy_arc ids) (zip (map (arc_from v) targets) weights)

  past : (target : ℕ) (targets : List ℕ) (weight : ℤ) (weights : List ℤ) → is_out_of_range weight ≡ false
      → first_refused (heavy-row (target ∷ targets) (weight ∷ weights)) ≡ first_refused (heavy-row targets weights)
  past target targets weight weights taken =
      ap (λ (o : Option Refusal). first_there o (first_refused (heavy-row targets weights))) (weight-taken (slice_index ids v) (slice_index ids target) weight taken)

  pub row-none : (targets : List ℕ) (weights : List ℤ) → AreTaken weights (length weights) → first_refused (heavy-row targets weights) ≡ None
  row-none [] weights taken = refl
  row-none (target ∷ targets) [] taken = refl
  row-none (target ∷ targets) (weight ∷ weights) taken =
      past target targets weight weights (taken 0 (omega arith)) ∙ row-none targets weights (λ at below. taken (suc at) (omega arith))

  pub row-first : (targets : List ℕ) (weights : List ℤ) (at : ℕ) → length weights ≡ length targets → IsFirstRefused weights at
      → first_refused (heavy-row targets weights) ≡ Some (WeightOutOfRange (slice_index ids v) (slice_index ids (slice_index targets at)) (slice_index_or weights at (pos 0)))
  row-first [] [] at long first = absurd (omega (arith, first.0))
  row-first [] (weight ∷ weights) at long first = absurd (omega arith)
  row-first (target ∷ targets) [] at long first = absurd (omega arith)
  row-first (target ∷ targets) (weight ∷ weights) zero long (in_range, out, before) =
      ap (λ (o : Option Refusal). first_there o (first_refused (heavy-row targets weights))) (weight-refused (slice_index ids v) (slice_index ids target) weight out)
  row-first (target ∷ targets) (weight ∷ weights) (suc at) long (in_range, out, before) =
      past target targets weight weights (before 0 (omega arith))
      ∙ row-first targets weights at (omega arith) (omega arith, out, λ b below. before (suc b) (omega arith))

  pub row-taken : (targets : List ℕ) (weights : List ℤ) → length weights ≡ length targets → first_refused (heavy-row targets weights) ≡ None → AreTaken weights (length weights)
  row-taken [] [] long none = λ at below. absurd (omega arith)
  row-taken [] (weight ∷ weights) long none = absurd (omega arith)
  row-taken (target ∷ targets) [] long none = absurd (omega arith)
  row-taken (target ∷ targets) (weight ∷ weights) long none =
      let both = first_there-none (refused_weight (slice_index ids v) (slice_index ids target) (Some weight)) (first_refused (heavy-row targets weights)) none in
      let rest = row-taken targets weights (omega arith) both.1 in
      ⊎_elim
      (λ (out : is_out_of_range weight ≡ true). absurd cc)
      (λ (taken : is_out_of_range weight ≡ false). each weight weights taken rest)
      (cases_Bool (is_out_of_range weight))
    where
      each : (weight : ℤ) (weights : List ℤ) → is_out_of_range weight ≡ false → AreTaken weights (length weights) → AreTaken (weight ∷ weights) (length (weight ∷ weights))
      each weight weights taken rest zero below = taken
      each weight weights taken rest (suc at) below = rest at (omega arith)
