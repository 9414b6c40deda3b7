-- Degrees and refused weights of a view, by its rows.
use Rattle.std.proofs.Common.{◌≡◌, ℕ, ℤ, pos, ◌+◌, ◌-◌, ◌<◌, ◌≤◌, Bool, true, if◌then◌else◌, List, [], map, length, take, slice_index, slice_index_or, slice_set, ◌∷◌, ◌++◌, Option, Some, None, unwrap_or, sym, ap, ◌∙◌, subst, arith}
use Rattle.std.specs.Option.{is_some}
use Rattle.std.specs.List.{flat_map, range_with_len}
use Rattle.std.specs.List.Sorted.{IsStrictlyIncreasing}
use Rattle.std.proofs.lemmas.List.{append_assoc, take_more, take_more_set, length-map, get_or-map}
use Rattle.graph_model.specs.declared.refusal.Refusal.{Refusal}
use Rattle.graph_model.specs.declared.refusal.Refusal.TheVariants.{WeightOutOfRange}
use Rattle.graph_model.specs.View.{ViewArc}
use Rattle.graph_model.specs.Degrees.{degree_of, first_refused, sum_of, weight_in, weight_refusal}
use Rattle.csr_columns.specs.Rows.{row_at, row_in}
use Rattle.csr_columns.specs.ViewParts.{ViewColumns, HasWeightsBeside, plain_view_of, row_arcs, view_row}
use Rattle.csr_columns.proofs.ViewRows.{arcs-view_rows, arcs_from-row}
use Rattle.par_degree.specs.Weights.{AreTaken, IsFirstRefused}
use Rattle.par_degree.proofs.Refusing.{bare-none, first-in-rows, heavy-row, none-in-rows, none-of-rows, row-first, row-none, row-taken}
use Rattle.par_degree.proofs.Summing.{length-bare_row, weights-row}

same-row : (row other : List ℤ) → Some row ≡ Some other → row ≡ other
same-row row other is = ap (λ (o : Option (List ℤ)). unwrap_or o []) is

module _ (ids : List ℕ) (rows : List (List ℕ)) where
  -- a row with a weight that is refused
  pub row-refused : (weights : Option (List (List ℤ))) (v : ℕ) (row : List ℤ) (at : ℕ) → Some row ≡ row_in weights v → length row ≡ length (row_at rows v)
      → IsFirstRefused row at
      → first_refused (row_arcs ids rows weights v) ≡ Some (WeightOutOfRange (slice_index ids v) (slice_index ids (slice_index (row_at rows v) at)) (slice_index_or row at (pos 0)))
  row-refused None v row at is long first = absurd cc
  row-refused (Some column) v row at is long first =
      ap (λ (ws : List ℤ). first_refused (heavy-row ids v (row_at rows v) ws)) (sym (same-row row (row_at column v) is)) ∙ row-first ids v (row_at rows v) row at long first

  -- a row whose weights are taken
  pub row-unrefused : (weights : Option (List (List ℤ))) (v : ℕ) (row : List ℤ) → Some row ≡ row_in weights v → AreTaken row (length row)
      → first_refused (row_arcs ids rows weights v) ≡ None
  row-unrefused None v row is taken = absurd cc
  row-unrefused (Some column) v row is taken =
      row-none ids v (row_at rows v) (row_at column v) (subst (λ (ws : List ℤ). AreTaken ws (length ws)) (same-row row (row_at column v) is) taken)

  -- a row without weights
  pub row-weightless : (weights : Option (List (List ℤ))) (v : ℕ) → None ≡ row_in weights v → first_refused (row_arcs ids rows weights v) ≡ None
  row-weightless None v is = bare-none ids v (row_at rows v)
  row-weightless (Some column) v is = absurd cc

  -- what a row takes whose weights aren't refused
  pub taken-in-row : (weights : Option (List (List ℤ))) (v : ℕ) (row : List ℤ) → Some row ≡ row_in weights v → length row ≡ length (row_at rows v)
      → first_refused (row_arcs ids rows weights v) ≡ None → AreTaken row (length row)
  taken-in-row None v row is long none = absurd cc
  taken-in-row (Some column) v row is long none =
      let same = same-row row (row_at column v) is in
      subst (λ (ws : List ℤ). AreTaken ws (length ws)) (sym same) (row-taken ids v (row_at rows v) (row_at column v) (ap (λ (ws : List ℤ). length ws) (sym same) ∙ long) none)

  -- the degree by a row, with weights and without
  abbrev pub degree_in : Bool → List ViewArc → ℤ
  degree_in weighted arcs = if weighted then sum_of (map weight_in arcs) else pos (length arcs)

  pub sum-of-row : (weights : Option (List (List ℤ))) (v : ℕ) (row : List ℤ) → Some row ≡ row_in weights v → length row ≡ length (row_at rows v)
      → degree_in (is_some weights) (row_arcs ids rows weights v) ≡ sum_of row
  sum-of-row None v row is long = absurd cc
  sum-of-row (Some column) v row is long =
      let same = same-row row (row_at column v) is in
      ap sum_of (weights-row ids v (row_at rows v) (row_at column v) (ap (λ (ws : List ℤ). length ws) (sym same) ∙ long) ∙ sym same)

  pub count-of-row : (weights : Option (List (List ℤ))) (v : ℕ) → None ≡ row_in weights v
      → degree_in (is_some weights) (row_arcs ids rows weights v) ≡ pos (length (row_at rows v))
  count-of-row None v is = ap pos (length-bare_row ids v (row_at rows v))
  count-of-row (Some column) v is = absurd cc

module _ (view : ViewColumns) (beside : HasWeightsBeside view) where
  by-rows : weight_refusal (plain_view_of view) ≡ first_refused (flat_map (view_row view) (range_with_len 0 (length view.arcs.rows)))
  by-rows = ap first_refused (arcs-view_rows view beside)

  -- the refusal that a row has where those before have none
  pub refusal-found : (v : ℕ) (told : Option Refusal) → v < length view.arcs.rows → ((u : ℕ) → u < v → first_refused (view_row view u) ≡ None)
      → told ≡ first_refused (view_row view v) → is_some told ≡ true → told ≡ weight_refusal (plain_view_of view)
  refusal-found v None in_range none is some = absurd cc
  refusal-found v (Some why) in_range none is some =
      sym (by-rows ∙ first-in-rows (view_row view) 0 (length view.arcs.rows) v why (omega arith) (omega (arith, in_range)) (λ u low high. none u high) (sym is))

  pub refusal-none : ((u : ℕ) → u < length view.arcs.rows → first_refused (view_row view u) ≡ None) → weight_refusal (plain_view_of view) ≡ None
  refusal-none none = by-rows ∙ none-in-rows (view_row view) 0 (length view.arcs.rows) (λ u low high. none u (omega arith))

  module _ (taken : weight_refusal (plain_view_of view) ≡ None) where
    pub taken-row : (v : ℕ) (row : List ℤ) → v < length view.arcs.rows → Some row ≡ row_in view.weights v → length row ≡ length (row_at view.arcs.rows v)
        → AreTaken row (length row)
    taken-row v row in_range is long =
        taken-in-row view.ids view.arcs.rows view.weights v row is long
        (none-of-rows (view_row view) 0 (length view.arcs.rows) v (omega arith) (omega (arith, in_range)) (sym by-rows ∙ taken))

  module _ (ascend : IsStrictlyIncreasing view.ids) (long : length view.arcs.rows ≡ length view.ids) where
    degree-by-row : (v : ℕ) → v < length view.ids → degree_of (plain_view_of view) (slice_index view.ids v) ≡ degree_in view.ids view.arcs.rows (is_some view.weights) (view_row view v)
    degree-by-row v in_range = ap (degree_in view.ids view.arcs.rows (is_some view.weights)) (arcs_from-row view v beside ascend long in_range)

    pub degree-heavy : (v : ℕ) (row : List ℤ) → v < length view.ids → Some row ≡ row_in view.weights v → length row ≡ length (row_at view.arcs.rows v)
        → sum_of row ≡ degree_of (plain_view_of view) (slice_index view.ids v)
    degree-heavy v row in_range is as_long = sym (degree-by-row v in_range ∙ sum-of-row view.ids view.arcs.rows view.weights v row is as_long)

    pub degree-bare : (v : ℕ) → v < length view.ids → None ≡ row_in view.weights v
        → pos (length (row_at view.arcs.rows v)) ≡ degree_of (plain_view_of view) (slice_index view.ids v)
    degree-bare v in_range is = sym (degree-by-row v in_range ∙ count-of-row view.ids view.arcs.rows view.weights v is)

-- one more value behind those that stand before a step
pub step-more : (degree : ℕ → ℤ) (ids : List ℕ) (step : List ℤ) (from v : ℕ) (value : ℤ) → from ≤ v → v < length ids → v - from < length step
    → take from (map degree ids) ++ take (v - from) step ≡ take v (map degree ids) → value ≡ degree (slice_index ids v)
    → take from (map degree ids) ++ take (v + 1 - from) (slice_set step (v - from) value) ≡ take (v + 1) (map degree ids)
step-more degree ids step from v value after in_range in_step so_far is =
    let at_end : v + 1 - from ≡ v - from + 1 = omega (arith, after) in
    ap (λ n. take from (map degree ids) ++ take n (slice_set step (v - from) value)) at_end
    ∙ (ap (λ (xs : List ℤ). take from (map degree ids) ++ xs) (take_more_set step (v - from) value in_step)
    ∙ (sym (append_assoc (take from (map degree ids)) (take (v - from) step) (value ∷ []))
    ∙ (ap (λ (xs : List ℤ). xs ++ value ∷ []) so_far
    ∙ sym (take_more (map degree ids) v (pos 0) (omega (arith, length-map ids degree, in_range))
    ∙ ap (λ (x : ℤ). take v (map degree ids) ++ x ∷ []) (get_or-map degree ids v 0 (pos 0) in_range ∙ sym is)))))
