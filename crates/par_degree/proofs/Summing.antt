-- The sum of weights so far, and the degree of a node by its row.
use Rattle.std.proofs.Common.{◌≡◌, ℕ, ℤ, pos, ◌+◌, ◌<◌, ◌≤◌, ◌+ℤ◌, ◌≤ℤ◌, false, List, [], ◌∷◌, ◌++◌, map, length, take, slice_index_or, refl, ap, ◌∙◌, arith}
use Rattle.std.specs.List.{zip}
use Rattle.std.proofs.lemmas.Int.{ints}
use Rattle.std.proofs.lemmas.List.{take_all, take_more, length-map}
use Rattle.graph_model.specs.Degrees.{sum_of, weight_in, is_out_of_range, most_weight}
use Rattle.csr_columns.specs.Rows.{arc_from}
use Rattle.csr_columns.specs.ViewParts.{bare_arc, heavy_arc}

sum-push : (xs : List ℤ) (x : ℤ) → sum_of (xs ++ x ∷ []) ≡ sum_of xs +ℤ x
sum-push [] x = omega (arith, ints)
sum-push (y ∷ ys) x = ap (λ (z : ℤ). y +ℤ z) (sum-push ys x) ∙ omega (arith, ints)

pub sum-more : (xs : List ℤ) (at : ℕ) → at < length xs → sum_of (take (at + 1) xs) ≡ sum_of (take at xs) +ℤ slice_index_or xs at (pos 0)
sum-more xs at in_range = ap sum_of (take_more xs at (pos 0) in_range) ∙ sum-push (take at xs) (slice_index_or xs at (pos 0))

pub sum-whole : (xs : List ℤ) (at : ℕ) → length xs ≤ at → sum_of (take at xs) ≡ sum_of xs
sum-whole xs at whole = ap sum_of (take_all at xs whole)

-- what a weight in range is
pub in-range : (weight : ℤ) → is_out_of_range weight ≡ false → (pos 0 ≤ℤ weight) × (weight ≤ℤ pos most_weight)
in-range weight taken = (grind (arith, ints), grind (arith, ints))

-- the weights of a row are those that stand beside it
pub weights-row : (ids : List ℕ) (v : ℕ) (targets : List ℕ) (weights : List ℤ) → length weights ≡ length targets
    → map weight_in (map (heavy_arc ids) (zip (map (arc_from v) targets) weights)) ≡ weights
weights-row ids v [] [] long = refl
weights-row ids v [] (weight ∷ weights) long = absurd (omega arith)
weights-row ids v (target ∷ targets) [] long = absurd (omega arith)
weights-row ids v (target ∷ targets) (weight ∷ weights) long = ap (λ (xs : List ℤ). weight ∷ xs) (weights-row ids v targets weights (omega arith))

pub length-bare_row : (ids : List ℕ) (v : ℕ) (targets : List ℕ) → length (map (bare_arc ids) (map (arc_from v) targets)) ≡ length targets
length-bare_row ids v targets = length-map (map (arc_from v) targets) (bare_arc ids) ∙ length-map targets (arc_from v)
