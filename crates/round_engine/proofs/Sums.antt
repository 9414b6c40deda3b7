-- The sum of a column falls where no value rises and one falls.
use Rattle.std.proofs.Common.{◌≡◌, ℕ, zero, suc, ◌+◌, ◌<◌, ◌≤◌, List, [], ◌∷◌, length, sum, arith}
use Rattle.std.proofs.lemmas.List.Sums.{sum_by-cons}
use Rattle.round_engine.specs.Columns.{value_at, NowhereGreater}

sum_cons : (x : ℕ) (xs : List ℕ) → sum (x ∷ xs) ≡ x + sum xs
sum_cons x xs = sum_by-cons (λ y. y) x xs

rest : (x y : ℕ) (now before : List ℕ) → NowhereGreater (x ∷ now) (y ∷ before) → NowhereGreater now before
rest x y now before nowhere v in_range = nowhere (suc v) (omega arith)

pub sum-nowhere_greater : (now before : List ℕ) → length now ≡ length before → NowhereGreater now before → sum now ≤ sum before
sum-nowhere_greater [] [] long nowhere = omega arith
sum-nowhere_greater [] (y ∷ before) long nowhere = absurd (omega arith)
sum-nowhere_greater (x ∷ now) [] long nowhere = absurd (omega arith)
sum-nowhere_greater (x ∷ now) (y ∷ before) long nowhere =
    omega (arith, sum_cons x now, sum_cons y before, nowhere 0 (omega arith), sum-nowhere_greater now before (omega arith) (rest x y now before nowhere))

pub sum-falls : (now before : List ℕ) (v : ℕ) → length now ≡ length before → NowhereGreater now before → v < length before
    → value_at now v < value_at before v → sum now < sum before
sum-falls [] [] v long nowhere in_range fell = absurd (omega arith)
sum-falls [] (y ∷ before) v long nowhere in_range fell = absurd (omega arith)
sum-falls (x ∷ now) [] v long nowhere in_range fell = absurd (omega arith)
sum-falls (x ∷ now) (y ∷ before) zero long nowhere in_range fell =
    omega (arith, sum_cons x now, sum_cons y before, fell, sum-nowhere_greater now before (omega arith) (rest x y now before nowhere))
sum-falls (x ∷ now) (y ∷ before) (suc v) long nowhere in_range fell =
    omega (
      arith,
      sum_cons x now,
      sum_cons y before,
      nowhere 0 (omega arith),
      sum-falls now before v (omega arith) (rest x y now before nowhere) (omega arith) fell,
    )
