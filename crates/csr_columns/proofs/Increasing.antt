-- Numbers that ascend strictly.
use Rattle.std.proofs.Common.{◌≡◌, ℕ, ◌+◌, ◌<◌, List, [], ◌∷◌, length, get_or, subst, zero, suc, arith}
use Rattle.std.specs.List.{AllByRecursion}
use Rattle.std.specs.List.Sorted.{IsStrictlyIncreasing}
use Rattle.graph_model.specs.Lists.{Pairwise}

-- numbers ascend
abbrev pub Ascends : List ℕ → Type 0
Ascends xs = Pairwise ◌<◌ xs

-- a step ahead, numbers still ascend
tail_up : (x : ℕ) (xs : List ℕ) → IsStrictlyIncreasing (x ∷ xs) → IsStrictlyIncreasing xs
tail_up x xs up = λ k h. let e : suc k + 1 ≡ suc (k + 1) = omega arith in subst (λ (n : ℕ). get_or xs k 0 < get_or (x ∷ xs) n 0) e (up (suc k) (omega arith))

all_above : (low x : ℕ) (xs : List ℕ) → low < x → IsStrictlyIncreasing (x ∷ xs) → AllByRecursion (λ y. low < y) (x ∷ xs)
all_above low x [] h up = (h, tt)
all_above low x (y ∷ ys) h up = (h, all_above low y ys (omega (arith, up 0 (omega arith))) (tail_up x (y ∷ ys) up))

pub Ascends-from_increasing : (xs : List ℕ) → IsStrictlyIncreasing xs → Ascends xs
Ascends-from_increasing [] up = tt
Ascends-from_increasing (x ∷ []) up = (tt, tt)
Ascends-from_increasing (x ∷ y ∷ ys) up =
    (all_above x y ys (up 0 (omega arith)) (tail_up x (y ∷ ys) up), Ascends-from_increasing (y ∷ ys) (tail_up x (y ∷ ys) up))

pub All-at : (P : ℕ → Type 0) (xs : List ℕ) (k : ℕ) → k < length xs → AllByRecursion P xs → P (get_or xs k 0)
All-at P [] k h all = absurd (omega arith)
All-at P (x ∷ xs) zero h all = all.0
All-at P (x ∷ xs) (suc k) h all = All-at P xs k (omega arith) all.1

-- later numbers are greater
pub Ascends-less : (xs : List ℕ) (i j : ℕ) → i < j → j < length xs → Ascends xs → get_or xs i 0 < get_or xs j 0
Ascends-less [] i j h j_in up = absurd (omega arith)
Ascends-less (x ∷ xs) zero zero h j_in up = absurd (omega arith)
Ascends-less (x ∷ xs) zero (suc j) h j_in up = All-at (λ y. x < y) xs j (omega arith) up.0
Ascends-less (x ∷ xs) (suc i) zero h j_in up = absurd (omega arith)
Ascends-less (x ∷ xs) (suc i) (suc j) h j_in up = Ascends-less xs i j (omega arith) (omega arith) up.1

-- numbers that ascend, place by place
pub increasing-from_Ascends : (xs : List ℕ) → Ascends xs → IsStrictlyIncreasing xs
increasing-from_Ascends xs up = λ k h. Ascends-less xs k (k + 1) (omega arith) h up

-- and each is less than those that stand later
pub increasing-less : (xs : List ℕ) (i j : ℕ) → i < j → j < length xs → IsStrictlyIncreasing xs → get_or xs i 0 < get_or xs j 0
increasing-less xs i j h j_in up = Ascends-less xs i j h j_in (Ascends-from_increasing xs up)
