-- Two lists in order that hold the same items are equal, so what a sort gives is the items put in order.
use Rattle.std.proofs.Common.{◌≡◌, ℕ, ◌+◌, ◌≤◌, ◌<◌, Bool, true, false, true≢false, cond, subst, List, [], ◌∷◌, length, get_or, refl, sym, ap, ◌∙◌, ⊎_elim, suc, zero, arith}
use Rattle.std.proofs.lemmas.Bool.{cases_Bool}
use Rattle.std.proofs.lemmas.List.Sums.{sum_by-cons}
use Rattle.std.proofs.lemmas.List.Sorted.{sum_by-IsPermutation, sorted_far, ranks_by}
use Rattle.std.specs.List.{AllByRecursion, sum_by}
use Rattle.std.specs.List.Sorted.{IsPermutation, IsSorted, IsSortedBy}
use Rattle.std.specs.Cmp.{IsTotalOrder, IsStrictWeakOrder}
use Rattle.std.specs.Ordering.{ordering_reverse, is_gt, is_lt}
use Rattle.std.specs.declared.cmp.Ordering.{Ordering}
use Rattle.std.specs.declared.cmp.Ordering.TheVariants.{Less, Equal, Greater}
use Rattle.graph_model.specs.Lists.{Pairwise, insert_in_order, in_order}

module _ {A : Type 0} {R : A → A → Ordering} (o : IsTotalOrder R) (apart : (x y : A) → R x y ≡ Equal → x ≡ y) where
  -- an item comes before another
  abbrev pub before : A → A → Bool
  before x y = is_lt (R x y)

  weak : IsStrictWeakOrder before
  weak = ranks_by o (λ x. x)

  -- an item doesn't come after another
  abbrev pub InOrder : A → A → Type 0
  InOrder x y = before y x ≡ false

  -- of two items of which neither comes before the other, each is the other
  same : (x y : A) → before x y ≡ false → before y x ≡ false → x ≡ y
  same x y not_before not_after = by (R x y) (R y x) refl (o.antisymm x y) not_before not_after
    where
      by : (r s : Ordering) → R x y ≡ r → r ≡ ordering_reverse s → is_lt r ≡ false → is_lt s ≡ false → x ≡ y
      by Less s is back a b = absurd (true≢false a)
      by Equal s is back a b = apart x y is
      by Greater Less is back a b = absurd (true≢false b)
      by Greater Equal is back a b = absurd (true≢false (ap is_gt back))
      by Greater Greater is back a b = absurd (true≢false (ap is_gt back))

  -- whether two items are the same
  abbrev alike : A → A → Bool
  alike x y = cond (before x y) false (cond (before y x) false true)

  abbrev weight : A → A → ℕ
  weight z x = cond (alike z x) 1 0

  -- how many items are the same as one
  abbrev times : A → List A → ℕ
  times z xs = sum_by (weight z) xs

  irreflexive : (x : A) → before x x ≡ false
  irreflexive x = ⊎_elim (λ (lt : before x x ≡ true). absurd (true≢false (sym lt ∙ weak.one_way x x lt))) (λ (no : before x x ≡ false). no) (cases_Bool (before x x))

  alike-itself : (x : A) → alike x x ≡ true
  alike-itself x = rw (irreflexive x) refl

  times-first : (x : A) (xs : List A) → times x (x ∷ xs) ≡ 1 + times x xs
  times-first x xs = sum_by-cons (weight x) x xs ∙ ap (λ b. cond b 1 0 + times x xs) (alike-itself x)

  -- an item that comes before another comes before all that don't come before that one
  far : (x y z : A) → before x y ≡ true → before z y ≡ false → before x z ≡ true
  far x y z lt later = ⊎_elim (λ (yes : before x z ≡ true). yes) (λ (no : before x z ≡ false). absurd (true≢false (sym lt ∙ weak.chain x z y no later))) (cases_Bool (before x z))

  absent : (x y : A) (ys : List A) → before x y ≡ true → AllByRecursion (InOrder y) ys → times x ys ≡ 0
  absent x y [] lt later = refl
  absent x y (z ∷ zs) lt later =
      let apart_now : weight x z ≡ 0 = ap (λ b. cond (cond b false (cond (before z x) false true)) 1 0) (far x y z lt later.0) in
      omega (arith, sum_by-cons (weight x) z zs, apart_now, absent x y zs lt later.1)

  absent-all : (x y : A) (ys : List A) → before x y ≡ true → AllByRecursion (InOrder y) ys → times x (y ∷ ys) ≡ 0
  absent-all x y ys lt later = absent x y (y ∷ ys) lt (irreflexive y, later)

  first-same : (x y : A) (xs ys : List A) → Pairwise InOrder (x ∷ xs) → Pairwise InOrder (y ∷ ys) → ((z : A) → times z (x ∷ xs) ≡ times z (y ∷ ys)) → x ≡ y
  first-same x y xs ys up also t =
      ⊎_elim
      (λ (lt : before x y ≡ true). absurd (omega (arith, t x, times-first x xs, absent-all x y ys lt also.0)))
      (λ (no : before x y ≡ false).
      ⊎_elim
      (λ (gt : before y x ≡ true). absurd (omega (arith, t y, times-first y ys, absent-all y x xs gt up.0)))
      (λ (nor : before y x ≡ false). same x y no nor)
      (cases_Bool (before y x)))
      (cases_Bool (before x y))

  -- two lists in order that have each item equally often
  unique : (xs ys : List A) → Pairwise InOrder xs → Pairwise InOrder ys → ((z : A) → times z xs ≡ times z ys) → xs ≡ ys
  unique [] [] up also t = refl
  unique [] (y ∷ ys) up also t = absurd (omega (arith, t y, times-first y ys))
  unique (x ∷ xs) [] up also t = absurd (omega (arith, t x, times-first x xs))
  unique (x ∷ xs) (y ∷ ys) up also t =
      let head = first-same x y xs ys up also t in
      ap (λ z. z ∷ xs) head
      ∙ ap (λ zs. y ∷ zs) (unique xs ys up.1 also.1 (λ z. omega (arith, t z, sum_by-cons (weight z) x xs, sum_by-cons (weight z) y ys, ap (weight z) head)))

  -- ---- items put in order

  All-insert : (P : A → Type 0) (x : A) (ys : List A) → P x → AllByRecursion P ys → AllByRecursion P (insert_in_order before x ys)
  All-insert P x [] px all = (px, tt)
  All-insert P x (y ∷ ys) px all =
      elim (before y x) as (λ b. AllByRecursion P (cond b (y ∷ insert_in_order before x ys) (x ∷ y ∷ ys)))
      [ true ↦ (all.0, All-insert P x ys px all.1) | false ↦ (px, all) ]

  All-later : (x y : A) (ys : List A) → InOrder x y → AllByRecursion (InOrder y) ys → AllByRecursion (InOrder x) ys
  All-later x y [] first all = tt
  All-later x y (z ∷ zs) first all = (weak.chain z y x all.0 first, All-later x y zs first all.1)

  insert-in_order : (x : A) (ys : List A) → Pairwise InOrder ys → Pairwise InOrder (insert_in_order before x ys)
  insert-in_order x [] up = (tt, tt)
  insert-in_order x (y ∷ ys) up =
      ⊎_elim
      (λ (lt : before y x ≡ true). rw lt (All-insert (InOrder y) x ys (weak.one_way y x lt) up.0, insert-in_order x ys up.1))
      (λ (no : before y x ≡ false). rw no ((no, All-later x y ys no up.0), up))
      (cases_Bool (before y x))

  pub in_order-ascends : (xs : List A) → Pairwise InOrder (in_order before xs)
  in_order-ascends [] = tt
  in_order-ascends (x ∷ xs) = insert-in_order x (in_order before xs) (in_order-ascends xs)

  times-insert : (z x : A) (ys : List A) → times z (insert_in_order before x ys) ≡ weight z x + times z ys
  times-insert z x [] = sum_by-cons (weight z) x []
  times-insert z x (y ∷ ys) =
      elim (before y x) as (λ b. times z (cond b (y ∷ insert_in_order before x ys) (x ∷ y ∷ ys)) ≡ weight z x + times z (y ∷ ys)) [
        | true ↦ omega (arith, sum_by-cons (weight z) y (insert_in_order before x ys), times-insert z x ys, sum_by-cons (weight z) y ys)
        | false ↦ sum_by-cons (weight z) x (y ∷ ys)
      ]

  times-in_order : (z : A) (xs : List A) → times z (in_order before xs) ≡ times z xs
  times-in_order z [] = refl
  times-in_order z (x ∷ xs) = omega (arith, times-insert z x (in_order before xs), times-in_order z xs, sum_by-cons (weight z) x xs)

  -- ---- what a sort ensures

  tail-sorted : (x : A) (xs : List A) → IsSortedBy before (x ∷ xs) → IsSortedBy before xs
  tail-sorted x xs up = λ k d low high.
      let e : suc k + 1 ≡ suc (k + 1) = omega arith in
      subst (λ (n : ℕ). before (get_or (x ∷ xs) n d) (get_or xs k d) ≡ false) e (up (suc k) d (omega arith) (omega arith))

  all-later : (x : A) (xs : List A) → IsSortedBy before (x ∷ xs) → AllByRecursion (InOrder x) xs
  all-later x [] up = tt
  all-later x (y ∷ ys) up = (up 0 x (omega arith) (omega arith), All-later x y ys (up 0 x (omega arith) (omega arith)) (all-later y ys (tail-sorted x (y ∷ ys) up)))

  ascends : (xs : List A) → IsSortedBy before xs → Pairwise InOrder xs
  ascends [] up = tt
  ascends (x ∷ xs) up = (all-later x xs up, ascends xs (tail-sorted x xs up))

  -- what a sort gives is the items put in order
  pub sorted-in_order : (xs ys : List A) → IsPermutation xs ys → IsSorted R ys → ys ≡ in_order before xs
  sorted-in_order xs ys moved up =
      unique ys (in_order before xs) (ascends ys up) (in_order-ascends xs)
      (λ z. sum_by-IsPermutation (weight z) xs ys moved ∙ sym (times-in_order z xs))
