-- Lists that are put in order, and items at places.
use Rattle.std.proofs.Common.{◌≡◌, ℕ, ◌+◌, ◌<◌, ◌≤◌, Bool, true, false, cond, List, [], ◌∷◌, ◌++◌, length, map, get_or, refl, sym, ap, ◌∙◌, suc, zero, arith}
use Rattle.std.specs.List.{AllByRecursion, filter}
use Rattle.graph_model.specs.Lists.{Pairwise, insert_in_order, in_order}

-- the item behind a front
pub at-middle : {A : Type 0} (front : List A) (x : A) (back : List A) (d : A) → get_or (front ++ x ∷ back) (length front) d ≡ x
at-middle [] x back d = refl
at-middle (y ∷ front) x back d = at-middle front x back d

pub map-at-middle : {A B : Type 0} (f : A → B) (front : List A) (x : A) (back : List A) (d : B) → get_or (map f (front ++ x ∷ back)) (length front) d ≡ f x
map-at-middle f [] x back d = refl
map-at-middle f (y ∷ front) x back d = map-at-middle f front x back d

pub length-push : {A : Type 0} (front : List A) (x : A) → length (front ++ x ∷ []) ≡ length front + 1
length-push [] x = refl
length-push (y ∷ front) x = omega (arith, length-push front x)

pub push-front : {A : Type 0} (front : List A) (x : A) (back : List A) → (front ++ x ∷ []) ++ back ≡ front ++ x ∷ back
push-front [] x back = refl
push-front (y ∷ front) x back = ap (λ rest. y ∷ rest) (push-front front x back)

pub All-at : {A : Type 0} (P : A → Type 0) (xs : List A) (k : ℕ) (d : A) → k < length xs → AllByRecursion P xs → P (get_or xs k d)
All-at P [] k d h all = absurd (omega arith)
All-at P (x ∷ xs) zero d h all = all.0
All-at P (x ∷ xs) (suc k) d h all = All-at P xs k d (omega arith) all.1

-- what relates each item to every later one relates the items at two places
pub Pairwise-at : {A : Type 0} (R : A → A → Type 0) (xs : List A) (i j : ℕ) (d : A) → i < j → j < length xs → Pairwise R xs → R (get_or xs i d) (get_or xs j d)
Pairwise-at R [] i j d h within pairs = absurd (omega arith)
Pairwise-at R (x ∷ xs) zero zero d h within pairs = absurd (omega arith)
Pairwise-at R (x ∷ xs) zero (suc j) d h within pairs = All-at (R x) xs j d (omega arith) pairs.0
Pairwise-at R (x ∷ xs) (suc i) zero d h within pairs = absurd (omega arith)
Pairwise-at R (x ∷ xs) (suc i) (suc j) d h within pairs = Pairwise-at R xs i j d (omega arith) (omega arith) pairs.1

pub All-filter : {A : Type 0} (P : A → Type 0) (p : A → Bool) (xs : List A) → AllByRecursion P xs → AllByRecursion P (filter p xs)
All-filter P p [] all = tt
All-filter P p (x ∷ xs) all =
    elim (p x) as (λ b. AllByRecursion P (cond b (x ∷ filter p xs) (filter p xs))) [ true ↦ (all.0, All-filter P p xs all.1) | false ↦ All-filter P p xs all.1 ]

pub Pairwise-filter : {A : Type 0} (R : A → A → Type 0) (p : A → Bool) (xs : List A) → Pairwise R xs → Pairwise R (filter p xs)
Pairwise-filter R p [] pairs = tt
Pairwise-filter R p (x ∷ xs) pairs =
    elim (p x) as (λ b. Pairwise R (cond b (x ∷ filter p xs) (filter p xs)))
    [ true ↦ (All-filter (R x) p xs pairs.0, Pairwise-filter R p xs pairs.1) | false ↦ Pairwise-filter R p xs pairs.1 ]

All-inserted : {A : Type 0} (before : A → A → Bool) (P : A → Type 0) (x : A) (ys : List A) → P x → AllByRecursion P ys → AllByRecursion P (insert_in_order before x ys)
All-inserted before P x [] px all = (px, tt)
All-inserted before P x (y ∷ ys) px all =
    elim (before y x) as (λ b. AllByRecursion P (cond b (y ∷ insert_in_order before x ys) (x ∷ y ∷ ys)))
    [ true ↦ (all.0, All-inserted before P x ys px all.1) | false ↦ (px, all) ]

pub All-in_order : {A : Type 0} (before : A → A → Bool) (P : A → Type 0) (xs : List A) → AllByRecursion P xs → AllByRecursion P (in_order before xs)
All-in_order before P [] all = tt
All-in_order before P (x ∷ xs) all = All-inserted before P x (in_order before xs) all.0 (All-in_order before P xs all.1)

-- items whose images are ordered as they are
module _ {A B : Type 0} (f : A → B) (before : A → A → Bool) (after : B → B → Bool) (Q : A → Type 0) (agree : (a b : A) → Q a → Q b → after (f a) (f b) ≡ before a b) where
  insert-map : (x : A) (ys : List A) → Q x → AllByRecursion Q ys → insert_in_order after (f x) (map f ys) ≡ map f (insert_in_order before x ys)
  insert-map x [] qx all = refl
  insert-map x (y ∷ ys) qx all =
      ap (λ b. cond b (f y ∷ insert_in_order after (f x) (map f ys)) (f x ∷ f y ∷ map f ys)) (agree y x all.0 qx)
      ∙ elim (before y x) as (λ b. cond b (f y ∷ insert_in_order after (f x) (map f ys)) (f x ∷ f y ∷ map f ys) ≡ map f (cond b (y ∷ insert_in_order before x ys) (x ∷ y ∷ ys)))
      [ true ↦ ap (λ rest. f y ∷ rest) (insert-map x ys qx all.1) | false ↦ refl ]

  pub in_order-map : (xs : List A) → AllByRecursion Q xs → in_order after (map f xs) ≡ map f (in_order before xs)
  in_order-map [] all = refl
  in_order-map (x ∷ xs) all =
      ap (insert_in_order after (f x)) (in_order-map xs all.1) ∙ insert-map x (in_order before xs) all.0 (All-in_order before Q xs all.1)
