-- Lists of which something holds of each item, or between each two items.
use Rattle.std.proofs.Common.{◌≡◌, Bool, true, false, ◌||◌, List, [], ◌∷◌, ◌++◌, map, Option, Some, None, refl}
use Rattle.std.specs.List.{AllByRecursion, filter, list_any, find, flat_map}
use Rattle.std.proofs.lemmas.Bool.{cases_Bool}
use Rattle.std.proofs.Common.{inl, inr}
use Rattle.graph_model.specs.Lists.{Pairwise, first_there}

module _ {A : Type 0} where
  pub All-map_fact : {P Q : A → Type 0} (xs : List A) → ((x : A) → P x → Q x) → AllByRecursion P xs → AllByRecursion Q xs
  All-map_fact [] f all = tt
  All-map_fact (x ∷ xs) f all = (f x all.0, All-map_fact xs f all.1)

  pub All-append : (P : A → Type 0) (xs ys : List A) → AllByRecursion P xs → AllByRecursion P ys → AllByRecursion P (xs ++ ys)
  All-append P [] ys all more = more
  All-append P (x ∷ xs) ys all more = (all.0, All-append P xs ys all.1 more)

  pub All-front : (P : A → Type 0) (xs ys : List A) → AllByRecursion P (xs ++ ys) → AllByRecursion P xs
  All-front P [] ys all = tt
  All-front P (x ∷ xs) ys all = (all.0, All-front P xs ys all.1)

  pub All-back : (P : A → Type 0) (xs ys : List A) → AllByRecursion P (xs ++ ys) → AllByRecursion P ys
  All-back P [] ys all = all
  All-back P (x ∷ xs) ys all = All-back P xs ys all.1

  pub All-both : (P Q : A → Type 0) (xs : List A) → AllByRecursion P xs → AllByRecursion Q xs → AllByRecursion (λ x. P x × Q x) xs
  All-both P Q [] p q = tt
  All-both P Q (x ∷ xs) p q = ((p.0, q.0), All-both P Q xs p.1 q.1)

  -- what follows of each item that passes a test holds of those that pass it
  pub All-filter : (P : A → Type 0) (test : A → Bool) (xs : List A) → AllByRecursion (λ x. test x ≡ true → P x) xs → AllByRecursion P (filter test xs)
  All-filter P test [] all = tt
  All-filter P test (x ∷ xs) all =
      elim (cases_Bool (test x)) [
        | inl passes ↦ rw passes (all.0 passes, All-filter P test xs all.1)
        | inr fails ↦ rw fails (All-filter P test xs all.1)
      ]

  pub All-kept : (P : A → Type 0) (test : A → Bool) (xs : List A) → AllByRecursion P xs → AllByRecursion P (filter test xs)
  All-kept P test xs all = All-filter P test xs (All-map_fact xs (λ x p _. p) all)

  pub Pairwise-kept : (R : A → A → Type 0) (test : A → Bool) (xs : List A) → Pairwise R xs → Pairwise R (filter test xs)
  Pairwise-kept R test [] pairs = tt
  Pairwise-kept R test (x ∷ xs) pairs =
      elim (cases_Bool (test x)) [
        | inl passes ↦ rw passes (All-kept (R x) test xs pairs.0, Pairwise-kept R test xs pairs.1)
        | inr fails ↦ rw fails (Pairwise-kept R test xs pairs.1)
      ]

  pub Pairwise-append : (R : A → A → Type 0) (xs ys : List A) → Pairwise R xs → Pairwise R ys → AllByRecursion (λ x. AllByRecursion (R x) ys) xs → Pairwise R (xs ++ ys)
  Pairwise-append R [] ys first second across = second
  Pairwise-append R (x ∷ xs) ys first second across = (All-append (R x) xs ys first.0 across.0, Pairwise-append R xs ys first.1 second across.1)

  pub list_any-append : (test : A → Bool) (xs ys : List A) → list_any test (xs ++ ys) ≡ (list_any test xs || list_any test ys)
  list_any-append test [] ys = refl
  list_any-append test (x ∷ xs) ys = elim (test x) as (λ b. (b || list_any test (xs ++ ys)) ≡ ((b || list_any test xs) || list_any test ys)) [ true ↦ refl | false ↦ list_any-append test xs ys ]

  pub list_any-kept : (test keeps : A → Bool) (xs : List A) → list_any test xs ≡ false → list_any test (filter keeps xs) ≡ false
  list_any-kept test keeps [] none = refl
  list_any-kept test keeps (x ∷ xs) none =
      elim (cases_Bool (test x)) [
        | inl passes ↦ absurd (let e = rw passes at none in cc)
        | inr fails ↦ elim (cases_Bool (keeps x)) [
          | inl kept ↦ rw (kept, fails) (list_any-kept test keeps xs (rw fails at none))
          | inr gone ↦ rw gone (list_any-kept test keeps xs (rw fails at none))
        ]
      ]

  -- none of the items passes a test that finds none
  pub find-none : (test : A → Bool) (xs : List A) → find test xs ≡ None → AllByRecursion (λ x. test x ≡ false) xs
  find-none test [] none = tt
  find-none test (x ∷ xs) none =
      elim (cases_Bool (test x)) [
        | inl passes ↦ absurd (let e = rw passes at none in cc)
        | inr fails ↦ (fails, find-none test xs (rw fails at none))
      ]

  pub first_there-none : (a b : Option A) → first_there a b ≡ None → (a ≡ None) × (b ≡ None)
  first_there-none None b none = (refl, none)
  first_there-none (Some x) b none = absurd cc

module _ {A B : Type 0} where
  pub All-map : (P : B → Type 0) (f : A → B) (xs : List A) → AllByRecursion (λ x. P (f x)) xs → AllByRecursion P (map f xs)
  All-map P f [] all = tt
  All-map P f (x ∷ xs) all = (all.0, All-map P f xs all.1)

  pub Pairwise-map : (R : B → B → Type 0) (f : A → B) (xs : List A) → Pairwise (λ x y. R (f x) (f y)) xs → Pairwise R (map f xs)
  Pairwise-map R f [] pairs = tt
  Pairwise-map R f (x ∷ xs) pairs = (All-map (R (f x)) f xs pairs.0, Pairwise-map R f xs pairs.1)

  -- what holds of each item of all lists holds of those of each
  pub All-flat_map : (P : B → Type 0) (f : A → List B) (xs : List A) → AllByRecursion P (flat_map f xs) → AllByRecursion (λ x. AllByRecursion P (f x)) xs
  All-flat_map P f [] all = tt
  All-flat_map P f (x ∷ xs) all = (All-front P (f x) (flat_map f xs) all, All-flat_map P f xs (All-back P (f x) (flat_map f xs) all))
