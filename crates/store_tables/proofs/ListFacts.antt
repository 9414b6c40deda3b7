-- What holds of each item of a list, or of each two, through `map`, `filter` and `++`.
use Rattle.std.proofs.Common.{◌≡◌, Bool, true, false, cond, ◌||◌, List, [], ◌∷◌, ◌++◌, map, refl, ◌∙◌, ap}
use Rattle.std.specs.List.{AllByRecursion, filter, list_any}
use Rattle.graph_model.specs.Lists.{Pairwise}
use Rattle.store_tables.proofs.BoolFacts.{or-assoc}

-- what follows from a fact holds of each item where the fact does
pub AllByRecursion-weaker : {A : Type 0} (P Q : A → Type 0) (xs : List A) → ((x : A) → P x → Q x) → AllByRecursion P xs → AllByRecursion Q xs
AllByRecursion-weaker P Q [] weaker all = tt
AllByRecursion-weaker P Q (x ∷ xs) weaker all = (weaker x all.0, AllByRecursion-weaker P Q xs weaker all.1)

-- what holds of every item of a type
pub AllByRecursion-always : {A : Type 0} (P : A → Type 0) (xs : List A) → ((x : A) → P x) → AllByRecursion P xs
AllByRecursion-always P [] always = tt
AllByRecursion-always P (x ∷ xs) always = (always x, AllByRecursion-always P xs always)

-- two facts of each item
pub AllByRecursion-both : {A : Type 0} (P Q R : A → Type 0) (xs : List A) → ((x : A) → P x → Q x → R x) → AllByRecursion P xs → AllByRecursion Q xs → AllByRecursion R xs
AllByRecursion-both P Q R [] joins ps qs = tt
AllByRecursion-both P Q R (x ∷ xs) joins ps qs = (joins x ps.0 qs.0, AllByRecursion-both P Q R xs joins ps.1 qs.1)

pub AllByRecursion-++ : {A : Type 0} (P : A → Type 0) (xs ys : List A) → AllByRecursion P xs → AllByRecursion P ys → AllByRecursion P (xs ++ ys)
AllByRecursion-++ P [] ys xs_all ys_all = ys_all
AllByRecursion-++ P (x ∷ xs) ys xs_all ys_all = (xs_all.0, AllByRecursion-++ P xs ys xs_all.1 ys_all)

pub AllByRecursion-map : {A B : Type 0} (P : A → Type 0) (Q : B → Type 0) (f : A → B) (xs : List A) → ((x : A) → P x → Q (f x)) → AllByRecursion P xs → AllByRecursion Q (map f xs)
AllByRecursion-map P Q f [] keeps all = tt
AllByRecursion-map P Q f (x ∷ xs) keeps all = (keeps x all.0, AllByRecursion-map P Q f xs keeps all.1)

-- each item that passes a test has what holds of it and what the test says
pub AllByRecursion-filter : {A : Type 0} (p : A → Bool) (P Q : A → Type 0) (xs : List A) → ((x : A) → P x → p x ≡ true → Q x) → AllByRecursion P xs → AllByRecursion Q (filter p xs)
AllByRecursion-filter p P Q [] keeps all = tt
AllByRecursion-filter p P Q (x ∷ xs) keeps all =
    let rest = AllByRecursion-filter p P Q xs keeps all.1 in
    let cases : (b : Bool) → p x ≡ b → AllByRecursion Q (cond b (x ∷ filter p xs) (filter p xs)) =
    λ b. elim b as (λ v. p x ≡ v → AllByRecursion Q (cond v (x ∷ filter p xs) (filter p xs)))
    [ true ↦ λ passes. (keeps x all.0 passes, rest) | false ↦ λ fails. rest ] in
    cases (p x) refl

pub Pairwise-map : {A B : Type 0} (R : A → A → Type 0) (S : B → B → Type 0) (f : A → B) (xs : List A) → ((x y : A) → R x y → S (f x) (f y)) → Pairwise R xs → Pairwise S (map f xs)
Pairwise-map R S f [] keeps all = tt
Pairwise-map R S f (x ∷ xs) keeps all = (AllByRecursion-map (R x) (S (f x)) f xs (keeps x) all.0, Pairwise-map R S f xs keeps all.1)

pub Pairwise-filter : {A : Type 0} (R : A → A → Type 0) (p : A → Bool) (xs : List A) → Pairwise R xs → Pairwise R (filter p xs)
Pairwise-filter R p [] all = tt
Pairwise-filter R p (x ∷ xs) all =
    elim (p x) as (λ b. Pairwise R (cond b (x ∷ filter p xs) (filter p xs))) [
      | true ↦ (AllByRecursion-filter p (R x) (R x) xs (λ y related passes. related) all.0, Pairwise-filter R p xs all.1)
      | false ↦ Pairwise-filter R p xs all.1
    ]

pub Pairwise-++ : {A : Type 0} (R : A → A → Type 0) (P : A → Type 0) (xs ys : List A) → Pairwise R xs → Pairwise R ys → AllByRecursion P xs → ((x : A) → P x → AllByRecursion (R x) ys) → Pairwise R (xs ++ ys)
Pairwise-++ R P [] ys xs_all ys_all front across = ys_all
Pairwise-++ R P (x ∷ xs) ys xs_all ys_all front across =
    (AllByRecursion-++ (R x) xs ys xs_all.0 (across x front.0), Pairwise-++ R P xs ys xs_all.1 ys_all front.1 across)

pub list_any-map : {A B : Type 0} (p : B → Bool) (f : A → B) (xs : List A) → list_any p (map f xs) ≡ list_any (λ x. p (f x)) xs
list_any-map p f [] = refl
list_any-map p f (x ∷ xs) = ap (λ b. p (f x) || b) (list_any-map p f xs)

pub list_any-++ : {A : Type 0} (p : A → Bool) (xs ys : List A) → list_any p (xs ++ ys) ≡ (list_any p xs || list_any p ys)
list_any-++ p [] ys = refl
list_any-++ p (x ∷ xs) ys = ap (λ b. p x || b) (list_any-++ p xs ys) ∙ or-assoc (p x) (list_any p xs) (list_any p ys)
