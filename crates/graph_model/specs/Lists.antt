-- Words on lists that the graph's definitions share.
use Rattle.std.specs.Prelude.{Bool, if◌then◌else◌, List, [], ◌∷◌, ◌++◌, filter, Option, Some, None}
use Rattle.std.specs.List.{AllByRecursion}
use Rattle.std.specs.Ordering.{is_lt}
use Rattle.std.specs.declared.cmp.Ordering.{Ordering}

-- each item stands in this relation to every later one
abbrev pub Pairwise : {A : Type 0} → (A → A → Type 0) → List A → Type 0
Pairwise R [] = Unit {0}
Pairwise R (x ∷ xs) = AllByRecursion (R x) xs × Pairwise R xs

-- an item put before the first one that doesn't come before it
abbrev pub insert_in_order : {A : Type 0} → (A → A → Bool) → A → List A → List A
insert_in_order before x [] = x ∷ []
insert_in_order before x (y ∷ ys) = if before y x then y ∷ insert_in_order before x ys else x ∷ y ∷ ys

-- the items in order
abbrev pub in_order : {A : Type 0} → (A → A → Bool) → List A → List A
in_order before [] = []
in_order before (x ∷ xs) = insert_in_order before x (in_order before xs)

-- the first of two that is there
abbrev pub first_there : {A : Type 0} → Option A → Option A → Option A
first_there None other = other
first_there (Some x) other = Some x

-- an item put at its place among items in this order: behind those before it, and in front of those behind it
abbrev pub placed : {A : Type 0} → (A → A → Ordering) → A → List A → List A
placed order x xs = filter (λ y. is_lt (order y x)) xs ++ x ∷ filter (λ y. is_lt (order x y)) xs
