-- Slots, the elements in them, and what an edit of a slot changes.
use Rattle.std.proofs.Common.{◌≡◌, ◌≢◌, ℕ, ◌+◌, ◌<◌, Bool, true, false, cond, eqb, List, [], ◌∷◌, ◌++◌, length, map, set, take, drop, get_or, Option, Some, None, IfSome, is_some, unwrap_or, refl, sym, ◌∙◌, ap, subst, suc, zero, zero-add, arith}
use Rattle.std.specs.List.{cons_option, filter, find, list_any, slice_get, sum_by}
use Rattle.std.specs.Option.{option_map}
use Rattle.std.proofs.lemmas.Grind.{common_steps}
use Rattle.std.proofs.lemmas.List.{append_assoc, drop_more, get_or_at, length-map, length-take-le, map_more, set_at}
use Rattle.std.proofs.lemmas.List.Sums.{sum_by-cons, sum_by-set}
use Rattle.std.proofs.lemmas.Option.{unwrap_or-slice_get}
use Rattle.std.proofs.lemmas.Bool.{eq-eqb, ne_eqb}
use Rattle.store_tables.specs.Slots.{slot_at, living, IsNumbered, kept, slot_count}

-- ---- the elements that live

pub living-++ : {A : Type 0} (xs ys : List (Option A)) → living (xs ++ ys) ≡ living xs ++ living ys
living-++ [] ys = refl
living-++ (None ∷ xs) ys = living-++ xs ys
living-++ (Some x ∷ xs) ys = ap (λ rest. x ∷ rest) (living-++ xs ys)

pub living-map_Some : {A : Type 0} (xs : List A) → living (map Some xs) ≡ xs
living-map_Some [] = refl
living-map_Some (x ∷ xs) = ap (λ rest. x ∷ rest) (living-map_Some xs)

pub living-map : {A : Type 0} (f : A → A) (slots : List (Option A)) → living (map (option_map f) slots) ≡ map f (living slots)
living-map f [] = refl
living-map f (None ∷ slots) = living-map f slots
living-map f (Some x ∷ slots) = ap (λ rest. f x ∷ rest) (living-map f slots)

pub living-kept : {A : Type 0} (p : A → Bool) (slots : List (Option A)) → living (map (kept p) slots) ≡ filter p (living slots)
living-kept p [] = refl
living-kept p (None ∷ slots) = living-kept p slots
living-kept p (Some x ∷ slots) =
    elim (p x) as (λ b. living (cond b (Some x) None ∷ map (kept p) slots) ≡ cond b (x ∷ filter p (living slots)) (filter p (living slots)))
    [ true ↦ ap (λ rest. x ∷ rest) (living-kept p slots) | false ↦ living-kept p slots ]

-- the first slot of those that are left
pub living_drop_more : {A : Type 0} (slots : List (Option A)) (row : ℕ) → row < length slots → living (drop row slots) ≡ cons_option (slot_at slots row) (living (drop (row + 1) slots))
living_drop_more slots row within = ap living (drop_more slots row None within)

-- ---- an element is found under its id

pub slot_at-slice_get : {A : Type 0} (slots : List (Option A)) (id : ℕ) → slot_at slots id ≡ unwrap_or (slice_get slots id) None
slot_at-slice_get slots id = sym (unwrap_or-slice_get slots id None)

-- no element of these slots has an id below theirs
pub find-below : {A : Type 0} (id_of : A → ℕ) (slots : List (Option A)) (first id : ℕ) → IsNumbered id_of first slots → id < first → find (λ x. eqb (id_of x) id) (living slots) ≡ None
find-below id_of [] first id numbered below = refl
find-below id_of (None ∷ slots) first id numbered below = find-below id_of slots (first + 1) id numbered.1 (omega arith)
find-below id_of (Some x ∷ slots) first id numbered below =
    let differs : eqb (id_of x) id ≡ false = ne_eqb _ _ (λ same. omega (arith, numbered.0)) in
    rw differs (find-below id_of slots (first + 1) id numbered.1 (omega arith))

-- an element is found exactly under its id
pub find-living : {A : Type 0} (id_of : A → ℕ) (slots : List (Option A)) (first place id : ℕ) → IsNumbered id_of first slots → id ≡ first + place → find (λ x. eqb (id_of x) id) (living slots) ≡ slot_at slots place
find-living id_of [] first place id numbered is = refl
find-living id_of (None ∷ slots) first zero id numbered is = find-below id_of slots (first + 1) id numbered.1 (omega arith)
find-living id_of (None ∷ slots) first (suc place) id numbered is = find-living id_of slots (first + 1) place id numbered.1 (omega arith)
find-living id_of (Some x ∷ slots) first zero id numbered is =
    let same : eqb (id_of x) id ≡ true = eq-eqb _ _ (omega (arith, numbered.0)) in
    rw same refl
find-living id_of (Some x ∷ slots) first (suc place) id numbered is =
    let differs : eqb (id_of x) id ≡ false = ne_eqb _ _ (λ same. omega (arith, numbered.0)) in
    rw differs (find-living id_of slots (first + 1) place id numbered.1 (omega arith))

-- whether some item passes a test is whether one is found
pub list_any-find : {A : Type 0} (p : A → Bool) (xs : List A) → list_any p xs ≡ is_some (find p xs)
list_any-find p [] = refl
list_any-find p (x ∷ xs) = grind (arith, common_steps, list_any-find p xs)

-- ---- what keeps elements under their ids

-- the same slots, numbered from the same id
pub IsNumbered-from : {A : Type 0} (id_of : A → ℕ) (slots : List (Option A)) (first other : ℕ) → first ≡ other → IsNumbered id_of first slots → IsNumbered id_of other slots
IsNumbered-from id_of slots first other same numbered = subst (λ (k : ℕ). IsNumbered id_of k slots) same numbered

-- an element of the right id is put into a slot
pub IsNumbered-set : {A : Type 0} (id_of : A → ℕ) (slots : List (Option A)) (first place id : ℕ) (slot : Option A) → IsNumbered id_of first slots → id ≡ first + place → IfSome slot (λ x. id_of x ≡ id) → IsNumbered id_of first (set slots place slot)
IsNumbered-set id_of [] first place id slot numbered is same = tt
IsNumbered-set id_of (s ∷ slots) first zero id None numbered is same = (tt, numbered.1)
IsNumbered-set id_of (s ∷ slots) first zero id (Some x) numbered is same = (omega (arith, same), numbered.1)
IsNumbered-set id_of (s ∷ slots) first (suc place) id slot numbered is same =
    (numbered.0, IsNumbered-set id_of slots (first + 1) place id slot numbered.1 (omega arith) same)

pub IsNumbered-++ : {A : Type 0} (id_of : A → ℕ) (xs ys : List (Option A)) (first next : ℕ) → IsNumbered id_of first xs → next ≡ first + length xs → IsNumbered id_of next ys → IsNumbered id_of first (xs ++ ys)
IsNumbered-++ id_of [] ys first next xs_numbered is ys_numbered = IsNumbered-from id_of ys next first (omega arith) ys_numbered
IsNumbered-++ id_of (x ∷ xs) ys first next xs_numbered is ys_numbered =
    (xs_numbered.0, IsNumbered-++ id_of xs ys (first + 1) next xs_numbered.1 (omega arith) ys_numbered)

-- an edit of each element that leaves its id
pub IsNumbered-map : {A : Type 0} (id_of : A → ℕ) (f : A → A) (slots : List (Option A)) (first : ℕ) → ((x : A) → id_of (f x) ≡ id_of x) → IsNumbered id_of first slots → IsNumbered id_of first (map (option_map f) slots)
IsNumbered-map id_of f [] first same numbered = tt
IsNumbered-map id_of f (None ∷ slots) first same numbered = (tt, IsNumbered-map id_of f slots (first + 1) same numbered.1)
IsNumbered-map id_of f (Some x ∷ slots) first same numbered = (same x ∙ numbered.0, IsNumbered-map id_of f slots (first + 1) same numbered.1)

-- some elements go
pub IsNumbered-kept : {A : Type 0} (id_of : A → ℕ) (p : A → Bool) (slots : List (Option A)) (first : ℕ) → IsNumbered id_of first slots → IsNumbered id_of first (map (kept p) slots)
IsNumbered-kept id_of p [] first numbered = tt
IsNumbered-kept id_of p (None ∷ slots) first numbered = (tt, IsNumbered-kept id_of p slots (first + 1) numbered.1)
IsNumbered-kept id_of p (Some x ∷ slots) first numbered = (
  elim (p x) as (λ b. IfSome (cond b (Some x) None) (λ y. id_of y ≡ first)) [ true ↦ numbered.0 | false ↦ tt ],
  IsNumbered-kept id_of p slots (first + 1) numbered.1,
)

-- what stands under an id has that id
pub id-at : {A : Type 0} (id_of : A → ℕ) (slots : List (Option A)) (first place : ℕ) (x : A) → IsNumbered id_of first slots → slot_at slots place ≡ Some x → id_of x ≡ first + place
id-at id_of [] first place x numbered is = cc
id-at id_of (slot ∷ slots) first zero x numbered is =
    let there : IfSome (Some x) (λ y. id_of y ≡ first) = rw is at numbered.0 in omega (arith, there)
id-at id_of (slot ∷ slots) first (suc place) x numbered is = omega (arith, id-at id_of slots (first + 1) place x numbered.1 is)

-- ---- how much stands in the slots

pub sum_by-living : {A : Type 0} (count : A → ℕ) (slots : List (Option A)) → sum_by count (living slots) ≡ sum_by (slot_count count) slots
sum_by-living count [] = refl
sum_by-living count (None ∷ slots) = rw sum_by-cons (rw zero-add (sum_by-living count slots))
sum_by-living count (Some x ∷ slots) =
    sum_by-cons count x (living slots) ∙ ap (λ n. count x + n) (sum_by-living count slots) ∙ sym (sum_by-cons (slot_count count) (Some x) slots)

-- one of each
pub sum_by-ones : {A : Type 0} (xs : List A) → sum_by (λ _. 1) xs ≡ length xs
sum_by-ones [] = refl
sum_by-ones (x ∷ xs) = omega (arith, sum_by-cons (λ _. 1) x xs, sum_by-ones xs)

-- an element stands under an id that was given
pub slot_at-within : {A : Type 0} (slots : List (Option A)) (id : ℕ) (x : A) → slot_at slots id ≡ Some x → id < length slots
slot_at-within [] id x is = cc
slot_at-within (slot ∷ slots) zero x is = omega arith
slot_at-within (slot ∷ slots) (suc id) x is = omega (arith, slot_at-within slots id x is)

-- an element takes another's slot
pub sum_by-set_slot : {A : Type 0} (count : A → ℕ) (slots : List (Option A)) (id : ℕ) (x y : A) → slot_at slots id ≡ Some x → sum_by (slot_count count) (set slots id (Some y)) + count x ≡ sum_by (slot_count count) slots + count y
sum_by-set_slot count slots id x y is =
    let whole = sum_by-set (slot_count count) slots id (Some y) None (slot_at-within slots id x is) in rw is at whole

-- an element goes
pub sum_by-set_none : {A : Type 0} (count : A → ℕ) (slots : List (Option A)) (id : ℕ) (x : A) → slot_at slots id ≡ Some x → sum_by (slot_count count) (set slots id None) + count x ≡ sum_by (slot_count count) slots
sum_by-set_none count slots id x is =
    let whole = sum_by-set (slot_count count) slots id None None (slot_at-within slots id x is) in
    let gone = rw is at whole in omega (arith, gone)

-- ---- one slot after another is edited

-- two edits that differ under one id alone give the same of slots past it
pub map-past : {A : Type 0} (id_of : A → ℕ) (f g : Option A → Option A) (slots : List (Option A)) (first id : ℕ) → IsNumbered id_of first slots → id < first → f None ≡ g None → ((x : A) → id_of x ≢ id → f (Some x) ≡ g (Some x)) → map f slots ≡ map g slots
map-past id_of f g [] first id numbered past none others = refl
map-past id_of f g (None ∷ slots) first id numbered past none others =
    let rest = map-past id_of f g slots (first + 1) id numbered.1 (omega arith) none others in cc
map-past id_of f g (Some x ∷ slots) first id numbered past none others =
    let rest = map-past id_of f g slots (first + 1) id numbered.1 (omega arith) none others in
    let here = others x (λ same. omega (arith, numbered.0)) in cc

-- a slot is edited where all before it were edited already: what edits the elements now differs from what edited them
-- before at that slot alone
pub set-map : {A : Type 0} (id_of : A → ℕ) (f g : Option A → Option A) (slots : List (Option A)) (first place id : ℕ) (slot : Option A) → IsNumbered id_of first slots → id ≡ first + place → f None ≡ g None → ((x : A) → id_of x ≢ id → f (Some x) ≡ g (Some x)) → (place < length slots → slot ≡ g (slot_at slots place)) → set (map f slots) place slot ≡ map g slots
set-map id_of f g [] first place id slot numbered is none others this = refl
set-map id_of f g (s ∷ slots) first zero id slot numbered is none others this =
    let rest = map-past id_of f g slots (first + 1) id numbered.1 (omega arith) none others in
    let here = this (omega arith) in cc
set-map id_of f g (None ∷ slots) first (suc place) id slot numbered is none others this =
    let rest = set-map id_of f g slots (first + 1) place id slot numbered.1 (omega arith) none others (λ within. this (omega arith)) in cc
set-map id_of f g (Some x ∷ slots) first (suc place) id slot numbered is none others this =
    let rest = set-map id_of f g slots (first + 1) place id slot numbered.1 (omega arith) none others (λ within. this (omega arith)) in
    let here = others x (λ same. omega (arith, numbered.0)) in cc

-- the next slot is edited, where those before it were
pub set-front : {A : Type 0} (f : A → A) (xs : List A) (row : ℕ) (default : A) → row < length xs → set (map f (take row xs) ++ drop row xs) row (f (get_or xs row default)) ≡ map f (take (row + 1) xs) ++ drop (row + 1) xs
set-front f xs row default within =
    let front = map f (take row xs) in
    let item = get_or xs row default in
    let long : length front ≡ row = length-map (take row xs) f ∙ length-take-le row xs (omega arith) in
    rw (drop_more xs row default within, map_more f xs row default within)
    (set_at front item (drop (row + 1) xs) (f item) row long ∙ sym (append_assoc front (f item ∷ []) (drop (row + 1) xs)))

-- the next slot is as it was, where those before it were edited
pub get_or-front : {A : Type 0} (f : A → A) (xs : List A) (row : ℕ) (default : A) → row < length xs → get_or (map f (take row xs) ++ drop row xs) row default ≡ get_or xs row default
get_or-front f xs row default within =
    let front = map f (take row xs) in
    let long : length front ≡ row = length-map (take row xs) f ∙ length-take-le row xs (omega arith) in
    rw (drop_more xs row default within) (get_or_at front (get_or xs row default) (drop (row + 1) xs) default row long)
