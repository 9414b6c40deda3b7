-- The places of ids, as they are put into slots one after another.
use Rattle.std.proofs.Common.{◌≡◌, ℕ, ◌+◌, ◌<◌, ◌≤◌, Bool, true, false, cond, eqb, List, [], ◌∷◌, ◌++◌, length, take, set, get_or, Option, Some, None, refl, sym, ap, ◌∙◌, ⊎_elim, suc, zero, arith}
use Rattle.std.proofs.lemmas.Bool.{cases_Bool, eqb-true, eqb-false, ne_eqb}
use Rattle.std.proofs.lemmas.List.{take_more, length-take, length-set, get_or-set_same, get_or-set_other}
use Rattle.std.specs.List.{AllByRecursion}
use Rattle.std.specs.List.Sorted.{IsStrictlyIncreasing}
use Rattle.csr_columns.proofs.Increasing.{increasing-less}
use Rattle.projected_arcs.specs.Places.{place_from, place_of, slot_at, as_place, no_place}

eqb-itself : (x : ℕ) → eqb x x ≡ true
eqb-itself x = ⊎_elim (λ (t : eqb x x ≡ true). t) (λ (f : eqb x x ≡ false). absurd (eqb-false x x f refl)) (cases_Bool (eqb x x))

-- an id behind those that are less has the last place
place-new : (first x : ℕ) (ids : List ℕ) → AllByRecursion (λ id. id < x) ids → place_from first (ids ++ x ∷ []) x ≡ Some (first + length ids)
place-new first x [] less = ap (λ b. cond b (Some first) None) (eqb-itself x) ∙ ap Some (omega arith)
place-new first x (y ∷ ids) less =
    ap (λ b. cond b (Some first) (place_from (first + 1) (ids ++ x ∷ []) x)) (ne_eqb y x (λ e. omega (arith, e, less.0)))
    ∙ place-new (first + 1) x ids less.1
    ∙ ap Some (omega arith)

-- an id behind them gives no other id a place
place-other : (first x id : ℕ) (ids : List ℕ) → eqb x id ≡ false → place_from first (ids ++ x ∷ []) id ≡ place_from first ids id
place-other first x id [] other = ap (λ b. cond b (Some first) None) other
place-other first x id (y ∷ ids) other = ap (λ rest. cond (eqb y id) (Some first) rest) (place-other (first + 1) x id ids other)

-- what holds at each place below i holds of the first i
all-taken : (P : ℕ → Type 0) (xs : List ℕ) (i : ℕ) → i ≤ length xs → ((j : ℕ) → j < i → P (get_or xs j 0)) → AllByRecursion P (take i xs)
all-taken P xs zero within at = tt
all-taken P [] (suc i) within at = absurd (omega arith)
all-taken P (x ∷ xs) (suc i) within at = (at 0 (omega arith), all-taken P xs i (omega arith) (λ j h. at (suc j) (omega arith)))

-- the ids before a place are less than the one that stands there
before-less : (ids : List ℕ) (i : ℕ) → IsStrictlyIncreasing ids → i < length ids → AllByRecursion (λ id. id < get_or ids i 0) (take i ids)
before-less ids i up within = all-taken (λ id. id < get_or ids i 0) ids i (omega arith) (λ j h. increasing-less ids j i h within up)

as_place-of : (i : ℕ) → i < no_place → as_place i ≡ Some i
as_place-of i below = ap (λ b. cond b None (Some i)) (ne_eqb i no_place (λ e. omega (arith, e, below)))

-- one more id has its place in its slot
pub place-put : (ids slots : List ℕ) (i below : ℕ) → IsStrictlyIncreasing ids → length ids < no_place → i < length ids → get_or ids i 0 < below → length slots ≡ below
    → ((id : ℕ) → slot_at slots id ≡ place_of (take i ids) id) → (id : ℕ) → slot_at (set slots (get_or ids i 0) i) id ≡ place_of (take (i + 1) ids) id
place-put ids slots i below up few within inside many placed id =
    let x = get_or ids i 0 in
    let more : take (i + 1) ids ≡ take i ids ++ x ∷ [] = take_more ids i 0 within in
    ⊎_elim
    (λ (is : eqb x id ≡ true).
    let e : x ≡ id = eqb-true x id is in
    rw (← e, more) (ap as_place (get_or-set_same slots x i no_place (omega arith))
    ∙ as_place-of i (omega arith)
    ∙ ap Some (omega (arith, length-take i ids))
    ∙ sym (place-new 0 x (take i ids) (before-less ids i up within))))
    (λ (other : eqb x id ≡ false).
    rw more (ap as_place (get_or-set_other slots x id i no_place (λ e. eqb-false x id other (sym e)))
    ∙ placed id
    ∙ sym (place-other 0 x id (take i ids) other)))
    (cases_Bool (eqb x id))
