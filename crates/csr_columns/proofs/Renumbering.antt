-- Kept nodes have the ids at their new places.
use Rattle.std.proofs.Common.{◌≡◌, ℕ, ℤ, ◌+◌, ◌<◌, ◌≤◌, Bool, true, false, ◌&&◌, eqb, List, [], ◌∷◌, length, get_or, Option, Some, None, refl, sym, ap, ◌∙◌, zero, suc, arith}
use Rattle.std.specs.List.{AllByRecursion}
use Rattle.std.proofs.lemmas.Bool.{ne_eqb, eq-eqb, eqb-true}
use Rattle.csr_columns.specs.Keeping.{HasPlacesBelow, kept_of, renumbered, new_place, both_ends, beside_arc}
use Rattle.csr_columns.specs.ViewParts.{bare_arc, heavy_arc}
use Rattle.csr_columns.specs.Order.{itself, arc_beside}
use Rattle.csr_columns.proofs.Increasing.{Ascends, All-at}
use Rattle.csr_columns.proofs.ViewArcs.{IsTaken}

-- what all have, the kept ones have
All-kept : (P : ℕ → Type 0) (flags : List Bool) (xs : List ℕ) → AllByRecursion P xs → AllByRecursion P (kept_of flags xs)
All-kept P [] xs all = tt
All-kept P (flag ∷ flags) [] all = tt
All-kept P (true ∷ flags) (x ∷ xs) all = (all.0, All-kept P flags xs all.1)
All-kept P (false ∷ flags) (x ∷ xs) all = All-kept P flags xs all.1

pub Ascends-kept : (flags : List Bool) (xs : List ℕ) → Ascends xs → Ascends (kept_of flags xs)
Ascends-kept [] xs up = tt
Ascends-kept (flag ∷ flags) [] up = tt
Ascends-kept (true ∷ flags) (x ∷ xs) up = (All-kept (λ y. x < y) flags xs up.0, Ascends-kept flags xs up.1)
Ascends-kept (false ∷ flags) (x ∷ xs) up = Ascends-kept flags xs up.1

pub length-kept : {A : Type 0} (flags : List Bool) (xs : List A) → length (kept_of flags xs) ≤ length xs
length-kept [] xs = omega arith
length-kept (flag ∷ flags) [] = omega arith
length-kept (true ∷ flags) (x ∷ xs) = omega (arith, length-kept flags xs)
length-kept (false ∷ flags) (x ∷ xs) = omega (arith, length-kept flags xs)

-- the new place of a node is that of its id among the kept ones, counted from n
abbrev pub HasPlace : ℕ → List ℕ → Option ℕ → ℕ → Type 0
HasPlace n ids None id = (i : ℕ) → i < length ids → eqb id (get_or ids i 0) ≡ false
HasPlace n ids (Some place) id = (n ≤ place) × (place < n + length ids) × ((i : ℕ) → i < length ids → eqb id (get_or ids i 0) ≡ eqb place (n + i))

-- an id less in front
later_place : (n x id : ℕ) (ids : List ℕ) (place : Option ℕ) → x < id → HasPlace (n + 1) ids place id → HasPlace n (x ∷ ids) place id
later_place n x id ids None less has = λ i h. at i h
  where
    at : (i : ℕ) → i < length (x ∷ ids) → eqb id (get_or (x ∷ ids) i 0) ≡ false
    at zero h = ne_eqb id x (omega arith)
    at (suc i) h = has i (omega arith)
later_place n x id ids (Some place) less has = (omega arith, omega arith, λ i h. at i h)
  where
    at : (i : ℕ) → i < length (x ∷ ids) → eqb id (get_or (x ∷ ids) i 0) ≡ eqb place (n + i)
    at zero h = ne_eqb id x (omega arith) ∙ sym (ne_eqb place (n + 0) (omega arith))
    at (suc i) h = has.2 i (omega arith) ∙ ap (λ (m : ℕ). eqb place m) (omega arith)

-- an id that is less than all
no_place : (id : ℕ) (ids : List ℕ) → AllByRecursion (λ y. id < y) ids → (i : ℕ) → i < length ids → eqb id (get_or ids i 0) ≡ false
no_place id ids below i h = ne_eqb id (get_or ids i 0) (let less : id < get_or ids i 0 = All-at (λ y. id < y) ids i h below in omega arith)

pub HasPlace-kept : (n : ℕ) (flags : List Bool) (ids : List ℕ) (v : ℕ) → length flags ≡ length ids → v < length ids → Ascends ids → HasPlace n (kept_of flags ids) (new_place (renumbered n flags) v) (get_or ids v 0)
HasPlace-kept n [] [] v long h up = absurd (omega arith)
HasPlace-kept n [] (x ∷ ids) v long h up = absurd (omega arith)
HasPlace-kept n (flag ∷ flags) [] v long h up = absurd (omega arith)
HasPlace-kept n (true ∷ flags) (x ∷ ids) zero long h up = (omega arith, omega arith, λ i i_in. at i i_in)
  where
    at : (i : ℕ) → i < length (x ∷ kept_of flags ids) → eqb x (get_or (x ∷ kept_of flags ids) i 0) ≡ eqb n (n + i)
    at zero i_in = eq-eqb x x refl ∙ sym (eq-eqb n (n + 0) (omega arith))
    at (suc i) i_in = no_place x (kept_of flags ids) (All-kept (λ y. x < y) flags ids up.0) i (omega arith) ∙ sym (ne_eqb n (n + suc i) (omega arith))
HasPlace-kept n (true ∷ flags) (x ∷ ids) (suc v) long h up =
    later_place n x (get_or ids v 0) (kept_of flags ids) (new_place (renumbered (n + 1) flags) v) (All-at (λ y. x < y) ids v (omega arith) up.0)
    (HasPlace-kept (n + 1) flags ids v (omega arith) (omega arith) up.1)
HasPlace-kept n (false ∷ flags) (x ∷ ids) zero long h up = no_place x (kept_of flags ids) (All-kept (λ y. x < y) flags ids up.0)
HasPlace-kept n (false ∷ flags) (x ∷ ids) (suc v) long h up = HasPlace-kept n flags ids v (omega arith) (omega arith) up.1

-- the id at the new place
id_at : (ids : List ℕ) (place id : ℕ) → HasPlace 0 ids (Some place) id → get_or ids place 0 ≡ id
id_at ids place id has = sym (eqb-true id (get_or ids place 0) (has.2 place (omega (arith, has.1)) ∙ eq-eqb place (0 + place) (omega arith)))

-- a test that fails on the right
fails-right : (a : Bool) → (a && false) ≡ false
fails-right true = refl
fails-right false = refl

-- an arc between old places is taken over where both its ends get new ones
module _ (old new : List ℕ) (arc : ℕ × ℕ) where
  -- what the test for its ends says
  joined : (a b i j : ℕ) → HasPlace 0 new (Some a) (get_or old arc.0 0) → HasPlace 0 new (Some b) (get_or old arc.1 0) → i < length new → j < length new → (eqb (get_or old arc.0 0) (get_or new i 0) && eqb (get_or old arc.1 0) (get_or new j 0)) ≡ (eqb a i && eqb b j)
  joined a b i j s t i_in j_in =
      let first : eqb (get_or old arc.0 0) (get_or new i 0) ≡ eqb a i = s.2 i i_in ∙ ap (λ (m : ℕ). eqb a m) (omega arith) in
      let second : eqb (get_or old arc.1 0) (get_or new j 0) ≡ eqb b j = t.2 j j_in ∙ ap (λ (m : ℕ). eqb b m) (omega arith) in
      cc

  left-source : (i j : ℕ) → HasPlace 0 new None (get_or old arc.0 0) → i < length new → (eqb (get_or old arc.0 0) (get_or new i 0) && eqb (get_or old arc.1 0) (get_or new j 0)) ≡ false
  left-source i j s i_in = ap (λ (b : Bool). b && eqb (get_or old arc.1 0) (get_or new j 0)) (s i i_in)

  left-target : (i j : ℕ) → HasPlace 0 new None (get_or old arc.1 0) → j < length new → (eqb (get_or old arc.0 0) (get_or new i 0) && eqb (get_or old arc.1 0) (get_or new j 0)) ≡ false
  left-target i j t j_in = ap (λ (b : Bool). eqb (get_or old arc.0 0) (get_or new i 0) && b) (t j j_in) ∙ fails-right (eqb (get_or old arc.0 0) (get_or new i 0))

  pub taken-bare : (source target : Option ℕ) → HasPlace 0 new source (get_or old arc.0 0) → HasPlace 0 new target (get_or old arc.1 0) → IsTaken (bare_arc new) itself new (both_ends source target) (bare_arc old arc)
  taken-bare None target s t = λ i j i_in j_in. left-source i j s i_in
  taken-bare (Some a) None s t = λ i j i_in j_in. left-target i j t j_in
  taken-bare (Some a) (Some b) s t =
      let first : get_or new a 0 ≡ get_or old arc.0 0 = id_at new a (get_or old arc.0 0) s in
      let second : get_or new b 0 ≡ get_or old arc.1 0 = id_at new b (get_or old arc.1 0) t in
      (cc, λ i j i_in j_in. joined a b i j s t i_in j_in)

  pub taken-heavy : (value : ℤ) (source target : Option ℕ) → HasPlace 0 new source (get_or old arc.0 0) → HasPlace 0 new target (get_or old arc.1 0) → IsTaken (heavy_arc new) arc_beside new (beside_arc value (both_ends source target)) (heavy_arc old (arc, value))
  taken-heavy value None target s t = λ i j i_in j_in. left-source i j s i_in
  taken-heavy value (Some a) None s t = λ i j i_in j_in. left-target i j t j_in
  taken-heavy value (Some a) (Some b) s t =
      let first : get_or new a 0 ≡ get_or old arc.0 0 = id_at new a (get_or old arc.0 0) s in
      let second : get_or new b 0 ≡ get_or old arc.1 0 = id_at new b (get_or old arc.1 0) t in
      (cc, λ i j i_in j_in. joined a b i j s t i_in j_in)

-- a place for each node
pub length-renumbered : (n : ℕ) (flags : List Bool) → length (renumbered n flags) ≡ length flags
length-renumbered n [] = refl
length-renumbered n (true ∷ flags) = omega (arith, length-renumbered (n + 1) flags)
length-renumbered n (false ∷ flags) = omega (arith, length-renumbered n flags)

-- places lie below the number of kept ones
below-from : (n : ℕ) (flags : List Bool) (ids : List ℕ) → length flags ≡ length ids → (v place : ℕ) → new_place (renumbered n flags) v ≡ Some place → place < n + length (kept_of flags ids)
below-from n [] ids long v place is = absurd cc
below-from n (flag ∷ flags) [] long v place is = absurd (omega arith)
below-from n (true ∷ flags) (id ∷ ids) long zero place is = let same : n ≡ place = cc in omega arith
below-from n (true ∷ flags) (id ∷ ids) long (suc v) place is = omega (arith, below-from (n + 1) flags ids (omega arith) v place is)
below-from n (false ∷ flags) (id ∷ ids) long zero place is = absurd cc
below-from n (false ∷ flags) (id ∷ ids) long (suc v) place is = below-from n flags ids (omega arith) v place is

pub HasPlacesBelow-kept : (flags : List Bool) (ids : List ℕ) → length flags ≡ length ids → HasPlacesBelow (length (kept_of flags ids)) (renumbered 0 flags)
HasPlacesBelow-kept flags ids long = record { below = λ v place is. omega (arith, below-from 0 flags ids long v place is) }
