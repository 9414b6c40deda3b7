-- Each kept node stands at the place that it gets.
use Rattle.std.proofs.Common.{◌≡◌, ℕ, ◌+◌, ◌<◌, ◌≤◌, Bool, true, false, List, [], ◌∷◌, length, get_or, Some, refl, ap, ◌∙◌, zero, suc, arith}
use Rattle.csr_columns.specs.Keeping.{kept_of, kept_places, new_place, renumbered}
use Rattle.csr_columns.specs.Merging.{IsNumbering}
use Rattle.csr_columns.proofs.Renumbering.{length-renumbered}

-- as many places as kept items
pub length-kept_places : {A : Type 0} (n : ℕ) (flags : List Bool) (items : List A) → length flags ≡ length items → length (kept_places n flags) ≡ length (kept_of flags items)
length-kept_places n [] items long = refl
length-kept_places n (flag ∷ flags) [] long = absurd (omega arith)
length-kept_places n (true ∷ flags) (item ∷ items) long = omega (arith, length-kept_places (n + 1) flags items (omega arith))
length-kept_places n (false ∷ flags) (item ∷ items) long = length-kept_places (n + 1) flags items (omega arith)

-- where they lie
places-within : (n : ℕ) (flags : List Bool) (s : ℕ) → s < length (kept_places n flags) → (n ≤ get_or (kept_places n flags) s 0) × (get_or (kept_places n flags) s 0 < n + length flags)
places-within n [] s h = absurd (omega arith)
places-within n (true ∷ flags) zero h = (omega arith, omega arith)
places-within n (true ∷ flags) (suc s) h = let rest = places-within (n + 1) flags s (omega arith) in (omega (arith, rest.0), omega (arith, rest.1))
places-within n (false ∷ flags) s h = let rest = places-within (n + 1) flags s h in (omega (arith, rest.0), omega (arith, rest.1))

-- a kept node gets its place
own-place : (n m : ℕ) (flags : List Bool) (s v : ℕ) → s < length (kept_places n flags) → n + v ≡ get_or (kept_places n flags) s 0 → new_place (renumbered m flags) v ≡ Some (m + s)
own-place n m [] s v h is = absurd (omega arith)
own-place n m (true ∷ flags) zero zero h is = ap (λ (k : ℕ). Some k) (omega arith)
own-place n m (true ∷ flags) zero (suc v) h is = absurd (omega arith)
own-place n m (true ∷ flags) (suc s) zero h is = absurd (omega (arith, (places-within (n + 1) flags s (omega arith)).0))
own-place n m (true ∷ flags) (suc s) (suc v) h is = own-place (n + 1) (m + 1) flags s v (omega arith) (omega arith) ∙ ap (λ (k : ℕ). Some k) (omega arith)
own-place n m (false ∷ flags) s zero h is = absurd (omega (arith, (places-within (n + 1) flags s h).0))
own-place n m (false ∷ flags) s (suc v) h is = own-place (n + 1) m flags s v h (omega arith)

-- places begin at the number from which they are counted
places-from : (m : ℕ) (flags : List Bool) (v p : ℕ) → new_place (renumbered m flags) v ≡ Some p → m ≤ p
places-from m [] v p is = absurd cc
places-from m (true ∷ flags) zero p is = let same : m ≡ p = cc in omega arith
places-from m (true ∷ flags) (suc v) p is = omega (arith, places-from (m + 1) flags v p is)
places-from m (false ∷ flags) zero p is = absurd cc
places-from m (false ∷ flags) (suc v) p is = places-from m flags v p is

-- no other node gets it
only-place : (n m : ℕ) (flags : List Bool) (v s : ℕ) → new_place (renumbered m flags) v ≡ Some (m + s) → (s < length (kept_places n flags)) × (get_or (kept_places n flags) s 0 ≡ n + v)
only-place n m [] v s is = absurd cc
only-place n m (true ∷ flags) zero zero is = (omega arith, omega arith)
only-place n m (true ∷ flags) zero (suc s) is = let same : m ≡ m + suc s = cc in absurd (omega arith)
only-place n m (true ∷ flags) (suc v) zero is = absurd (omega (arith, places-from (m + 1) flags v (m + 0) is))
only-place n m (true ∷ flags) (suc v) (suc s) is =
    let rest = only-place (n + 1) (m + 1) flags v s (is ∙ ap (λ (k : ℕ). Some k) (omega arith)) in
    (omega (arith, rest.0), omega (arith, rest.1))
only-place n m (false ∷ flags) zero s is = absurd cc
only-place n m (false ∷ flags) (suc v) s is = let rest = only-place (n + 1) m flags v s is in (rest.0, omega (arith, rest.1))

-- where all are kept, each gets its own place
few-places : (n : ℕ) (flags : List Bool) → length (kept_places n flags) ≤ length flags
few-places n [] = omega arith
few-places n (true ∷ flags) = omega (arith, few-places (n + 1) flags)
few-places n (false ∷ flags) = omega (arith, few-places (n + 1) flags)

whole-places : (n m : ℕ) (flags : List Bool) (v : ℕ) → length (kept_places n flags) ≡ length flags → v < length flags → new_place (renumbered m flags) v ≡ Some (m + v)
whole-places n m [] v all h = absurd (omega arith)
whole-places n m (true ∷ flags) zero all h = ap (λ (k : ℕ). Some k) (omega arith)
whole-places n m (true ∷ flags) (suc v) all h = whole-places (n + 1) (m + 1) flags v (omega arith) (omega arith) ∙ ap (λ (k : ℕ). Some k) (omega arith)
whole-places n m (false ∷ flags) v all h = absurd (omega (arith, few-places (n + 1) flags))

pub IsNumbering-kept : (flags : List Bool) → IsNumbering (renumbered 0 flags) (kept_places 0 flags)
IsNumbering-kept flags = record {
  below = λ s h. omega (arith, (places-within 0 flags s h).1, length-renumbered 0 flags);
  own = λ s h. own-place 0 0 flags s (get_or (kept_places 0 flags) s 0) h (omega arith) ∙ ap (λ (k : ℕ). Some k) (omega arith);
  only = λ v s is. let rest = only-place 0 0 flags v s (is ∙ ap (λ (k : ℕ). Some k) (omega arith)) in (rest.0, omega (arith, rest.1));
  whole = λ all v h. whole-places 0 0 flags v (omega (arith, all, length-renumbered 0 flags)) (omega (arith, length-renumbered 0 flags)) ∙ ap (λ (k : ℕ). Some k) (omega arith);
}
