-- Slots: under each id that was ever given stands the element that lives, or nothing.
--   slot_at slots id                what stands under an id
--   living slots                    the elements that live, in the order of their ids
--   IsNumbered id_of first slots    each element stands under its own id
--   kept p slot                     what is left of a slot where an element stays only if it passes a test
--   slot_count count slot           how much stands in a slot
use Rattle.std.specs.Prelude.{◌≡◌, ℕ, ◌+◌, Bool, if◌then◌else◌, List, [], ◌∷◌, Option, Some, None, IfSome, slice_index_or}
use Rattle.std.specs.List.{cons_option}

-- what stands under an id: nothing where the id was never given
abbrev pub slot_at : {A : Type 0} → List (Option A) → ℕ → Option A
slot_at slots id = slice_index_or slots id None

-- the elements that live, in the order of their ids
abbrev pub living : {A : Type 0} → List (Option A) → List A
living [] = []
living (slot ∷ slots) = cons_option slot (living slots)

-- each element stands under its own id, where the first slot is that of the id `first`
abbrev pub IsNumbered : {A : Type 0} → (A → ℕ) → ℕ → List (Option A) → Type 0
IsNumbered id_of first [] = Unit {0}
IsNumbered id_of first (slot ∷ slots) = IfSome slot (λ element. id_of element ≡ first) × IsNumbered id_of (first + 1) slots

-- what is left of a slot where an element stays only if it passes a test
abbrev pub kept : {A : Type 0} → (A → Bool) → Option A → Option A
kept stays None = None
kept stays (Some element) = if stays element then Some element else None

-- how much stands in a slot
abbrev pub slot_count : {A : Type 0} → (A → ℕ) → Option A → ℕ
slot_count count None = 0
slot_count count (Some element) = count element
