-- Elements are put under their ids, one after another.
use Rattle.std.proofs.Common.{◌≡◌, ℕ, ◌+◌, ◌-◌, ◌<◌, ◌≤◌, List, [], ◌∷◌, ◌++◌, length, replicate, Option, Some, None, append_assoc, refl, ◌∙◌, ap, suc, zero, arith}
use Rattle.std.specs.List.{AllByRecursion}
use Rattle.std.proofs.lemmas.List.{append-nil, length_push, length-append, length-replicate}
use Rattle.graph_model.specs.Lists.{Pairwise}
use Rattle.store_tables.specs.Slots.{living, IsNumbered}
use Rattle.store_tables.proofs.ListFacts.{AllByRecursion-weaker}
use Rattle.store_tables.proofs.SlotLemmas.{living-++, IsNumbered-++}

-- all but the rest of the elements stand under their ids, of which those of the rest lie above
pub record IsPlaced {A : Type 0} (id_of : A → ℕ) (next : ℕ) (elements rest : List A) (slots : List (Option A)) : Type 0 where
  pub all : living slots ++ rest ≡ elements
  pub numbered : IsNumbered id_of 0 slots
  pub above : AllByRecursion (λ element. length slots ≤ id_of element) rest
  pub ascend : Pairwise (λ a b. id_of a < id_of b) rest
  pub below : AllByRecursion (λ element. id_of element < next) rest
  pub within : length slots ≤ next

-- nothing lives in dead slots
pub living-replicate : {A : Type 0} (n : ℕ) → living {A = A} (replicate n None) ≡ []
living-replicate zero = refl
living-replicate (suc n) = living-replicate n

pub IsNumbered-replicate : {A : Type 0} (id_of : A → ℕ) (n first : ℕ) → IsNumbered id_of first (replicate n None)
IsNumbered-replicate id_of zero first = tt
IsNumbered-replicate id_of (suc n) first = (tt, IsNumbered-replicate id_of n (first + 1))

-- dead slots behind others
pub living-filled : {A : Type 0} (slots : List (Option A)) (n : ℕ) → living (slots ++ replicate n None) ≡ living slots
living-filled slots n = living-++ slots (replicate n None) ∙ ap (λ rest. living slots ++ rest) (living-replicate n) ∙ append-nil (living slots)

pub IsNumbered-filled : {A : Type 0} (id_of : A → ℕ) (slots : List (Option A)) (n : ℕ) → IsNumbered id_of 0 slots → IsNumbered id_of 0 (slots ++ replicate n None)
IsNumbered-filled id_of slots n numbered =
    IsNumbered-++ id_of slots (replicate n None) 0 (length slots) numbered (omega arith) (IsNumbered-replicate id_of n (length slots))

-- a number of slots up to an id
pub length-filled : {A : Type 0} (slots : List (Option A)) (id : ℕ) → length slots ≤ id → length (slots ++ replicate (id - length slots) None) ≡ id
length-filled {A} slots id within = omega (arith, length-append slots (replicate (id - length slots) None), length-replicate {A = Option A} (id - length slots) None)

-- the next element is placed behind as many dead slots as it takes
pub IsPlaced-more : {A : Type 0} (id_of : A → ℕ) (next : ℕ) (elements rest : List A) (slots : List (Option A)) (x : A) → IsPlaced id_of next elements (x ∷ rest) slots → IsPlaced id_of next elements rest ((slots ++ replicate (id_of x - length slots) None) ++ Some x ∷ [])
IsPlaced-more {A} id_of next elements rest slots x placed =
    let filled = slots ++ replicate (id_of x - length slots) None in
    let len : length filled ≡ id_of x = length-filled slots (id_of x) placed.above.0 in
    let longer : length (filled ++ Some x ∷ []) ≡ id_of x + 1 = omega (arith, length_push filled (Some x)) in
    let lives : living (filled ++ Some x ∷ []) ≡ living slots ++ x ∷ [] =
    living-++ filled (Some x ∷ []) ∙ ap (λ (front : List A). front ++ x ∷ []) (living-filled slots (id_of x - length slots)) in
    record {
      all = rw lives (append_assoc (living slots) (x ∷ []) rest ∙ placed.all);
      numbered = IsNumbered-++ id_of filled (Some x ∷ []) 0 (id_of x) (IsNumbered-filled id_of slots (id_of x - length slots) placed.numbered) (omega arith) (refl, tt);
      above = AllByRecursion-weaker _ _ rest (λ y before. omega (arith, longer)) placed.ascend.0;
      ascend = placed.ascend.1;
      below = placed.below.1;
      within = omega (arith, placed.below.0);
    }

-- none of the elements is placed yet
pub IsPlaced-none : {A : Type 0} (id_of : A → ℕ) (next : ℕ) (elements : List A) → Pairwise (λ a b. id_of a < id_of b) elements → AllByRecursion (λ element. id_of element < next) elements → IsPlaced id_of next elements elements []
IsPlaced-none id_of next elements ascend below = record {
  all = refl;
  numbered = tt;
  above = AllByRecursion-weaker _ _ elements (λ x h. omega arith) below;
  ascend = ascend;
  below = below;
  within = omega arith;
}
