-- Where the entry of a name stands, and what changes at that place.
use Rattle.std.proofs.Common.{◌≡◌, ℕ, ◌+◌, ◌<◌, ◌≤◌, Bool, true, false, cond, nat_lt, List, [], ◌∷◌, ◌++◌, length, get_or, take, drop, Some, None, refl, sym, ap, ◌∙◌, zero, suc, ⊎_elim, arith}
use Rattle.std.specs.List.{position, position_or_len, position_from, insert, remove, slice_set}
use Rattle.std.specs.Option.{unwrap_or}
use Rattle.std.proofs.lemmas.Bool.{cases_Bool, cond-true, cond-false, ltb-false}
use Rattle.std.proofs.lemmas.List.{take-append-le, take_all, get_or_default}
use Rattle.std.proofs.lemmas.Iterator.Adapters.{position_from-zero}
use Rattle.std.proofs.lemmas.List.Quantifiers.{position-Some}
use Rattle.std.proofs.lemmas.List.Recursion.{is_position_or_len}
use Rattle.graph_model.specs.declared.graph.Column.{Column}
use Rattle.graph_model.specs.Projection.{under}
use Rattle.user_catalog.specs.declared.entry.Entry.{Entry}
use Rattle.user_catalog.specs.Catalog.{is_named, is_behind, inserted, removed, wider, widened}

-- the first place of a name
pub record IsFirstOf (name : List ℕ) (entries : List (List ℕ × Entry)) (place : ℕ) (d : List ℕ × Entry) : Type 0 where
  pub within : place < length entries
  pub named : is_named name (get_or entries place d) ≡ true
  pub before : (k : ℕ) → k < place → is_named name (get_or entries k d) ≡ false

pub first_of : (name : List ℕ) (entries : List (List ℕ × Entry)) (place : ℕ) (d : List ℕ × Entry) → position (is_named name) entries ≡ Some place → IsFirstOf name entries place d
first_of name entries place d found =
    let facts = position-Some (is_named name) entries place d found in
    record { within = facts.0; named = facts.1; before = facts.2 }

-- in a list with one more item in front
first_behind : (name : List ℕ) (e : List ℕ × Entry) (entries : List (List ℕ × Entry)) (place : ℕ) (d : List ℕ × Entry) → IsFirstOf name (e ∷ entries) (suc place) d → IsFirstOf name entries place d
first_behind name e entries place d first = record {
  within = omega (arith, first.within);
  named = first.named;
  before = λ k h. first.before (suc k) (omega arith);
}

differs : (name : List ℕ) (e : List ℕ × Entry) (entries : List (List ℕ × Entry)) (place : ℕ) (d : List ℕ × Entry) → IsFirstOf name (e ∷ entries) (suc place) d → is_named name e ≡ false
differs name e entries place d first = first.before 0 (omega arith)

-- what stands there stands under the name
pub under-at : (name : List ℕ) (entries : List (List ℕ × Entry)) (place : ℕ) (d : List ℕ × Entry) → IsFirstOf name entries place d → under name entries ≡ Some (get_or entries place d).1
under-at name [] place d first = absurd (omega (arith, first.within))
under-at name (e ∷ entries) zero d first = cond-true (is_named name e) (Some e.1) (under name entries) first.named
under-at name (e ∷ entries) (suc place) d first =
    cond-false (is_named name e) (Some e.1) (under name entries) (differs name e entries place d first)
    ∙ under-at name entries place d (first_behind name e entries place d first)

-- and is what goes
pub removed-at : (name : List ℕ) (entries : List (List ℕ × Entry)) (place : ℕ) (d : List ℕ × Entry) → IsFirstOf name entries place d → removed name entries ≡ remove entries place
removed-at name [] place d first = absurd (omega (arith, first.within))
removed-at name (e ∷ entries) zero d first = cond-true (is_named name e) entries (e ∷ removed name entries) first.named
removed-at name (e ∷ entries) (suc place) d first =
    cond-false (is_named name e) entries (e ∷ removed name entries) (differs name e entries place d first)
    ∙ ap (λ rest. e ∷ rest) (removed-at name entries place d (first_behind name e entries place d first))

-- and is what gets a column
widened-at : (name key : List ℕ) (column : Column) (entries : List (List ℕ × Entry)) (place : ℕ) (d : List ℕ × Entry) → IsFirstOf name entries place d → widened name key column entries ≡ slice_set entries place ((get_or entries place d).0, wider key column (get_or entries place d).1)
widened-at name key column [] place d first = absurd (omega (arith, first.within))
widened-at name key column (e ∷ entries) zero d first =
    cond-true (is_named name e) ((e.0, wider key column e.1) ∷ entries) (e ∷ widened name key column entries) first.named
widened-at name key column (e ∷ entries) (suc place) d first =
    cond-false (is_named name e) ((e.0, wider key column e.1) ∷ entries) (e ∷ widened name key column entries) (differs name e entries place d first)
    ∙ ap (λ rest. e ∷ rest) (widened-at name key column entries place d (first_behind name e entries place d first))

-- also where the name is read once more
pub widened-there : (name key : List ℕ) (column : Column) (entries : List (List ℕ × Entry)) (place : ℕ) (d again : List ℕ × Entry) → IsFirstOf name entries place d → slice_set entries place ((get_or entries place again).0, wider key column (get_or entries place d).1) ≡ widened name key column entries
widened-there name key column entries place d again first =
    ap (λ (e : List ℕ × Entry). slice_set entries place (e.0, wider key column (get_or entries place d).1)) (get_or_default entries place again d first.within)
    ∙ sym (widened-at name key column entries place d first)

-- nothing stands under a name that has no place
nowhere_from : (name : List ℕ) (entries : List (List ℕ × Entry)) (i : ℕ) → position_from (is_named name) i entries ≡ None → under name entries ≡ None
nowhere_from name [] i none = refl
nowhere_from name (e ∷ entries) i none =
    ⊎_elim
    (λ (named : is_named name e ≡ true). absurd (let there = rw named at none in cc))
    (λ (other : is_named name e ≡ false).
    cond-false (is_named name e) (Some e.1) (under name entries) other ∙ nowhere_from name entries (i + 1) (rw other at none))
    (cases_Bool (is_named name e))

pub nowhere : (name : List ℕ) (entries : List (List ℕ × Entry)) → position (is_named name) entries ≡ None → under name entries ≡ None
nowhere name entries none = nowhere_from name entries 0 (sym (position_from-zero (is_named name) entries) ∙ none)

-- and nothing goes
pub removed-nowhere : (name : List ℕ) (entries : List (List ℕ × Entry)) → under name entries ≡ None → removed name entries ≡ entries
removed-nowhere name [] none = refl
removed-nowhere name (e ∷ entries) none =
    ⊎_elim
    (λ (named : is_named name e ≡ true). absurd (let there = rw named at none in cc))
    (λ (other : is_named name e ≡ false).
    cond-false (is_named name e) entries (e ∷ removed name entries) other ∙ ap (λ rest. e ∷ rest) (removed-nowhere name entries (rw other at none)))
    (cases_Bool (is_named name e))

-- ---- the place for a new entry

-- the place of the first entry behind a name
abbrev place_behind : List ℕ → List (List ℕ × Entry) → ℕ
place_behind name [] = 0
place_behind name (e ∷ entries) = cond (is_behind name e) 0 (suc (place_behind name entries))

place_behind-is : (name : List ℕ) (entries : List (List ℕ × Entry)) → place_behind name entries ≡ position_or_len (is_behind name) entries
place_behind-is name =
    is_position_or_len (place_behind name) (is_behind name) refl
    (λ e rest. ap (λ (n : ℕ). cond (is_behind name e) 0 n) (let more : suc (place_behind name rest) ≡ 1 + place_behind name rest = omega arith in more))

place_behind-le : (name : List ℕ) (entries : List (List ℕ × Entry)) → place_behind name entries ≤ length entries
place_behind-le name [] = omega arith
place_behind-le name (e ∷ entries) =
    elim (is_behind name e) as (λ b. cond b 0 (suc (place_behind name entries)) ≤ suc (length entries)) [
      | true ↦ omega arith
      | false ↦ omega (arith, place_behind-le name entries)
    ]

-- an entry is put at that place
inserted-behind : (name : List ℕ) (entry : Entry) (entries : List (List ℕ × Entry)) → inserted name entry entries ≡ insert entries (place_behind name entries) (name, entry)
inserted-behind name entry [] = refl
inserted-behind name entry (e ∷ entries) =
    elim (is_behind name e) as (λ b. cond b ((name, entry) ∷ e ∷ entries) (e ∷ inserted name entry entries) ≡ insert (e ∷ entries) (cond b 0 (suc (place_behind name entries))) (name, entry)) [
      | true ↦ refl
      | false ↦ ap (λ rest. e ∷ rest) (inserted-behind name entry entries)
    ]

-- the place that a search finds, or else the end
found_or_end : (b : Bool) (place len : ℕ) → nat_lt place len ≡ b → place ≤ len → unwrap_or (cond b (Some place) None) len ≡ place
found_or_end true place len test within = refl
found_or_end false place len test within = omega (arith, ltb-false place len test)

place_for-is : (name : List ℕ) (entries : List (List ℕ × Entry)) → unwrap_or (position (is_behind name) entries) (length entries) ≡ place_behind name entries
place_for-is name entries =
    ap (λ (n : ℕ). unwrap_or (cond (nat_lt n (length entries)) (Some n) None) (length entries)) (sym (place_behind-is name entries))
    ∙ found_or_end (nat_lt (place_behind name entries) (length entries)) (place_behind name entries) (length entries) refl (place_behind-le name entries)

-- that place lies within the entries, and the entry belongs there
pub place_for-le : (name : List ℕ) (entries : List (List ℕ × Entry)) → unwrap_or (position (is_behind name) entries) (length entries) ≤ length entries
place_for-le name entries = omega (arith, place_for-is name entries, place_behind-le name entries)

pub inserted-at : (name : List ℕ) (entry : Entry) (entries : List (List ℕ × Entry)) → inserted name entry entries ≡ insert entries (unwrap_or (position (is_behind name) entries) (length entries)) (name, entry)
inserted-at name entry entries =
    inserted-behind name entry entries ∙ ap (λ (n : ℕ). insert entries n (name, entry)) (sym (place_for-is name entries))

-- a slice that a vector lends, written back whole
pub written_back : {X : Type 0} (len : ℕ) (xs new : List X) → len ≡ length xs → length new ≡ length xs → take len (new ++ drop (length new) xs) ≡ new
written_back len xs new whole same =
    take-append-le len new (drop (length new) xs) (omega arith) ∙ take_all len new (omega arith)
