-- Slots that are edited, one id after another.
use Rattle.std.proofs.Common.{◌≡◌, ◌≢◌, ℕ, ℤ, ◌+◌, ◌*◌, true, false, cond, eqb, List, [], ◌∷◌, ◌++◌, map, set, sum_by, Option, Some, None, refl, sym, ◌∙◌, ap, inl, inr, suc, zero, arith}
use Rattle.std.specs.Prelude.{option_and_then, ◌||◌}
use Rattle.std.specs.Option.{option_map}
use Rattle.std.specs.Ordering.{nat_cmp}
use Rattle.std.specs.BTreeMap.{is_at}
use Rattle.std.proofs.lemmas.Bool.{cases_Bool, cases_eq, eq-eqb, ne_eqb}
use Rattle.graph_model.specs.declared.graph.Prop.{Prop}
use Rattle.graph_model.specs.Change.{last_value, pair_id, is_listed}
use Rattle.store_tables.specs.Slots.{slot_at, IsNumbered, kept, slot_count}
use Rattle.store_tables.specs.Counted.{key_weight}
use Rattle.graph_store.specs.Edits.{edit_slot, gone, is_unlisted, set_by, with_value}
use Rattle.store_tables.proofs.BoolFacts.{or-false, or-true, or-assoc}
use Rattle.store_tables.proofs.SlotLemmas.{id-at, set-map}
use Rattle.graph_store.proofs.SettingLemmas.{add_times, is_at-nat, last_value-unlisted}

-- ---- one more id is listed

-- an id is listed where it was, or where it is the new one
pub is_listed-push : (ids : List ℕ) (id other : ℕ) → is_listed (ids ++ id ∷ []) other ≡ (is_listed ids other || eqb id other)
is_listed-push [] id other = or-false (eqb id other)
is_listed-push (first ∷ ids) id other =
    ap (λ b. eqb first other || b) (is_listed-push ids id other) ∙ or-assoc (eqb first other) (is_listed ids other) (eqb id other)

-- other ids are listed as before
pub is_listed-others : (ids : List ℕ) (id other : ℕ) → other ≢ id → is_listed (ids ++ id ∷ []) other ≡ is_listed ids other
is_listed-others ids id other apart =
    let differs : eqb id other ≡ false = ne_eqb id other (λ same. apart (sym same)) in
    is_listed-push ids id other ∙ ap (λ b. is_listed ids other || b) differs ∙ or-false (is_listed ids other)

-- the new one is listed
pub is_listed-new : (ids : List ℕ) (id other : ℕ) → other ≡ id → is_listed (ids ++ id ∷ []) other ≡ true
is_listed-new ids id other is =
    let same : eqb id other ≡ true = eq-eqb id other (sym is) in
    is_listed-push ids id other ∙ ap (λ b. is_listed ids other || b) same ∙ or-true (is_listed ids other)

-- ---- the slot of one more id is edited

-- the edit of another element stays
edit_slot-others : {A : Type 0} (id_of : A → ℕ) (edit : A → Option A) (ids : List ℕ) (id : ℕ) (x : A) → id_of x ≢ id → edit_slot id_of edit ids (Some x) ≡ edit_slot id_of edit (ids ++ id ∷ []) (Some x)
edit_slot-others id_of edit ids id x apart = ap (λ b. cond b (edit x) (Some x)) (sym (is_listed-others ids id (id_of x) apart))

-- what stands under the new id is edited
edit_slot-new : {A : Type 0} (id_of : A → ℕ) (edit : A → Option A) (ids : List ℕ) (id : ℕ) (slot : Option A) → ((x : A) → slot ≡ Some x → id_of x ≡ id) → option_and_then edit slot ≡ edit_slot id_of edit (ids ++ id ∷ []) slot
edit_slot-new id_of edit ids id None is = refl
edit_slot-new id_of edit ids id (Some x) is = ap (λ b. cond b (edit x) (Some x)) (sym (is_listed-new ids id (id_of x) (is x refl)))

-- the element of one more id is edited
pub edit-more : {A : Type 0} (id_of : A → ℕ) (edit : A → Option A) (slots : List (Option A)) (ids : List ℕ) (id : ℕ) → IsNumbered id_of 0 slots → set (map (edit_slot id_of edit ids) slots) id (option_and_then edit (slot_at slots id)) ≡ map (edit_slot id_of edit (ids ++ id ∷ [])) slots
edit-more id_of edit slots ids id numbered =
    set-map id_of (edit_slot id_of edit ids) (edit_slot id_of edit (ids ++ id ∷ [])) slots 0 id id (option_and_then edit (slot_at slots id)) numbered (omega arith) refl
    (edit_slot-others id_of edit ids id)
    (λ within. edit_slot-new id_of edit ids id (slot_at slots id) (λ x is. omega (arith, id-at id_of slots 0 id x numbered is)))

edit_slot-again : {A : Type 0} (id_of : A → ℕ) (edit : A → Option A) (ids : List ℕ) (id : ℕ) (slot : Option A) → (is_listed ids id ≡ false → (x : A) → id_of x ≡ id → edit x ≡ Some x) → edit_slot id_of edit ids slot ≡ edit_slot id_of edit (ids ++ id ∷ []) slot
edit_slot-again id_of edit ids id None same = refl
edit_slot-again id_of edit ids id (Some x) same =
    elim (cases_eq (id_of x) id) [
      | inr apart ↦ edit_slot-others id_of edit ids id x apart
      | inl is ↦ elim (cases_Bool (is_listed ids id)) [
        | inl listed ↦ let before : is_listed ids (id_of x) ≡ true = rw is listed in
            let after = is_listed-new ids id (id_of x) is in rw (before, after) refl
        | inr unlisted ↦ let before : is_listed ids (id_of x) ≡ false = rw is unlisted in
            let after = is_listed-new ids id (id_of x) is in rw (before, after) (sym (same unlisted x is))
      ]
    ]

-- the element of one more id stays as it is: it was edited before, or isn't changed by the edit
pub edit-again : {A : Type 0} (id_of : A → ℕ) (edit : A → Option A) (slots : List (Option A)) (ids : List ℕ) (id : ℕ) → (is_listed ids id ≡ false → (x : A) → id_of x ≡ id → edit x ≡ Some x) → map (edit_slot id_of edit ids) slots ≡ map (edit_slot id_of edit (ids ++ id ∷ [])) slots
edit-again id_of edit [] ids id same = refl
edit-again id_of edit (slot ∷ slots) ids id same =
    let here = edit_slot-again id_of edit ids id slot same in let rest = edit-again id_of edit slots ids id same in cc

-- an element that isn't listed is as it was
pub slot_at-edited : {A : Type 0} (id_of : A → ℕ) (edit : A → Option A) (slots : List (Option A)) (first place : ℕ) (ids : List ℕ) (id : ℕ) → IsNumbered id_of first slots → id ≡ first + place → is_listed ids id ≡ false → slot_at (map (edit_slot id_of edit ids) slots) place ≡ slot_at slots place
slot_at-edited id_of edit [] first place ids id numbered is unlisted = refl
slot_at-edited id_of edit (None ∷ slots) first zero ids id numbered is unlisted = refl
slot_at-edited id_of edit (Some x ∷ slots) first zero ids id numbered is unlisted =
    let own : id_of x ≡ id = omega (arith, numbered.0) in
    let other : is_listed ids (id_of x) ≡ false = rw own unlisted in rw other refl
slot_at-edited id_of edit (slot ∷ slots) first (suc place) ids id numbered is unlisted =
    slot_at-edited id_of edit slots (first + 1) place ids id numbered.1 (omega arith) unlisted

-- ---- no id is left

-- edits of the listed elements are edits of all, where the others aren't changed by them
pub edit-all : {A : Type 0} (id_of : A → ℕ) (change : A → A) (slots : List (Option A)) (ids : List ℕ) → ((x : A) → is_listed ids (id_of x) ≡ false → change x ≡ x) → map (edit_slot id_of (λ x. Some (change x)) ids) slots ≡ map (option_map change) slots
edit-all id_of change [] ids same = refl
edit-all id_of change (None ∷ slots) ids same = ap (λ rest. None ∷ rest) (edit-all id_of change slots ids same)
edit-all id_of change (Some x ∷ slots) ids same =
    let rest = edit-all id_of change slots ids same in
    elim (cases_Bool (is_listed ids (id_of x))) [
      | inl listed ↦ rw listed (ap (λ ss. Some (change x) ∷ ss) rest)
      | inr unlisted ↦ let own = same x unlisted in rw unlisted (cc)
    ]

-- the elements that aren't listed stay
pub edit-gone : {A : Type 0} (id_of : A → ℕ) (slots : List (Option A)) (ids : List ℕ) → map (edit_slot id_of gone ids) slots ≡ map (kept (is_unlisted id_of ids)) slots
edit-gone id_of [] ids = refl
edit-gone id_of (None ∷ slots) ids = ap (λ rest. None ∷ rest) (edit-gone id_of slots ids)
edit-gone id_of (Some x ∷ slots) ids =
    let rest = edit-gone id_of slots ids in
    elim (cases_Bool (is_listed ids (id_of x))) [
      | inl listed ↦ rw listed (ap (λ ss. None ∷ ss) rest)
      | inr unlisted ↦ rw unlisted (ap (λ ss. Some x ∷ ss) rest)
    ]

-- nothing is edited yet
pub edit-none : {A : Type 0} (id_of : A → ℕ) (edit : A → Option A) (slots : List (Option A)) → slots ≡ map (edit_slot id_of edit []) slots
edit-none id_of edit [] = refl
edit-none id_of edit (None ∷ slots) = ap (λ rest. None ∷ rest) (edit-none id_of edit slots)
edit-none id_of edit (Some x ∷ slots) = ap (λ rest. Some x ∷ rest) (edit-none id_of edit slots)

-- ---- values are set by the last pair of each id

-- the last values that are still to be set
pub last_values_left : (pairs : List (ℕ × ℤ)) (ids : List ℕ) (id other : ℕ) (before after : Option ℤ) → before ≡ cond (is_listed ids other) None (last_value pairs other) → after ≡ cond (is_at (nat_cmp id) other) None before → after ≡ cond (is_listed (ids ++ id ∷ []) other) None (last_value pairs other)
last_values_left pairs ids id other before after was now =
    elim (cases_eq other id) [
      | inl is ↦ let new = is_listed-new ids id other is in
          let here : is_at (nat_cmp id) other ≡ true = is_at-nat id other ∙ eq-eqb id other (sym is) in
          rw new (rw here at now)
      | inr apart ↦ let others = is_listed-others ids id other apart in
          let elsewhere : is_at (nat_cmp id) other ≡ false = is_at-nat id other ∙ ne_eqb id other (λ same. apart (sym same)) in
          rw others ((rw elsewhere at now) ∙ was)
    ]

-- the slots after the pairs of these ids were set, and the last values that are left
pub record IsSetSoFar {A : Type 0} (id_of : A → ℕ) (props_of : A → List Prop) (with_props : A → List Prop → A) (key : List ℕ) (pairs : List (ℕ × ℤ)) (ids : List ℕ) (last : ℕ → Option ℤ) (before now : List (Option A)) (added : ℕ) : Type 0 where
  pub left : (id : ℕ) → last id ≡ cond (is_listed ids id) None (last_value pairs id)
  pub edited : now ≡ map (edit_slot id_of (λ x. Some (set_by id_of props_of with_props key pairs x)) ids) before
  pub counted : (weight : List ℕ → ℕ) → sum_by (slot_count (λ x. key_weight weight (props_of x))) now ≡ sum_by (slot_count (λ x. key_weight weight (props_of x))) before + added * weight key

pub IsSetSoFar-none : {A : Type 0} (id_of : A → ℕ) (props_of : A → List Prop) (with_props : A → List Prop → A) (key : List ℕ) (pairs : List (ℕ × ℤ)) (last : ℕ → Option ℤ) (before : List (Option A)) → ((id : ℕ) → last id ≡ last_value pairs id) → IsSetSoFar id_of props_of with_props key pairs [] last before before 0
IsSetSoFar-none id_of props_of with_props key pairs last before left = record {
  left = left;
  edited = edit-none id_of (λ x. Some (set_by id_of props_of with_props key pairs x)) before;
  counted = λ weight. omega arith;
}

-- an element that no pair names stays as it is
set_by-unlisted : {A : Type 0} (id_of : A → ℕ) (props_of : A → List Prop) (with_props : A → List Prop → A) (key : List ℕ) (pairs : List (ℕ × ℤ)) (x : A) → with_props x (props_of x) ≡ x → last_value pairs (id_of x) ≡ None → set_by id_of props_of with_props key pairs x ≡ x
set_by-unlisted id_of props_of with_props key pairs x own none = rw none own

-- the value of an id that wasn't named yet
last_left : (pairs : List (ℕ × ℤ)) (ids : List ℕ) (id : ℕ) (value : ℤ) (before : Option ℤ) → before ≡ cond (is_listed ids id) None (last_value pairs id) → Some value ≡ before → (is_listed ids id ≡ false) × (last_value pairs id ≡ Some value)
last_left pairs ids id value before was is =
    elim (cases_Bool (is_listed ids id)) [
      | inl listed ↦ let none : before ≡ None = rw listed at was in cc
      | inr unlisted ↦ let there : before ≡ last_value pairs id = rw unlisted at was in (unlisted, cc)
    ]

-- what stands under an id has a value set
set_by-listed : {A : Type 0} (id_of : A → ℕ) (props_of : A → List Prop) (with_props : A → List Prop → A) (key : List ℕ) (pairs : List (ℕ × ℤ)) (id : ℕ) (value : ℤ) (slot : Option A) → ((x : A) → slot ≡ Some x → id_of x ≡ id) → last_value pairs id ≡ Some value → option_map (with_value props_of with_props key value) slot ≡ option_and_then (λ x. Some (set_by id_of props_of with_props key pairs x)) slot
set_by-listed id_of props_of with_props key pairs id value None is last = refl
set_by-listed id_of props_of with_props key pairs id value (Some x) is last =
    let own : last_value pairs (id_of x) ≡ Some value = rw (is x refl) last in rw own refl

-- one more id, which wasn't named yet
pub IsSetSoFar-more : {A : Type 0} (id_of : A → ℕ) (props_of : A → List Prop) (with_props : A → List Prop → A) (key : List ℕ) (pairs : List (ℕ × ℤ)) (ids : List ℕ) (last : ℕ → Option ℤ) (before now : List (Option A)) (added : ℕ) (id : ℕ) (value : ℤ) (left : ℕ → Option ℤ) (after : List (Option A)) (more : ℕ) → IsNumbered id_of 0 before → IsSetSoFar id_of props_of with_props key pairs ids last before now added → Some value ≡ last id → ((other : ℕ) → left other ≡ cond (is_at (nat_cmp id) other) None (last other)) → after ≡ set now id (option_map (with_value props_of with_props key value) (slot_at now id)) → ((weight : List ℕ → ℕ) → sum_by (slot_count (λ x. key_weight weight (props_of x))) after ≡ sum_by (slot_count (λ x. key_weight weight (props_of x))) now + more * weight key) → IsSetSoFar id_of props_of with_props key pairs (ids ++ id ∷ []) left before after (added + more)
IsSetSoFar-more {A} id_of props_of with_props key pairs ids last before now added id value left after more numbered so_far is removed stored grown =
    let edit : A → Option A = λ x. Some (set_by id_of props_of with_props key pairs x) in
    let found = last_left pairs ids id value (last id) (so_far.left id) is in
    let here : slot_at now id ≡ slot_at before id = rw so_far.edited (slot_at-edited id_of edit before 0 id ids id numbered (omega arith) found.0) in
    let changed = set_by-listed id_of props_of with_props key pairs id value (slot_at before id) (λ x there. omega (arith, id-at id_of before 0 id x numbered there)) found.1 in
    record {
      left = λ other. last_values_left pairs ids id other (last other) (left other) (so_far.left other) (removed other);
      edited = rw (stored, here, changed, so_far.edited) (edit-more id_of edit before ids id numbered);
      counted = λ weight. omega (arith, grown weight, so_far.counted weight, add_times added more (weight key));
    }

-- one more id, which was named before
pub IsSetSoFar-again : {A : Type 0} (id_of : A → ℕ) (props_of : A → List Prop) (with_props : A → List Prop → A) (key : List ℕ) (pairs : List (ℕ × ℤ)) (ids : List ℕ) (last : ℕ → Option ℤ) (before now : List (Option A)) (added : ℕ) (id : ℕ) (left : ℕ → Option ℤ) → ((x : A) → with_props x (props_of x) ≡ x) → IsSetSoFar id_of props_of with_props key pairs ids last before now added → None ≡ last id → ((other : ℕ) → left other ≡ cond (is_at (nat_cmp id) other) None (last other)) → IsSetSoFar id_of props_of with_props key pairs (ids ++ id ∷ []) left before now added
IsSetSoFar-again {A} id_of props_of with_props key pairs ids last before now added id left own so_far is removed =
    let edit : A → Option A = λ x. Some (set_by id_of props_of with_props key pairs x) in
    record {
      left = λ other. last_values_left pairs ids id other (last other) (left other) (so_far.left other) (removed other);
      edited = so_far.edited ∙ edit-again id_of edit before ids id (λ unlisted x same.
          let was = so_far.left id in
          let none : last_value pairs (id_of x) ≡ None = rw same (sym (rw unlisted at was) ∙ sym is) in
          ap Some (set_by-unlisted id_of props_of with_props key pairs x (own x) none));
      counted = so_far.counted;
    }

-- all pairs are set
pub IsSetSoFar-all : {A : Type 0} (id_of : A → ℕ) (props_of : A → List Prop) (with_props : A → List Prop → A) (key : List ℕ) (pairs : List (ℕ × ℤ)) (last : ℕ → Option ℤ) (before now : List (Option A)) (added : ℕ) → ((x : A) → with_props x (props_of x) ≡ x) → IsSetSoFar id_of props_of with_props key pairs (map pair_id pairs) last before now added → now ≡ map (option_map (set_by id_of props_of with_props key pairs)) before
IsSetSoFar-all id_of props_of with_props key pairs last before now added own so_far =
    so_far.edited ∙ edit-all id_of (set_by id_of props_of with_props key pairs) before (map pair_id pairs) (λ x unlisted.
    set_by-unlisted id_of props_of with_props key pairs x (own x) (last_value-unlisted pairs (id_of x) unlisted))

-- nothing is left of what goes
option_and_then-gone : {A : Type 0} (slot : Option A) → option_and_then gone slot ≡ None
option_and_then-gone None = refl
option_and_then-gone (Some x) = refl

-- the element of one more id goes
pub edit-gone_more : {A : Type 0} (id_of : A → ℕ) (slots : List (Option A)) (ids : List ℕ) (id : ℕ) → IsNumbered id_of 0 slots → set (map (edit_slot id_of gone ids) slots) id None ≡ map (edit_slot id_of gone (ids ++ id ∷ [])) slots
edit-gone_more id_of slots ids id numbered =
    ap (set (map (edit_slot id_of gone ids) slots) id) (sym (option_and_then-gone (slot_at slots id))) ∙ edit-more id_of gone slots ids id numbered
