-- How often elements have a name, as elements come, go and have values set.
use Rattle.std.proofs.Common.{◌≡◌, ℕ, ◌+◌, ◌-◌, ◌*◌, ◌<◌, Bool, true, false, cond, ◌||◌, List, [], ◌∷◌, ◌++◌, length, map, take, get_or, sum_by, Option, Some, None, refl, sym, ◌∙◌, ap, subst, arith}
use Rattle.std.specs.Prelude.{nat_lt}
use Rattle.std.specs.List.{list_any}
use Rattle.std.specs.Option.{option_map}
use Rattle.std.specs.Str.{bytes_eq}
use Rattle.std.proofs.lemmas.Bool.Decides.{nat_tests}
use Rattle.std.proofs.lemmas.Grind.{common_steps}
use Rattle.std.proofs.lemmas.List.Sums.{sum_by-cons, sum_by_more}
use Rattle.std.proofs.Math.Seq.{take-append_seam}
use Rattle.graph_model.specs.declared.graph.Rel.{Rel}
use Rattle.graph_model.specs.declared.graph.Prop.{Prop}
use Rattle.store_tables.specs.Slots.{slot_at, living, slot_count}
use Rattle.store_tables.specs.declared.name_row.NameRow.{NameRow}
use Rattle.store_tables.specs.NameRows.{count_under}
use Rattle.store_tables.specs.Counted.{times, own_name, prop_key, rel_classes, rel_props, key_weight, IsCounted}
use Rattle.graph_store.specs.Edits.{WeighsSame}
use Rattle.graph_model.specs.Known.{has_type, is_under_key}
use Rattle.store_tables.proofs.SlotLemmas.{sum_by-living, sum_by-ones}

-- ---- some item passes a test where a sum isn't 0

any-sum : {A : Type 0} (p : A → Bool) (f : A → ℕ) (xs : List A) → ((x : A) → p x ≡ nat_lt 0 (f x)) → list_any p xs ≡ nat_lt 0 (sum_by f xs)
any-sum p f [] same = refl
any-sum p f (x ∷ xs) same =
    let here = same x in let rest = any-sum p f xs same in let whole = sum_by-cons f x xs in grind (arith, nat_tests, common_steps)

one : (b : Bool) → b ≡ nat_lt 0 (cond b 1 0)
one true = refl
one false = refl

-- a name stands among items where it stands there at least once
any-times : {A : Type 0} (name_of : A → List ℕ) (items : List A) (name : List ℕ) → list_any (λ item. bytes_eq name (name_of item)) items ≡ nat_lt 0 (times name_of items name)
any-times name_of items name = any-sum (λ item. bytes_eq name (name_of item)) (λ item. cond (bytes_eq name (name_of item)) 1 0) items (λ item. one (bytes_eq name (name_of item)))

-- some element has a class where one is counted
pub knows-class : {A : Type 0} (classes_of : A → List (List ℕ)) (props_of : A → List Prop) (slots : List (Option A)) (classes keys : List NameRow) (name : List ℕ) → IsCounted classes_of props_of slots classes keys → nat_lt 0 (count_under classes name) ≡ list_any (λ x. list_any (bytes_eq name) (classes_of x)) (living slots)
knows-class classes_of props_of slots classes keys name counted =
    rw (counted.classes_counted name, ← sum_by-living (λ x. times own_name (classes_of x) name) slots)
    (sym (any-sum (λ x. list_any (bytes_eq name) (classes_of x)) (λ x. times own_name (classes_of x) name) (living slots) (λ x. any-times own_name (classes_of x) name)))

pub knows-key : {A : Type 0} (classes_of : A → List (List ℕ)) (props_of : A → List Prop) (slots : List (Option A)) (classes keys : List NameRow) (name : List ℕ) → IsCounted classes_of props_of slots classes keys → nat_lt 0 (count_under keys name) ≡ list_any (λ x. list_any (is_under_key name) (props_of x)) (living slots)
knows-key classes_of props_of slots classes keys name counted =
    rw (counted.keys_counted name, ← sum_by-living (λ x. times prop_key (props_of x) name) slots)
    (sym (any-sum (λ x. list_any (is_under_key name) (props_of x)) (λ x. times prop_key (props_of x) name) (living slots) (λ x. any-times prop_key (props_of x) name)))

-- some relationship is of a type where it is counted
or-false : (b : Bool) → (b || false) ≡ b
or-false true = refl
or-false false = refl

list_any-agree : {A : Type 0} (p q : A → Bool) (xs : List A) → ((x : A) → p x ≡ q x) → list_any p xs ≡ list_any q xs
list_any-agree p q [] same = refl
list_any-agree p q (x ∷ xs) same = let here = same x in let rest = list_any-agree p q xs same in cc

pub knows-type : (rels : List (Option Rel)) (classes keys : List NameRow) (name : List ℕ) → IsCounted rel_classes rel_props rels classes keys → nat_lt 0 (count_under classes name) ≡ list_any (has_type name) (living rels)
knows-type rels classes keys name counted =
    knows-class rel_classes rel_props rels classes keys name counted
    ∙ list_any-agree (λ rel. list_any (bytes_eq name) (rel_classes rel)) (has_type name) (living rels) (λ rel. or-false (bytes_eq name rel.kind))

-- ---- elements come

-- nothing is counted yet
pub counted-none : {A : Type 0} (classes_of : A → List (List ℕ)) (props_of : A → List Prop) (slots : List (Option A)) (classes keys : List NameRow) → classes ≡ [] → keys ≡ [] → IsCounted classes_of props_of (take 0 slots) classes keys
counted-none classes_of props_of slots classes keys no_classes no_keys = record {
  classes_counted = λ name. rw no_classes refl;
  keys_counted = λ name. rw no_keys refl;
}

-- what was counted is counted where elements stand behind the others
pub counted-front : {A : Type 0} (classes_of : A → List (List ℕ)) (props_of : A → List Prop) (slots news after : List (Option A)) (count : ℕ) (classes keys : List NameRow) → after ≡ slots ++ news → count ≡ length slots → IsCounted classes_of props_of slots classes keys → IsCounted classes_of props_of (take count after) classes keys
counted-front classes_of props_of slots news after count classes keys is same counted =
    let front : take count after ≡ slots = rw (is, same) (take-append_seam slots news) in
    subst (λ rows. IsCounted classes_of props_of rows classes keys) (sym front) counted

-- copies
pub counted-same : {A : Type 0} (classes_of : A → List (List ℕ)) (props_of : A → List Prop) (slots after : List (Option A)) (classes keys classes_after keys_after : List NameRow) → after ≡ slots → classes_after ≡ classes → keys_after ≡ keys → IsCounted classes_of props_of slots classes keys → IsCounted classes_of props_of after classes_after keys_after
counted-same classes_of props_of slots after classes keys classes_after keys_after same same_classes same_keys counted = record {
  classes_counted = λ name. rw (same, same_classes) (counted.classes_counted name);
  keys_counted = λ name. rw (same, same_keys) (counted.keys_counted name);
}

-- ---- elements go

pub counted-gone : {A : Type 0} (classes_of : A → List (List ℕ)) (props_of : A → List Prop) (slots left : List (Option A)) (gone : List A) (classes keys classes_after keys_after : List NameRow) → IsCounted classes_of props_of slots classes keys → WeighsSame slots left gone
    → ((name : List ℕ) → count_under classes_after name ≡ count_under classes name - sum_by (λ x. times own_name (classes_of x) name) gone) → ((name : List ℕ) → count_under keys_after name ≡ count_under keys name - sum_by (λ x. times prop_key (props_of x) name) gone) → IsCounted classes_of props_of left classes_after keys_after
counted-gone classes_of props_of slots left gone classes keys classes_after keys_after counted same fewer_classes fewer_keys = record {
  classes_counted = λ name. omega (arith, fewer_classes name, counted.classes_counted name, same (λ x. times own_name (classes_of x) name));
  keys_counted = λ name. omega (arith, fewer_keys name, counted.keys_counted name, same (λ x. times prop_key (props_of x) name));
}

-- ---- values are set

-- what weighs the same in each element weighs the same in the slots
slot_sums-agree : {A : Type 0} (f g : A → ℕ) (slots : List (Option A)) → ((x : A) → f x ≡ g x) → sum_by (slot_count f) slots ≡ sum_by (slot_count g) slots
slot_sums-agree f g [] same = refl
slot_sums-agree f g (None ∷ slots) same = omega (arith, sum_by-cons (slot_count f) None slots, sum_by-cons (slot_count g) None slots, slot_sums-agree f g slots same)
slot_sums-agree f g (Some x ∷ slots) same = omega (arith, same x, sum_by-cons (slot_count f) (Some x) slots, sum_by-cons (slot_count g) (Some x) slots, slot_sums-agree f g slots same)

-- so many values more
pub values-grown : {A : Type 0} (props_of : A → List Prop) (slots after : List (Option A)) (key : List ℕ) (added : ℕ) → ((weight : List ℕ → ℕ) → sum_by (slot_count (λ x. key_weight weight (props_of x))) after ≡ sum_by (slot_count (λ x. key_weight weight (props_of x))) slots + added * weight key) → sum_by (slot_count (λ x. length (props_of x))) after ≡ sum_by (slot_count (λ x. length (props_of x))) slots + added
values-grown props_of slots after key added keyed =
    let all : (rows : List (Option _)) → sum_by (slot_count (λ x. key_weight (λ _. 1) (props_of x))) rows ≡ sum_by (slot_count (λ x. length (props_of x))) rows =
    λ rows. slot_sums-agree (λ x. key_weight (λ _. 1) (props_of x)) (λ x. length (props_of x)) rows (λ x. sum_by-ones (props_of x)) in
    omega (arith, keyed (λ _. 1), all slots, all after)

-- what isn't changed by an edit of each element
sum_by-edited : {A : Type 0} (count : A → ℕ) (change : A → A) (slots : List (Option A)) → ((x : A) → count (change x) ≡ count x) → sum_by (slot_count count) (map (option_map change) slots) ≡ sum_by (slot_count count) slots
sum_by-edited count change [] same = refl
sum_by-edited count change (None ∷ slots) same =
    sum_by-cons (slot_count count) None (map (option_map change) slots) ∙ ap (λ n. 0 + n) (sum_by-edited count change slots same) ∙ sym (sum_by-cons (slot_count count) None slots)
sum_by-edited count change (Some x ∷ slots) same =
    sum_by-cons (slot_count count) (Some (change x)) (map (option_map change) slots)
    ∙ omega (arith, same x, sum_by-edited count change slots same, sum_by-cons (slot_count count) (Some x) slots)

-- so many times as much, where it is this one
times_one : (n : ℕ) (b : Bool) → n * cond b 1 0 ≡ cond b n 0
times_one n true = omega arith
times_one n false = omega arith

pub counted-set : {A : Type 0} (classes_of : A → List (List ℕ)) (props_of : A → List Prop) (change : A → A) (key : List ℕ) (added : ℕ) (slots after : List (Option A)) (classes keys classes_after keys_after : List NameRow) → ((x : A) → classes_of (change x) ≡ classes_of x) → after ≡ map (option_map change) slots
    → ((weight : List ℕ → ℕ) → sum_by (slot_count (λ x. key_weight weight (props_of x))) after ≡ sum_by (slot_count (λ x. key_weight weight (props_of x))) slots + added * weight key)
    → classes_after ≡ classes → ((name : List ℕ) → count_under keys_after name ≡ count_under keys name + cond (bytes_eq name key) added 0) → IsCounted classes_of props_of slots classes keys → IsCounted classes_of props_of after classes_after keys_after
counted-set classes_of props_of change key added slots after classes keys classes_after keys_after stays is keyed same_classes more_keys counted = record {
  classes_counted = λ name. rw (same_classes, is) (counted.classes_counted name ∙ sym (sum_by-edited (λ x. times own_name (classes_of x) name) change slots (λ x. ap (λ names. times own_name names name) (stays x))));
  keys_counted = λ name. omega (arith, more_keys name, counted.keys_counted name, keyed (λ other. cond (bytes_eq name other) 1 0), times_one added (bytes_eq name key));
}
