-- How often elements have a name, as one row more is counted and one element more is gone.
use Rattle.std.proofs.Common.{◌≡◌, ℕ, ◌+◌, ◌-◌, ◌*◌, ◌<◌, Bool, true, false, cond, ◌||◌, List, [], ◌∷◌, ◌++◌, length, map, take, get_or, sum_by, Option, Some, None, refl, sym, ◌∙◌, ap, subst, arith}
use Rattle.std.specs.Prelude.{nat_lt}
use Rattle.std.specs.List.{list_any}
use Rattle.std.specs.Option.{option_map}
use Rattle.std.specs.Str.{bytes_eq}
use Rattle.std.proofs.lemmas.Bool.Decides.{nat_tests}
use Rattle.std.proofs.lemmas.Grind.{common_steps}
use Rattle.std.proofs.lemmas.List.Sums.{sum_by-cons, sum_by_more}
use Rattle.std.proofs.Math.Seq.{take-append_seam}
use Rattle.graph_model.specs.declared.graph.Rel.{Rel}
use Rattle.graph_model.specs.declared.graph.Prop.{Prop}
use Rattle.store_tables.specs.Slots.{slot_at, living, slot_count}
use Rattle.store_tables.specs.declared.name_row.NameRow.{NameRow}
use Rattle.store_tables.specs.NameRows.{count_under}
use Rattle.store_tables.specs.Counted.{times, own_name, prop_key, rel_classes, rel_props, key_weight, IsCounted}
use Rattle.graph_model.specs.Known.{has_type, is_under_key}
use Rattle.store_tables.proofs.SlotLemmas.{sum_by-living, sum_by-ones}

-- the row of an element is counted
pub counted-more : {A : Type 0} (classes_of : A → List (List ℕ)) (props_of : A → List Prop) (slots : List (Option A)) (row : ℕ) (x : A) (classes keys classes_after keys_after : List NameRow) → row < length slots → slot_at slots row ≡ Some x → IsCounted classes_of props_of (take row slots) classes keys
    → ((name : List ℕ) → count_under classes_after name ≡ count_under classes name + times own_name (classes_of x) name) → ((name : List ℕ) → count_under keys_after name ≡ count_under keys name + times prop_key (props_of x) name) → IsCounted classes_of props_of (take (row + 1) slots) classes_after keys_after
counted-more classes_of props_of slots row x classes keys classes_after keys_after within is counted more_classes more_keys = record {
  classes_counted = λ name. let more = sum_by_more (slot_count (λ y. times own_name (classes_of y) name)) slots row None within in
      more_classes name ∙ ap (λ n. n + times own_name (classes_of x) name) (counted.classes_counted name) ∙ sym (rw is at more);
  keys_counted = λ name. let more = sum_by_more (slot_count (λ y. times prop_key (props_of y) name)) slots row None within in
      more_keys name ∙ ap (λ n. n + times prop_key (props_of x) name) (counted.keys_counted name) ∙ sym (rw is at more);
}

-- a row without an element counts nothing
pub counted-dead : {A : Type 0} (classes_of : A → List (List ℕ)) (props_of : A → List Prop) (slots : List (Option A)) (row : ℕ) (classes keys : List NameRow) → row < length slots → slot_at slots row ≡ None → IsCounted classes_of props_of (take row slots) classes keys → IsCounted classes_of props_of (take (row + 1) slots) classes keys
counted-dead classes_of props_of slots row classes keys within is counted = record {
  classes_counted = λ name. let more = sum_by_more (slot_count (λ y. times own_name (classes_of y) name)) slots row None within in
      counted.classes_counted name ∙ sym (let more_is = rw is at more in omega (arith, more_is));
  keys_counted = λ name. let more = sum_by_more (slot_count (λ y. times prop_key (props_of y) name)) slots row None within in
      counted.keys_counted name ∙ sym (let more_is = rw is at more in omega (arith, more_is));
}

-- one more is gone
pub fewer-more : {A : Type 0} (weight : A → ℕ) (gone : List A) (row : ℕ) (x item : A) (before now after : ℕ) → row < length gone → item ≡ get_or gone row item → x ≡ item → now ≡ before - sum_by weight (take row gone) → after ≡ now - weight x → after ≡ before - sum_by weight (take (row + 1) gone)
fewer-more weight gone row x item before now after within is same so_far less =
    let here : weight x ≡ weight (get_or gone row item) = ap weight (same ∙ is) in
    omega (arith, sum_by_more weight gone row item within, here, so_far, less)
