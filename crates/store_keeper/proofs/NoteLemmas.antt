-- Notes as an ordered map has them, by user and id.
use Rattle.std.proofs.Common.{◌≡◌, inl, inr, ℕ, Bool, true, false, List, [], ◌∷◌, ◌++◌, map, refl, sym, ap, ap₂, ◌∙◌}
use Rattle.std.specs.List.{filter}
use Rattle.std.specs.List.Sorted.{IsStrictlySortedBy}
use Rattle.std.specs.Map.{keys_of}
use Rattle.std.specs.BTreeMap.{insert_entry}
use Rattle.std.specs.Ordering.{nat_cmp, is_lt, ordering_then}
use Rattle.std.specs.Cmp.{IsTotalOrder, then_total, on_total}
use Rattle.std.specs.Cmp.Lexicographic.{slice_cmp, nat_list_cmp_total}
use Rattle.std.specs.declared.cmp.Ordering.{Ordering}
use Rattle.std.specs.declared.cmp.Ordering.TheVariants.{Equal}
use Rattle.std.proofs.lemmas.Bool.{cases_Bool}
use Rattle.graph_model.specs.declared.change.ChangeReply.{ChangeReply}
use Rattle.graph_model.specs.declared.kept.ImportNote.{ImportNote}
use Rattle.graph_model.specs.Kept.{note_order}
use Rattle.graph_model.specs.Lists.{placed}
use Rattle.graph_model.proofs.OrderLemmas.{both_equal, exact}
use Rattle.graph_model.proofs.Placed.{ascending_keys, inserted-placed}
use Rattle.store_keeper.specs.declared.notes.NoteKey.{NoteKey}
use Rattle.store_keeper.specs.Held.{note_of}

-- the order of keys: by user, and then by id
abbrev pub key_order : NoteKey → NoteKey → Ordering
key_order a b = ordering_then (slice_cmp nat_cmp a.user b.user) (slice_cmp nat_cmp a.id b.id)

key_order_total : IsTotalOrder key_order
key_order_total = then_total (on_total (λ (k : NoteKey). k.user) nat_list_cmp_total) (on_total (λ (k : NoteKey). k.id) nat_list_cmp_total)

-- keys that compare as equal are one
key_exact : (a b : NoteKey) → key_order a b ≡ Equal → a ≡ b
key_exact a b h =
    let parts = both_equal (slice_cmp nat_cmp a.user b.user) (slice_cmp nat_cmp a.id b.id) h in
    ap₂ (λ (user id : List ℕ). record { user = user; id = id }) (exact a.user b.user parts.0) (exact a.id b.id parts.1)

module _ {A B : Type 0} (f : A → B) (first : A → A → Ordering) (second : B → B → Ordering) (same : (a b : A) → first a b ≡ second (f a) (f b)) where
  map-kept : (test : A → Bool) (passes : B → Bool) → ((a : A) → test a ≡ passes (f a)) → (xs : List A) → map f (filter test xs) ≡ filter passes (map f xs)
  map-kept test passes alike [] = refl
  map-kept test passes alike (x ∷ xs) =
      elim (cases_Bool (test x)) [
        | inl kept ↦ rw (kept, sym (alike x) ∙ kept) (ap (λ (ys : List B). f x ∷ ys) (map-kept test passes alike xs))
        | inr gone ↦ rw (gone, sym (alike x) ∙ gone) (map-kept test passes alike xs)
      ]

  map-append : (xs ys : List A) → map f (xs ++ ys) ≡ map f xs ++ map f ys
  map-append [] ys = refl
  map-append (x ∷ xs) ys = ap (λ (zs : List B). f x ∷ zs) (map-append xs ys)

  -- an item goes to the same place among what items stand for
  pub map-placed : (x : A) (xs : List A) → map f (placed first x xs) ≡ placed second (f x) (map f xs)
  map-placed x xs =
      map-append (filter (λ y. is_lt (first y x)) xs) (x ∷ filter (λ y. is_lt (first x y)) xs)
      ∙ ap₂ (λ (front back : List B). front ++ f x ∷ back)
      (map-kept (λ y. is_lt (first y x)) (λ y. is_lt (second y (f x))) (λ y. ap is_lt (same y x)) xs)
      (map-kept (λ y. is_lt (first x y)) (λ y. is_lt (second (f x) y)) (λ y. ap is_lt (same x y)) xs)

-- a note that the map takes in goes to its place
pub inserted_note : (es : List (NoteKey × ChangeReply)) (key : NoteKey) (answer : ChangeReply) → IsStrictlySortedBy key_order (keys_of es)
    → map note_of (insert_entry key_order es key answer) ≡ placed note_order (note_of (key, answer)) (map note_of es)
inserted_note es key answer sorted =
    ap (map note_of) (inserted-placed key_order key_order_total key_exact es key answer (ascending_keys key_order key_order_total key_exact es sorted))
    ∙ map-placed note_of (λ a b. key_order a.0 b.0) note_order (λ a b. refl) (key, answer) es
