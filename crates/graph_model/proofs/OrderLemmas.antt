-- Names and values put in order.
use Rattle.std.proofs.Common.{◌≡◌, ◌≢◌, inl, inr, ℕ, ℤ, Bool, true, false, cond, List, [], ◌∷◌, Option, Some, None, refl, sym, ap, ap₂, ◌∙◌}
use Rattle.std.specs.List.{AllByRecursion}
use Rattle.std.specs.Ordering.{nat_cmp, is_lt, ordering_reverse, ordering_then}
use Rattle.std.specs.Cmp.Lexicographic.{slice_cmp, nat_list_cmp_total}
use Rattle.std.specs.declared.cmp.Ordering.{Ordering}
use Rattle.std.specs.declared.cmp.Ordering.TheVariants.{Less, Equal, Greater}
use Rattle.std.proofs.lemmas.Bool.{cases_Bool}
use Rattle.std.proofs.lemmas.Map.Lookups.{exact_unsigned}
use Rattle.graph_model.specs.declared.graph.Prop.{Prop}
use Rattle.graph_model.specs.Lists.{Pairwise, insert_in_order, in_order}
use Rattle.graph_model.specs.Names.{IsBefore}
use Rattle.graph_model.specs.Graph.{KeyBefore}
use Rattle.graph_model.specs.Change.{text_before, key_before, NamesDiffer, KeysDiffer, place_prop, set_prop, set_if_there}
use Rattle.graph_model.proofs.ListLemmas.{All-map_fact}

-- the order of texts, byte by byte
abbrev pub compare : List ℕ → List ℕ → Ordering
compare = slice_cmp nat_cmp

before_trans : (a b c : List ℕ) → IsBefore a b → IsBefore b c → IsBefore a c
before_trans a b c = nat_list_cmp_total.trans a b c

pub both_equal : (a b : Ordering) → ordering_then a b ≡ Equal → (a ≡ Equal) × (b ≡ Equal)
both_equal Less b h = absurd cc
both_equal Equal b h = (refl, h)
both_equal Greater b h = absurd cc

-- texts that compare alike are one
pub exact : (a b : List ℕ) → compare a b ≡ Equal → a ≡ b
exact [] [] h = refl
exact [] (y ∷ ys) h = absurd cc
exact (x ∷ xs) [] h = absurd cc
exact (x ∷ xs) (y ∷ ys) h =
    let parts = both_equal (nat_cmp x y) (compare xs ys) h in
    ap₂ ◌∷◌ (exact_unsigned x y parts.0) (exact xs ys parts.1)

-- the other way round, a comparison answers the reverse
compare-reverse : (a b : List ℕ) (o : Ordering) → compare a b ≡ o → compare b a ≡ ordering_reverse o
compare-reverse a b o h = nat_list_cmp_total.antisymm b a ∙ ap ordering_reverse h

-- what a test for order says of two texts that differ
text_before-yes : (a b : List ℕ) → text_before a b ≡ true → IsBefore a b
text_before-yes a b h = less (compare a b) h
  where
    less : (o : Ordering) → is_lt o ≡ true → o ≡ Less
    less Less h = refl
    less Equal h = absurd cc
    less Greater h = absurd cc

text_before-no : (a b : List ℕ) → text_before a b ≡ false → (b ≢ a) → IsBefore b a
text_before-no a b h differ = reverse (compare a b) refl h
  where
    reverse : (o : Ordering) → compare a b ≡ o → is_lt o ≡ false → IsBefore b a
    reverse Less e h = absurd cc
    reverse Equal e h = absurd (differ (sym (exact a b e)))
    reverse Greater e h = compare-reverse a b Greater e

module _ {A : Type 0} (before : A → A → Bool) where
  -- an item more among those of which something holds
  pub All-insert : (P : A → Type 0) (x : A) (ys : List A) → P x → AllByRecursion P ys → AllByRecursion P (insert_in_order before x ys)
  All-insert P x [] here all = (here, tt)
  All-insert P x (y ∷ ys) here all =
      elim (before y x) as (λ b. AllByRecursion P (cond b (y ∷ insert_in_order before x ys) (x ∷ y ∷ ys))) [
        | true ↦ (all.0, All-insert P x ys here all.1)
        | false ↦ (here, all)
      ]

  pub All-in_order : (P : A → Type 0) (xs : List A) → AllByRecursion P xs → AllByRecursion P (in_order before xs)
  All-in_order P [] all = tt
  All-in_order P (x ∷ xs) all = All-insert P x (in_order before xs) all.0 (All-in_order P xs all.1)

  -- an order R that the test tells of items that differ by D
  module _ (R D : A → A → Type 0) (told : (x y : A) → before y x ≡ true → R y x) (untold : (x y : A) → before y x ≡ false → D x y → R x y) (trans : (x y z : A) → R x y → R y z → R x z) where
    Pairwise-insert : (x : A) (ys : List A) → Pairwise R ys → AllByRecursion (D x) ys → Pairwise R (insert_in_order before x ys)
    Pairwise-insert x [] pairs differ = (tt, tt)
    Pairwise-insert x (y ∷ ys) pairs differ =
        elim (cases_Bool (before y x)) [
          | inl first ↦ rw first (All-insert (R y) x ys (told x y first) pairs.0, Pairwise-insert x ys pairs.1 differ.1)
          | inr later ↦ rw later ((untold x y later differ.0, All-map_fact ys (λ z between. trans x y z (untold x y later differ.0) between) pairs.0), pairs)
        ]

    pub Pairwise-in_order : (xs : List A) → Pairwise D xs → Pairwise R (in_order before xs)
    Pairwise-in_order [] differ = tt
    Pairwise-in_order (x ∷ xs) differ = Pairwise-insert x (in_order before xs) (Pairwise-in_order xs differ.1) (All-in_order (D x) xs differ.0)

-- labels and values in order ascend, where they differ
pub labels_ascend : (labels : List (List ℕ)) → Pairwise NamesDiffer labels → Pairwise IsBefore (in_order text_before labels)
labels_ascend labels differ =
    Pairwise-in_order text_before IsBefore NamesDiffer (λ x y h. text_before-yes y x h) (λ x y h d. text_before-no y x h d) before_trans labels differ

pub props_ascend : (props : List Prop) → Pairwise KeysDiffer props → Pairwise KeyBefore (in_order key_before props)
props_ascend props differ =
    Pairwise-in_order key_before KeyBefore KeysDiffer (λ x y h. text_before-yes y.key x.key h) (λ x y h d. text_before-no y.key x.key h d)
    (λ x y z. before_trans x.key y.key z.key) props differ

-- a value more among those of which something holds
All-set_prop : (P : Prop → Type 0) (key : List ℕ) (value : ℤ) (props : List Prop) → P (record { key = key; value = value })
    → AllByRecursion P props → AllByRecursion P (set_prop key value props)
All-set_prop P key value [] here all = (here, tt)
All-set_prop P key value (first ∷ rest) here all =
    placed (compare key first.key) (All-set_prop P key value rest here all.1)
  where
    placed : (o : Ordering) → AllByRecursion P (set_prop key value rest)
        → AllByRecursion P (place_prop o (record { key = key; value = value }) first rest (set_prop key value rest))
    placed Less later = (here, all)
    placed Equal later = (here, all.1)
    placed Greater later = (all.0, later)

-- values that ascend by key still do when one of them is set
pub set_prop-ascends : (key : List ℕ) (value : ℤ) (props : List Prop) → Pairwise KeyBefore props → Pairwise KeyBefore (set_prop key value props)
set_prop-ascends key value [] pairs = (tt, tt)
set_prop-ascends key value (first ∷ rest) pairs = placed (compare key first.key) refl (set_prop-ascends key value rest pairs.1)
  where
    placed : (o : Ordering) → compare key first.key ≡ o → Pairwise KeyBefore (set_prop key value rest)
        → Pairwise KeyBefore (place_prop o (record { key = key; value = value }) first rest (set_prop key value rest))
    placed Less e later = ((e, All-map_fact rest (λ p after. before_trans key first.key p.key e after) pairs.0), pairs)
    placed Equal e later = (All-map_fact rest (λ p after. nat_list_cmp_total.congr key first.key p.key e ∙ after) pairs.0, pairs.1)
    placed Greater e later = (All-set_prop (KeyBefore first) key value rest (compare-reverse key first.key Greater e) pairs.0, later)

-- so do they where a value is set or none is
pub set_if_there-ascends : (key : List ℕ) (value : Option ℤ) (props : List Prop) → Pairwise KeyBefore props → Pairwise KeyBefore (set_if_there key value props)
set_if_there-ascends key None props pairs = pairs
set_if_there-ascends key (Some value) props pairs = set_prop-ascends key value props pairs
