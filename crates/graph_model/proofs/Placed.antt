-- Items put at their place among items in order.
use Rattle.std.proofs.Common.{◌≡◌, inl, inr, ℕ, suc, Bool, true, false, not, ◌+◌, ◌<◌, ◌≤◌, length, List, [], ◌∷◌, ◌++◌, take, drop, get_or, refl, sym, ap, ap₂, ◌∙◌, subst, arith}
use Rattle.std.specs.List.{AllByRecursion, filter}
use Rattle.std.specs.List.Sorted.{IsStrictlySortedBy}
use Rattle.std.specs.Ordering.{is_eq, is_lt, ordering_reverse, match_ordering}
use Rattle.std.specs.Cmp.{IsTotalOrder}
use Rattle.std.specs.declared.cmp.Ordering.{Ordering}
use Rattle.std.specs.declared.cmp.Ordering.TheVariants.{Less, Equal, Greater}
use Rattle.std.specs.Map.{keys_of}
use Rattle.std.specs.BTreeMap.{insert_entry}
use Rattle.std.proofs.lemmas.Map.Keys.{sorted_head, sorted_tail}
use Rattle.std.proofs.lemmas.Bool.{cases_Bool}
use Rattle.std.proofs.Math.Seq.{drop-cons}
use Rattle.std.proofs.lemmas.List.{length-append, take-append-drop, take_more}
use Rattle.graph_model.specs.Lists.{Pairwise, placed}
use Rattle.graph_model.proofs.ListLemmas.{All-map_fact, All-filter, All-front, Pairwise-kept, Pairwise-append}

module _ {A : Type 0} (order : A → A → Ordering) (o : IsTotalOrder order) where
  -- an item comes before another
  abbrev pub Before : A → A → Type 0
  Before x y = order x y ≡ Less

  -- whether an item comes before, and behind, another
  abbrev pub is_before : A → A → Bool
  is_before x y = is_lt (order y x)

  abbrev pub is_behind : A → A → Bool
  is_behind x y = is_lt (order x y)

  -- the other way round, a comparison answers the reverse
  pub reversed : (x y : A) (r : Ordering) → order x y ≡ r → order y x ≡ ordering_reverse r
  reversed x y r h = o.antisymm y x ∙ ap ordering_reverse h

  -- of items that are all behind one, none is before it, and all are behind
  pub none-before : (x : A) (ys : List A) → AllByRecursion (Before x) ys → filter (is_before x) ys ≡ []
  none-before x [] all = refl
  none-before x (y ∷ ys) all = rw (reversed x y Less all.0) (none-before x ys all.1)

  pub all-behind : (x : A) (ys : List A) → AllByRecursion (Before x) ys → filter (is_behind x) ys ≡ ys
  all-behind x [] all = refl
  all-behind x (y ∷ ys) all = rw all.0 (ap (λ rest. y ∷ rest) (all-behind x ys all.1))

  -- of items that are all before one, all are before it, and none is behind
  pub all-before : (x : A) (ys : List A) → AllByRecursion (λ y. Before y x) ys → filter (is_before x) ys ≡ ys
  all-before x [] all = refl
  all-before x (y ∷ ys) all = rw all.0 (ap (λ rest. y ∷ rest) (all-before x ys all.1))

  pub none-behind : (x : A) (ys : List A) → AllByRecursion (λ y. Before y x) ys → filter (is_behind x) ys ≡ []
  none-behind x [] all = refl
  none-behind x (y ∷ ys) all = rw (reversed y x Less all.0) (none-behind x ys all.1)

  -- an item that comes behind all others goes to the end
  pub placed-end : (x : A) (ys : List A) → AllByRecursion (λ y. Before y x) ys → placed order x ys ≡ ys ++ x ∷ []
  placed-end x ys all = ap₂ (λ front back. front ++ x ∷ back) (all-before x ys all) (none-behind x ys all)

  -- of items in order, those in front of one come before it, and stand in order
  pub front-before : (front back : List A) (x : A) → Pairwise Before (front ++ x ∷ back) → AllByRecursion (λ y. Before y x) front
  front-before [] back x pairs = tt
  front-before (y ∷ front) back x pairs = (first front pairs.0, front-before front back x pairs.1)
    where
      first : (zs : List A) → AllByRecursion (Before y) (zs ++ x ∷ back) → Before y x
      first [] all = all.0
      first (z ∷ zs) all = first zs all.1

  pub front-ascends : (front back : List A) → Pairwise Before (front ++ back) → Pairwise Before front
  front-ascends [] back pairs = tt
  front-ascends (y ∷ front) back pairs = (All-front (Before y) front back pairs.0, front-ascends front back pairs.1)

  -- the next of items in order goes to the end of those in front of it
  pub placed-next : (xs : List A) (i : ℕ) (d : A) → i < length xs → Pairwise Before xs → placed order (get_or xs i d) (take i xs) ≡ take (i + 1) xs
  placed-next xs i d within pairs =
      let cut : xs ≡ take i xs ++ get_or xs i d ∷ drop (suc i) xs = sym (take-append-drop i xs) ∙ ap (λ (rest : List A). take i xs ++ rest) (drop-cons xs i d within) in
      placed-end (get_or xs i d) (take i xs) (front-before (take i xs) (drop (suc i) xs) (get_or xs i d) (subst (Pairwise Before) cut pairs))
      ∙ sym (take_more xs i d within)

  -- items before an item are before those behind it
  later : (x y : A) (ys : List A) → Before x y → AllByRecursion (Before y) ys → AllByRecursion (Before x) ys
  later x y ys first all = All-map_fact ys (λ z behind. o.trans x y z first behind) all

  -- whether an item is another than one, by their order
  abbrev pub is_other : A → A → Bool
  is_other x y = not (is_eq (order y x))

  -- those before an item and those behind it are all but the ones that are the same
  pub split : (x : A) (ys : List A) → Pairwise Before ys → filter (is_before x) ys ++ filter (is_behind x) ys ≡ filter (is_other x) ys
  split x [] pairs = refl
  split x (y ∷ ys) pairs = by (order y x) refl (split x ys pairs.1)
    where
      by : (r : Ordering) → order y x ≡ r → filter (is_before x) ys ++ filter (is_behind x) ys ≡ filter (is_other x) ys
          → filter (is_before x) (y ∷ ys) ++ filter (is_behind x) (y ∷ ys) ≡ filter (is_other x) (y ∷ ys)
      by Less e rest = rw (e, reversed y x Less e) (ap (λ (zs : List A). y ∷ zs) rest)
      by Equal e rest = rw (e, reversed y x Equal e) rest
      by Greater e rest =
          let behind = later x y ys (reversed y x Greater e) pairs.0 in
          let none = none-before x ys behind in
          rw (e, reversed y x Greater e)
          (ap (λ (front : List A). front ++ y ∷ filter (is_behind x) ys) none
          ∙ ap (λ (zs : List A). y ∷ zs) (ap (λ (front : List A). front ++ filter (is_behind x) ys) (sym none) ∙ rest))

  -- items in order stay so with one more
  passes : (r : Ordering) → is_lt r ≡ true → r ≡ Less
  passes Less h = refl
  passes Equal h = absurd cc
  passes Greater h = absurd cc

  kept-before : (x : A) (ys : List A) → AllByRecursion (λ y. Before y x) (filter (is_before x) ys)
  kept-before x ys = All-filter (λ y. Before y x) (is_before x) ys (everywhere ys)
    where
      everywhere : (zs : List A) → AllByRecursion (λ y. is_before x y ≡ true → Before y x) zs
      everywhere [] = tt
      everywhere (z ∷ zs) = (λ h. passes (order z x) h, everywhere zs)

  kept-behind : (x : A) (ys : List A) → AllByRecursion (Before x) (filter (is_behind x) ys)
  kept-behind x ys = All-filter (Before x) (is_behind x) ys (everywhere ys)
    where
      everywhere : (zs : List A) → AllByRecursion (λ y. is_behind x y ≡ true → Before x y) zs
      everywhere [] = tt
      everywhere (z ∷ zs) = (λ h. passes (order x z) h, everywhere zs)

  pub placed-ascends : (x : A) (ys : List A) → Pairwise Before ys → Pairwise Before (placed order x ys)
  placed-ascends x ys pairs =
      Pairwise-append Before (filter (is_before x) ys) (x ∷ filter (is_behind x) ys) (Pairwise-kept Before (is_before x) ys pairs)
      (kept-behind x ys, Pairwise-kept Before (is_behind x) ys pairs)
      (All-map_fact (filter (is_before x) ys) (λ y before. (before, later y x (filter (is_behind x) ys) before (kept-behind x ys))) (kept-before x ys))

  -- one more item is at most one more
  shorter : (test : A → Bool) (ys : List A) → length (filter test ys) ≤ length ys
  shorter test [] = omega arith
  shorter test (y ∷ ys) =
      elim (cases_Bool (test y)) [
        | inl passes ↦ rw passes (omega (arith, shorter test ys))
        | inr fails ↦ rw fails (omega (arith, shorter test ys))
      ]

  pub length-placed : (x : A) (ys : List A) → Pairwise Before ys → length (placed order x ys) ≤ length ys + 1
  length-placed x ys pairs =
      omega (arith, length-append (filter (is_before x) ys) (x ∷ filter (is_behind x) ys), sym (length-append (filter (is_before x) ys) (filter (is_behind x) ys)) ∙ ap length (split x ys pairs), shorter (is_other x) ys)

-- what an ordered map does with a key and a value, where keys that compare as equal are one
module _ {K X : Type 0} (cmp : K → K → Ordering) (o : IsTotalOrder cmp) (exact : (a b : K) → cmp a b ≡ Equal → a ≡ b) where
  -- the order of entries is that of their keys
  abbrev pub by_key : K × X → K × X → Ordering
  by_key a b = cmp a.0 b.0

  by_key_total : IsTotalOrder by_key
  by_key_total = record {
    antisymm = λ x y. o.antisymm x.0 y.0;
    trans = λ x y z. o.trans x.0 y.0 z.0;
    congr = λ x y z. o.congr x.0 y.0 z.0;
  }

  -- entries whose keys ascend stand in order
  entries_behind : (e : K × X) (es : List (K × X)) → AllByRecursion (λ q. cmp e.0 q ≡ Less) (keys_of es) → AllByRecursion (λ (f : K × X). by_key e f ≡ Less) es
  entries_behind e [] all = tt
  entries_behind e (f ∷ es) all = (all.0, entries_behind e es all.1)

  pub ascending_keys : (es : List (K × X)) → IsStrictlySortedBy cmp (keys_of es) → Pairwise (λ a b. by_key a b ≡ Less) es
  ascending_keys [] sorted = tt
  ascending_keys (e ∷ es) sorted = (entries_behind e es (sorted_head cmp e.0 (keys_of es) sorted), ascending_keys es (sorted_tail cmp e.0 (keys_of es) sorted))

  pub inserted-placed : (es : List (K × X)) (k : K) (v : X) → Pairwise (λ a b. by_key a b ≡ Less) es → insert_entry cmp es k v ≡ placed by_key (k, v) es
  inserted-placed [] k v pairs = refl
  inserted-placed (e ∷ es) k v pairs = by (cmp k e.0) refl (inserted-placed es k v pairs.1)
    where
      by : (r : Ordering) → cmp k e.0 ≡ r → insert_entry cmp es k v ≡ placed by_key (k, v) es
          → insert_entry cmp (e ∷ es) k v ≡ placed by_key (k, v) (e ∷ es)
      by Less h rest =
          let all : AllByRecursion (λ (f : K × X). by_key (k, v) f ≡ Less) es = All-map_fact es (λ f after. o.trans k e.0 f.0 h after) pairs.0 in
          rw (h, reversed by_key by_key_total (k, v) e Less h)
          (ap₂ (λ (front back : List (K × X)). front ++ (k, v) ∷ e ∷ back) (sym (none-before by_key by_key_total (k, v) es all)) (sym (all-behind by_key by_key_total (k, v) es all)))
      by Equal h rest =
          let all : AllByRecursion (λ (f : K × X). by_key (k, v) f ≡ Less) es = All-map_fact es (λ f after. o.congr k e.0 f.0 h ∙ after) pairs.0 in
          rw (h, reversed by_key by_key_total (k, v) e Equal h)
          (ap (λ q. (q, v) ∷ es) (sym (exact k e.0 h))
          ∙ ap₂ (λ (front back : List (K × X)). front ++ (k, v) ∷ back) (sym (none-before by_key by_key_total (k, v) es all)) (sym (all-behind by_key by_key_total (k, v) es all)))
      by Greater h rest = rw (h, reversed by_key by_key_total (k, v) e Greater h) (ap (λ (fs : List (K × X)). e ∷ fs) rest)
