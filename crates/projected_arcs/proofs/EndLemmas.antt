-- Ends of arcs at their places among ids.
use Rattle.std.proofs.Common.{◌≡◌, ℕ, ◌+◌, ◌-◌, ◌<◌, ◌≤◌, Bool, true, false, true≢false, cond, eqb, ltb, nat_lt, ◌&&◌, ◌||◌, List, [], ◌∷◌, length, map, get_or, Option, Some, None, is_some, unwrap_or, refl, sym, ap, subst, ◌∙◌, ⊎_elim, suc, zero, arith}
use Rattle.std.proofs.lemmas.Bool.{cases_Bool, cases_lt, cases_order, eqb-true, eqb-false, lt-ltb, le-ltb, ne_eqb}
use Rattle.std.proofs.lemmas.List.{length-map, get_or-map}
use Rattle.std.specs.List.{AllByRecursion}
use Rattle.std.specs.List.Sorted.{IsSorted, IsStrictlyIncreasing}
use Rattle.std.specs.Ordering.{nat_cmp, ordering_then, is_lt}
use Rattle.csr_columns.specs.Rows.{LiesBelow, arc_cmp}
use Rattle.csr_columns.proofs.Increasing.{increasing-less}
use Rattle.projected_arcs.specs.Places.{place_from, place_of, slot_at, place_or_zero, AreSlots}
use Rattle.projected_arcs.proofs.ListLemmas.{All-at}
use Rattle.projected_arcs.proofs.RawLemmas.{lt-then, lt-last}

-- an id stands at a place among ids
pub record IsFound (ids : List ℕ) (id place : ℕ) : Type 0 where
  pub within : place < length ids
  pub stands : get_or ids place 0 ≡ id

found-behind : (first id place : ℕ) (ids : List ℕ) → place_from first ids id ≡ Some place → (first ≤ place) × (place < first + length ids) × (get_or ids (place - first) 0 ≡ id)
found-behind first id place [] is = absurd (true≢false (sym (ap is_some is)))
found-behind first id place (x ∷ ids) is =
    ⊎_elim
    (λ (here : eqb x id ≡ true).
    let e : first ≡ place = ap (λ found. unwrap_or found 0) (sym (ap (λ b. cond b (Some first) (place_from (first + 1) ids id)) here) ∙ is) in
    let at : place - first ≡ 0 = omega arith in
    (omega arith, omega arith, ap (λ n. get_or (x ∷ ids) n 0) at ∙ eqb-true x id here))
    (λ (later : eqb x id ≡ false).
    let rest = found-behind (first + 1) id place ids (sym (ap (λ b. cond b (Some first) (place_from (first + 1) ids id)) later) ∙ is) in
    let at : place - first ≡ suc (place - (first + 1)) = omega (arith, rest.0) in
    (omega (arith, rest.0), omega (arith, rest.1), ap (λ n. get_or (x ∷ ids) n 0) at ∙ rest.2))
    (cases_Bool (eqb x id))

-- an id that has a place stands there
pub placed-found : (ids slots : List ℕ) (id : ℕ) → AreSlots ids slots → is_some (slot_at slots id) ≡ true → IsFound ids id (place_or_zero slots id)
placed-found ids slots id are some = by (slot_at slots id) refl (sym (are id)) some
  where
    by : (slot : Option ℕ) → slot_at slots id ≡ slot → place_of ids id ≡ slot_at slots id → is_some slot ≡ true → IsFound ids id (place_or_zero slots id)
    by None is placed there = absurd (true≢false (sym there))
    by (Some place) is placed there =
        let found = found-behind 0 id place ids (placed ∙ is) in
        let at : place_or_zero slots id ≡ place = ap (λ s. unwrap_or s 0) is in
        rw at (record { within = omega (arith, found.1); stands = ap (λ n. get_or ids n 0) (omega arith) ∙ found.2 })

-- places are ordered as ids
place-le : (ids : List ℕ) (a b p q : ℕ) → IsStrictlyIncreasing ids → IsFound ids a p → IsFound ids b q → a ≤ b → p ≤ q
place-le ids a b p q up at_p at_q le =
    ⊎_elim
    (λ (lt : q < p). absurd (omega (arith, increasing-less ids q p lt at_p.within up, at_p.stands, at_q.stands, le)))
    (λ (ge : p ≤ q). ge)
    (cases_lt q p)

place-same : (ids : List ℕ) (a b p q : ℕ) → IsStrictlyIncreasing ids → IsFound ids a p → IsFound ids b q → p ≡ q → a ≡ b
place-same ids a b p q up at_p at_q same = sym at_p.stands ∙ ap (λ n. get_or ids n 0) same ∙ at_q.stands

-- the ends of one arc don't come after those of another
pub record EndsInOrder (source target next_source next_target : ℕ) : Type 0 where
  pub sources : source ≤ next_source
  pub targets : source ≡ next_source → target ≤ next_target

-- an arc that doesn't come before another: its ends come no earlier
not-lt : (a b : ℕ) → nat_lt b a ≡ false → a ≤ b
not-lt a b fails = ⊎_elim (λ (lt : b < a). absurd (true≢false (sym (lt-ltb b a lt) ∙ fails))) (λ (ge : a ≤ b). ge) (cases_lt b a)

pub in-order-from : (source target next_source next_target : ℕ) (last : Bool) → (nat_lt next_source source || (eqb next_source source && (nat_lt next_target target || last))) ≡ false → EndsInOrder source target next_source next_target
in-order-from s t ns nt last fails =
    let first : nat_lt ns s ≡ false = ⊎_elim (λ (lt : nat_lt ns s ≡ true). absurd (true≢false (sym (ap (λ b. b || (eqb ns s && (nat_lt nt t || last))) lt) ∙ fails))) (λ (f : nat_lt ns s ≡ false). f) (cases_Bool (nat_lt ns s)) in
    record {
      sources = not-lt s ns first;
      targets = λ same. ⊎_elim
          (λ (lt : nat_lt nt t ≡ true).
          absurd (true≢false (sym (ap (λ b. b || (eqb ns s && (nat_lt nt t || last))) first
          ∙ ap (λ b. b && (nat_lt nt t || last)) (eq-true ns s (sym same))
          ∙ ap (λ b. b || last) lt) ∙ fails)))
          (λ (f : nat_lt nt t ≡ false). not-lt t nt f)
          (cases_Bool (nat_lt nt t));
    }
  where
    eq-true : (a b : ℕ) → a ≡ b → eqb a b ≡ true
    eq-true a b e = ⊎_elim (λ (t : eqb a b ≡ true). t) (λ (f : eqb a b ≡ false). absurd (eqb-false a b f e)) (cases_Bool (eqb a b))

-- ends at places are in order as the ids are
ends-sorted-at : (ids : List ℕ) (s t ns nt ps pt pns pnt : ℕ) → IsStrictlyIncreasing ids → IsFound ids s ps → IsFound ids t pt → IsFound ids ns pns → IsFound ids nt pnt → EndsInOrder s t ns nt
    → is_lt (arc_cmp (pns, pnt) (ps, pt)) ≡ false
ends-sorted-at ids s t ns nt ps pt pns pnt up at_s at_t at_ns at_nt order =
    let sources : ps ≤ pns = place-le ids s ns ps pns up at_s at_ns order.sources in
    lt-then pns ps (nat_cmp pnt pt)
    ∙ ap (λ b. b || (eqb pns ps && is_lt (nat_cmp pnt pt))) (le-ltb pns ps sources)
    ∙ ⊎_elim
    (λ (e : eqb pns ps ≡ true).
    let same : s ≡ ns = place-same ids s ns ps pns up at_s at_ns (sym (eqb-true pns ps e)) in
    ap (λ b. eqb pns ps && b) (lt-last pnt pt ∙ le-ltb pnt pt (place-le ids t nt pt pnt up at_t at_nt (order.targets same)))
    ∙ elim (eqb pns ps) as (λ b. (b && false) ≡ false) [ true ↦ refl | false ↦ refl ])
    (λ (e : eqb pns ps ≡ false). ap (λ b. b && is_lt (nat_cmp pnt pt)) e)
    (cases_Bool (eqb pns ps))

module _ {A : Type 0} (ids slots : List ℕ) (source target : A → ℕ) where
  -- the ends of an item have places
  pub record IsPlaced (item : A) : Type 0 where
    pub source_found : IsFound ids (source item) (place_or_zero slots (source item))
    pub target_found : IsFound ids (target item) (place_or_zero slots (target item))

  abbrev pub ends_at : A → ℕ × ℕ
  ends_at item = (place_or_zero slots (source item), place_or_zero slots (target item))

  -- the ends of all items lie below the number of ids
  pub ends-below : (items : List A) → AllByRecursion IsPlaced items → AllByRecursion (LiesBelow (length ids)) (map ends_at items)
  ends-below [] placed = tt
  ends-below (item ∷ items) placed = ((placed.0.source_found.within, placed.0.target_found.within), ends-below items placed.1)

  -- the ends of items in order are in order
  pub ends-sorted : (items : List A) → IsStrictlyIncreasing ids → AllByRecursion IsPlaced items
      → ((k : ℕ) (d : A) → k + 1 < length items → EndsInOrder (source (get_or items k d)) (target (get_or items k d)) (source (get_or items (k + 1) d)) (target (get_or items (k + 1) d)))
      → IsSorted arc_cmp (map ends_at items)
  ends-sorted [] up placed order = λ k d low high. absurd (omega arith)
  ends-sorted (first ∷ rest) up placed order = λ k d low high.
      let items = first ∷ rest in
      let within : k + 1 < length items = omega (arith, high, length-map items ends_at) in
      let here = All-at IsPlaced items k first (omega arith) placed in
      let next = All-at IsPlaced items (k + 1) first within placed in
      rw (get_or-map ends_at items k first d (omega arith), get_or-map ends_at items (k + 1) first d within)
      (ends-sorted-at ids (source (get_or items k first)) (target (get_or items k first)) (source (get_or items (k + 1) first)) (target (get_or items (k + 1) first))
      (place_or_zero slots (source (get_or items k first))) (place_or_zero slots (target (get_or items k first))) (place_or_zero slots (source (get_or items (k + 1) first))) (place_or_zero slots (target (get_or items (k + 1) first)))
      up here.source_found here.target_found next.source_found next.target_found (order k first within))
