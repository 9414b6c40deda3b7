-- The first group of arcs in order is the arcs at the front that have the ends of the first.
use Rattle.std.proofs.Common.{◌≡◌, suc, Some, slice_get, ℕ, ◌<◌, List, [], ◌∷◌, ◌++◌, take, drop, map, Bool, true, false, not, ◌&&◌, eqb, filter, refl, sym, ap, ap₂, ◌∙◌, inl, inr, arith, one-add, take-append-drop}
use Rattle.std.specs.List.{AllByRecursion, prefix_len}
use Rattle.std.proofs.lemmas.Bool.{cases_Bool, and_parts, eqb-true, not-true}
use Rattle.std.proofs.lemmas.Bool.Decides.{nat_tests}
use Rattle.std.proofs.lemmas.List.Elements.{filter_agree}
use Rattle.graph_model.specs.Lists.{Pairwise}
use Rattle.projection_spec.specs.declared.arcs.RawArc.{RawArc}
use Rattle.projection_spec.specs.RawArcs.{ArcInOrder}
use Rattle.projection_spec.specs.KeptArcs.{ArcGroup, leads, has_other_ends, with_arcs, ends_of, groups_of}
use Rattle.rel_aggregate.specs.Groups.{RelInOrder, LeastFirst, group_from}

-- arcs that lead, or don't lead, from one node to another
abbrev Lead : ℕ → ℕ → RawArc → Type 0
Lead s t arc = leads s t arc ≡ true

abbrev LeadElsewhere : ℕ → ℕ → RawArc → Type 0
LeadElsewhere s t arc = leads s t arc ≡ false

-- arcs in order don't come back to ends that they have left
no_return : (arc next later : RawArc) → ArcInOrder arc next → ArcInOrder next later → LeadElsewhere arc.source arc.target next → LeadElsewhere arc.source arc.target later
no_return arc next later first second left = grind (arith, nat_tests, first, second, left)

rel_in_order : (arc other : RawArc) → ArcInOrder arc other → Lead arc.source arc.target other → RelInOrder arc other
rel_in_order arc other order same = grind (arith, nat_tests, order, same)

none_return : (arc next : RawArc) (arcs : List RawArc) → ArcInOrder arc next → AllByRecursion (ArcInOrder next) arcs → LeadElsewhere arc.source arc.target next → AllByRecursion (LeadElsewhere arc.source arc.target) arcs
none_return arc next [] first order left = tt
none_return arc next (later ∷ arcs) first order left =
    (no_return arc next later first order.0 left, none_return arc next arcs first order.1 left)

front_leads : (s t : ℕ) (arcs : List RawArc) → AllByRecursion (Lead s t) (take (prefix_len (leads s t) arcs) arcs)
front_leads s t [] = tt
front_leads s t (arc ∷ arcs) =
    elim (cases_Bool (leads s t arc)) [
      | inl is ↦ rw (is, one-add (prefix_len (leads s t) arcs)) (is, front_leads s t arcs)
      | inr isnt ↦ rw isnt tt
    ]

back_leads_elsewhere : (arc : RawArc) (arcs : List RawArc) → Pairwise ArcInOrder (arc ∷ arcs) → AllByRecursion (LeadElsewhere arc.source arc.target) (drop (prefix_len (leads arc.source arc.target) arcs) arcs)
back_leads_elsewhere arc [] order = tt
back_leads_elsewhere arc (next ∷ arcs) order =
    elim (cases_Bool (leads arc.source arc.target next)) [
      | inl is ↦ rw (is, one-add (prefix_len (leads arc.source arc.target) arcs)) (back_leads_elsewhere arc arcs (order.0.1, order.1.1))
      | inr isnt ↦ rw isnt (isnt, none_return arc next arcs order.0.0 order.1.0 isnt)
    ]

front_in_order : (arc : RawArc) (arcs : List RawArc) → AllByRecursion (ArcInOrder arc) arcs → AllByRecursion (RelInOrder arc) (take (prefix_len (leads arc.source arc.target) arcs) arcs)
front_in_order arc [] order = tt
front_in_order arc (next ∷ arcs) order =
    elim (cases_Bool (leads arc.source arc.target next)) [
      | inl is ↦ rw (is, one-add (prefix_len (leads arc.source arc.target) arcs)) (rel_in_order arc next order.0 is, front_in_order arc arcs order.1)
      | inr isnt ↦ rw isnt tt
    ]

filter_elsewhere : (s t : ℕ) (arcs : List RawArc) → AllByRecursion (LeadElsewhere s t) arcs → filter (leads s t) arcs ≡ []
filter_elsewhere s t [] h = refl
filter_elsewhere s t (arc ∷ arcs) h = rw h.0 (filter_elsewhere s t arcs h.1)

filter_front : (s t : ℕ) (front back : List RawArc) → AllByRecursion (Lead s t) front → AllByRecursion (LeadElsewhere s t) back → filter (leads s t) (front ++ back) ≡ front
filter_front s t [] back here elsewhere = filter_elsewhere s t back elsewhere
filter_front s t (arc ∷ front) back here elsewhere =
    rw here.0 (ap (λ arcs. arc ∷ arcs) (filter_front s t front back here.1 elsewhere))

-- arcs with the same ends are told apart from groups alike
same_ends : (arc other : RawArc) → Lead arc.source arc.target other → (other.source ≡ arc.source) × (other.target ≡ arc.target)
same_ends arc other here =
    let parts = and_parts (eqb other.source arc.source) (eqb other.target arc.target) here in
    (eqb-true other.source arc.source parts.0, eqb-true other.target arc.target parts.1)

same_others : (arc other : RawArc) (group : ArcGroup) → Lead arc.source arc.target other → has_other_ends other group ≡ has_other_ends arc group
same_others arc other group here =
    let ends = same_ends arc other here in
    ap₂ (λ s t. not (eqb s group.source && eqb t group.target)) ends.0 ends.1

-- a group has other ends than an arc
abbrev IsOther : RawArc → ArcGroup → Type 0
IsOther arc group = has_other_ends arc group ≡ true

All-filter : {A : Type 0} (P : A → Type 0) (p : A → Bool) (xs : List A) → AllByRecursion P xs → AllByRecursion P (filter p xs)
All-filter P p [] h = tt
All-filter P p (x ∷ xs) h =
    elim (cases_Bool (p x)) [ inl is ↦ rw is (h.0, All-filter P p xs h.1) | inr isnt ↦ rw isnt (All-filter P p xs h.1) ]

filter-all : {A : Type 0} (p : A → Bool) (xs : List A) → AllByRecursion (λ x. p x ≡ true) xs → filter p xs ≡ xs
filter-all p [] h = refl
filter-all p (x ∷ xs) h = rw h.0 (ap (λ rest. x ∷ rest) (filter-all p xs h.1))

filter-again : {A : Type 0} (p : A → Bool) (xs : List A) → filter p (filter p xs) ≡ filter p xs
filter-again p [] = refl
filter-again p (x ∷ xs) =
    elim (cases_Bool (p x)) [ inl is ↦ rw (is, is) (ap (λ rest. x ∷ rest) (filter-again p xs)) | inr isnt ↦ rw isnt (filter-again p xs) ]

other_ends : (arc next : RawArc) → LeadElsewhere arc.source arc.target next → IsOther arc (record { source = next.source; target = next.target; arcs = [] })
other_ends arc next elsewhere = grind (arith, nat_tests, elsewhere)

ends_elsewhere : (arc : RawArc) (arcs : List RawArc) → AllByRecursion (LeadElsewhere arc.source arc.target) arcs → AllByRecursion (IsOther arc) (ends_of arcs)
ends_elsewhere arc [] h = tt
ends_elsewhere arc (next ∷ arcs) h =
    (other_ends arc next h.0, All-filter (IsOther arc) (has_other_ends next) (ends_of arcs) (ends_elsewhere arc arcs h.1))

own_ends : (arc other : RawArc) → Lead arc.source arc.target other → has_other_ends arc (record { source = other.source; target = other.target; arcs = [] }) ≡ false
own_ends arc other here = grind (arith, nat_tests, here)

-- the ends of arcs, but for those of the arcs at the front
other_ends_of : (arc : RawArc) (front back : List RawArc) → AllByRecursion (Lead arc.source arc.target) front → AllByRecursion (LeadElsewhere arc.source arc.target) back → filter (has_other_ends arc) (ends_of (front ++ back)) ≡ ends_of back
other_ends_of arc [] back here elsewhere = filter-all (has_other_ends arc) (ends_of back) (ends_elsewhere arc back elsewhere)
other_ends_of arc (next ∷ front) back here elsewhere =
    rw (own_ends arc next here.0, filter_agree (has_other_ends next) (has_other_ends arc) (λ group. same_others arc next group here.0) (ends_of (front ++ back)), filter-again (has_other_ends arc) (ends_of (front ++ back))) (other_ends_of arc front back here.1 elsewhere)

other_leads : (arc next : RawArc) (group : ArcGroup) → Lead arc.source arc.target next → IsOther arc group → leads group.source group.target next ≡ false
other_leads arc next group here other =
    let ends = same_ends arc next here in
    rw (ends.0, ends.1) (not-true (leads group.source group.target arc) other)

filter_back : (arc : RawArc) (front back : List RawArc) (group : ArcGroup) → AllByRecursion (Lead arc.source arc.target) front → IsOther arc group → filter (leads group.source group.target) (front ++ back) ≡ filter (leads group.source group.target) back
filter_back arc [] back group here other = refl
filter_back arc (next ∷ front) back group here other =
    rw (other_leads arc next group here.0 other) (filter_back arc front back group here.1 other)

groups_back : (arc : RawArc) (front back : List RawArc) (groups : List ArcGroup) → AllByRecursion (Lead arc.source arc.target) front → AllByRecursion (IsOther arc) groups → map (with_arcs (front ++ back)) groups ≡ map (with_arcs back) groups
groups_back arc front back [] here others = refl
groups_back arc front back (group ∷ groups) here others =
    ap₂ ◌∷◌ (ap (λ arcs. record group { arcs = arcs }) (filter_back arc front back group here others.0)) (groups_back arc front back groups here others.1)

itself : (arc : RawArc) → Lead arc.source arc.target arc
itself arc = grind (arith, nat_tests)

-- the groups of arcs of which those at the front have the ends of the first, and no others have
groups_of_parts : (arc : RawArc) (front back : List RawArc) → AllByRecursion (Lead arc.source arc.target) front → AllByRecursion (LeadElsewhere arc.source arc.target) back → groups_of true (arc ∷ (front ++ back)) ≡ group_from (arc ∷ front) ∷ groups_of true back
groups_of_parts arc front back here elsewhere = ap₂ ◌∷◌
    (ap (λ arcs. record { source = arc.source; target = arc.target; arcs = arcs }) (filter_front arc.source arc.target (arc ∷ front) back (itself arc, here) elsewhere))
    (ap (map (with_arcs (arc ∷ (front ++ back)))) (other_ends_of arc front back here elsewhere) ∙ groups_back arc (arc ∷ front) back (ends_of back) (itself arc, here) (ends_elsewhere arc back elsewhere))

-- how many arcs at the front have the ends of an arc
abbrev pub leading : RawArc → List RawArc → ℕ
leading arc arcs = prefix_len (leads arc.source arc.target) arcs

-- the first group of arcs in order is those at the front that have the ends of the first
pub record IsFirstGroup (arcs : List RawArc) (count : ℕ) : Type 0 where
  pub some : 0 < count
  pub cut : groups_of true arcs ≡ group_from (take count arcs) ∷ groups_of true (drop count arcs)
  pub least_first : LeastFirst (take count arcs)

IsFirstGroup-leading : (arc : RawArc) (arcs : List RawArc) → Pairwise ArcInOrder (arc ∷ arcs) → IsFirstGroup (arc ∷ arcs) (suc (leading arc arcs))
IsFirstGroup-leading arc arcs order =
    let m = leading arc arcs in
    record {
      some = omega arith;
      cut = ap (λ list. groups_of true (arc ∷ list)) (sym (take-append-drop m arcs)) ∙ groups_of_parts arc (take m arcs) (drop m arcs) (front_leads arc.source arc.target arcs) (back_leads_elsewhere arc arcs order);
      least_first = front_in_order arc arcs order.0;
    }

pub IsFirstGroup-first : (arcs : List RawArc) (first : RawArc) (count : ℕ) → Pairwise ArcInOrder arcs → Some first ≡ slice_get arcs 0 → count ≡ leading first arcs → IsFirstGroup arcs count
IsFirstGroup-first [] first count order is counted = absurd cc
IsFirstGroup-first (arc ∷ arcs) first count order is counted =
    let same : first ≡ arc = cc in
    let all : count ≡ suc (leading arc arcs) = counted ∙ ap (λ a. leading a (arc ∷ arcs)) same ∙ rw (itself arc, one-add (leading arc arcs)) in
    rw all (IsFirstGroup-leading arc arcs order)
