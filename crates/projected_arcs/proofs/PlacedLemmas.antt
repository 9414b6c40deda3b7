-- Arcs in order between nodes that have places.
use Rattle.std.proofs.Common.{◌≡◌, ℕ, ◌+◌, ◌<◌, ◌≤◌, Bool, true, false, true≢false, cond, eqb, nat_lt, ◌&&◌, ◌||◌, IsTrue, List, [], ◌∷◌, ◌++◌, length, map, get_or, is_some, refl, sym, ap, subst, ◌∙◌, ⊎_elim, suc, zero, arith}
use Rattle.std.proofs.lemmas.Bool.{cases_Bool}
use Rattle.std.proofs.lemmas.List.{length-map, get_or-map}
use Rattle.std.specs.List.{All, AllByRecursion, filter}
use Rattle.std.specs.List.Sorted.{IsSorted, IsStrictlyIncreasing}
use Rattle.std.specs.Ordering.{nat_cmp}
use Rattle.std.specs.Cmp.Lexicographic.{slice_cmp}
use Rattle.std.specs.declared.cmp.Ordering.TheVariants.{Less, Equal}
use Rattle.graph_model.specs.declared.graph.Rel.{Rel}
use Rattle.graph_model.specs.declared.graph.Orientation.{Orientation}
use Rattle.graph_model.specs.declared.graph.Orientation.TheVariants.{Natural, Reverse, Undirected}
use Rattle.graph_model.specs.Graph.{RelBefore}
use Rattle.graph_model.specs.Lists.{Pairwise, in_order}
use Rattle.projection_spec.specs.declared.arcs.RawArc.{RawArc}
use Rattle.projection_spec.specs.declared.entries.RelProp.{RelProp}
use Rattle.projection_spec.specs.Fields.{RelFields}
use Rattle.projection_spec.specs.RawArcs.{ArcInOrder, arc_before, is_asked_for}
use Rattle.csr_columns.specs.Rows.{LiesBelow, arc_cmp}
use Rattle.projected_arcs.specs.declared.flat.FlatArc.{FlatArc}
use Rattle.projected_arcs.specs.Flat.{joins_placed, turned_flat, flat_arcs, flat_before, flat_ends, raw_of, IsWithin}
use Rattle.projected_arcs.specs.Places.{slot_at, place_or_zero, AreSlots}
use Rattle.projected_arcs.proofs.EndLemmas.{IsFound, IsPlaced, EndsInOrder, placed-found, in-order-from, ends-sorted}
use Rattle.projected_arcs.proofs.FlatOrder.{flat-ascends}
use Rattle.projected_arcs.proofs.ListLemmas.{All-at, Pairwise-at, All-in_order}
use Rattle.projected_arcs.proofs.RawLemmas.{flat-within, flat_before-is, raw-ordered, All-++}
use Rattle.projected_arcs.proofs.SingleLemmas.{source_of, target_of}

-- a relationship joins nodes that have places
abbrev pub IsJoined : List ℕ → RelFields → Rel → Type 0
IsJoined slots entry rel = joins_placed slots entry rel ≡ true

-- each of two tests that hold together holds
first-holds : (a b : Bool) → (a && b) ≡ true → a ≡ true
first-holds true b both = refl
first-holds false b both = both

second-holds : (a b : Bool) → (a && b) ≡ true → b ≡ true
second-holds true b both = both
second-holds false b both = absurd (true≢false (sym both))

source-placed : (slots : List ℕ) (entry : RelFields) (rel : Rel) → IsJoined slots entry rel → is_some (slot_at slots rel.source) ≡ true
source-placed slots entry rel joined =
    let asked = is_asked_for entry.store rel.kind in
    let source = is_some (slot_at slots rel.source) in
    let target = is_some (slot_at slots rel.target) in
    by asked source target joined
  where
    by : (a s t : Bool) → (a && s && t) ≡ true → s ≡ true
    by true true t all = refl
    by true false t all = all
    by false s t all = absurd (true≢false (sym all))

target-placed : (slots : List ℕ) (entry : RelFields) (rel : Rel) → IsJoined slots entry rel → is_some (slot_at slots rel.target) ≡ true
target-placed slots entry rel joined = by (is_asked_for entry.store rel.kind) (is_some (slot_at slots rel.source)) (is_some (slot_at slots rel.target)) joined
  where
    by : (a s t : Bool) → (a && s && t) ≡ true → t ≡ true
    by true true t all = all
    by true false t all = absurd (true≢false (sym all))
    by false s t all = absurd (true≢false (sym all))

-- what a filter keeps passes its test
pub filter-passes : (p : Rel → Bool) (rels : List Rel) → AllByRecursion (λ rel. p rel ≡ true) (filter p rels)
filter-passes p [] = tt
filter-passes p (rel ∷ rels) =
    ⊎_elim
    (λ (yes : p rel ≡ true). rw yes (yes, filter-passes p rels))
    (λ (fails : p rel ≡ false). rw fails (filter-passes p rels))
    (cases_Bool (p rel))

module _ (ids slots : List ℕ) (entry : RelFields) (are : AreSlots ids slots) where
  abbrev Placed : FlatArc → Type 0
  Placed arc = IsPlaced ids slots source_of target_of arc

  found-source : (rel : Rel) → IsJoined slots entry rel → IsFound ids rel.source (place_or_zero slots rel.source)
  found-source rel joined = placed-found ids slots rel.source are (source-placed slots entry rel joined)

  found-target : (rel : Rel) → IsJoined slots entry rel → IsFound ids rel.target (place_or_zero slots rel.target)
  found-target rel joined = placed-found ids slots rel.target are (target-placed slots entry rel joined)

  turned-placed : (orientation : Orientation) (place : ℕ) (rel : Rel) → IsJoined slots entry rel → AllByRecursion Placed (turned_flat orientation place rel)
  turned-placed Natural place rel joined = (record { source_found = found-source rel joined; target_found = found-target rel joined }, tt)
  turned-placed Reverse place rel joined = (record { source_found = found-target rel joined; target_found = found-source rel joined }, tt)
  turned-placed Undirected place rel joined = (
    record { source_found = found-source rel joined; target_found = found-target rel joined },
    (record { source_found = found-target rel joined; target_found = found-source rel joined }, tt),
  )

  flat-placed : (orientation : Orientation) (first : ℕ) (rels : List Rel) → AllByRecursion (IsJoined slots entry) rels → AllByRecursion Placed (flat_arcs orientation first rels)
  flat-placed orientation first [] joined = tt
  flat-placed orientation first (rel ∷ rels) joined =
      All-++ Placed (turned_flat orientation first rel) (flat_arcs orientation (first + 1) rels) (turned-placed orientation first rel joined.0) (flat-placed orientation (first + 1) rels joined.1)

  -- both ends of each arc in order have places
  pub arcs-placed : (rels : List Rel) (arcs : List FlatArc) → AllByRecursion (IsJoined slots entry) rels → arcs ≡ in_order flat_before (flat_arcs entry.orientation 0 rels) → AllByRecursion Placed arcs
  arcs-placed rels arcs joined is = rw is (All-in_order flat_before Placed (flat_arcs entry.orientation 0 rels) (flat-placed entry.orientation 0 rels joined))

-- each arc in order is of one of the relationships
pub arcs-within : (entry : RelFields) (rels : List Rel) (arcs : List FlatArc) → arcs ≡ in_order flat_before (flat_arcs entry.orientation 0 rels) → AllByRecursion (IsWithin (length rels)) arcs
arcs-within entry rels arcs is = rw is (All-in_order flat_before (IsWithin (length rels)) (flat_arcs entry.orientation 0 rels) (flat-within entry.orientation 0 (length rels) rels (omega arith)))

-- of arcs in order, none comes before an earlier one
pub arcs-ascend : (entry : RelFields) (rels : List Rel) (arcs : List FlatArc) → arcs ≡ in_order flat_before (flat_arcs entry.orientation 0 rels) → Pairwise (λ a b. flat_before b a ≡ false) arcs
arcs-ascend entry rels arcs is = rw is (flat-ascends (flat_arcs entry.orientation 0 rels))

-- the ends of arcs in order are in order
pub flat-sorted : (ids slots : List ℕ) (arcs : List FlatArc) → IsStrictlyIncreasing ids → AllByRecursion (IsPlaced ids slots source_of target_of) arcs → Pairwise (λ a b. flat_before b a ≡ false) arcs → IsSorted arc_cmp (map (flat_ends slots) arcs)
flat-sorted ids slots arcs up placed ascend =
    ends-sorted ids slots source_of target_of arcs up placed
    (λ k d within.
    let a = get_or arcs k d in
    let b = get_or arcs (k + 1) d in
    in-order-from a.source a.target b.source b.target (eqb b.target a.target && nat_lt b.place a.place)
    (sym (flat_before-is b a) ∙ Pairwise-at (λ a b. flat_before b a ≡ false) arcs k (k + 1) d (omega arith) within ascend))

-- ---- raw arcs

module _ (rels : List Rel) (props : List RelProp) (up : Pairwise RelBefore rels) where
  all-later : (arc : FlatArc) (arcs : List FlatArc) → IsWithin (length rels) arc → AllByRecursion (IsWithin (length rels)) arcs → AllByRecursion (λ b. flat_before b arc ≡ false) arcs → AllByRecursion (ArcInOrder (raw_of rels props arc)) (map (raw_of rels props) arcs)
  all-later arc [] within all later = tt
  all-later arc (b ∷ arcs) within all later = (raw-ordered rels props up b arc all.0 within ∙ later.0, all-later arc arcs within all.1 later.1)

  -- raw arcs are in order as the flat ones are
  pub raws-ascend : (arcs : List FlatArc) → AllByRecursion (IsWithin (length rels)) arcs → Pairwise (λ a b. flat_before b a ≡ false) arcs → Pairwise ArcInOrder (map (raw_of rels props) arcs)
  raws-ascend [] within ascend = tt
  raws-ascend (arc ∷ arcs) within ascend = (all-later arc arcs within.0 within.1 ascend.0, raws-ascend arcs within.1 ascend.1)
