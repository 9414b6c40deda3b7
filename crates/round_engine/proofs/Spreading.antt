-- Lists of places that grow by those that are touched.
use Rattle.std.proofs.Common.{◌≡◌, ℕ, ◌+◌, ◌<◌, ◌≤◌, List, [], ◌∷◌, ◌++◌, length, get_or, take, slice_set, refl, sym, ap, ◌∙◌, subst, arith}
use Rattle.std.proofs.lemmas.List.{get_or-set_other, get_or-take, length-take, get_or_default, take_more_set, take-append-le}
use Rattle.std.proofs.lemmas.Slice.{take-put_mid, take-put_mid_below}
use Rattle.std.specs.List.Sorted.{IsPermutation}
use Rattle.std.proofs.lemmas.List.Sorted.{All-permutation, Contains-permutation}
use borrow.Rule.Slice.PartMut.{put_mid}
use Rattle.std.proofs.lemmas.List.Elements.{All-weaker, All-more, All-push, All-append, All-contains, All-contains_itself, Contains-append_left, Contains-append_right, Contains-push}
use Rattle.std.specs.List.{All, Contains}
use Rattle.round_engine.specs.Columns.{value_at}
use Rattle.round_engine.specs.Frontier.{IsIn}

-- what the first `at` places touch stands behind the first `count`, up to `end`
pub record IsAppendedBefore (size : ℕ) (touched : ℕ → List ℕ) (start places : List ℕ) (count end at : ℕ) : Type 0 where
  pub after : count ≤ end
  pub within : end ≤ length start
  pub kept : take count places ≡ take count start
  pub in_range : All (λ v. v < size) (take end places)
  pub all : All (λ u. All (Contains (take end places)) (touched u)) (take at start)

-- each of the first `at` places stands in the first `kept` of the list, which has no other places
pub record IsKeptBefore (start places : List ℕ) (kept at : ℕ) : Type 0 where
  pub few : kept ≤ at
  pub rest : (j : ℕ) → at ≤ j → value_at places j ≡ value_at start j
  pub only : All (Contains start) (take kept places)
  pub all : All (Contains (take kept places)) (take at start)

pub keep_more : (start places : List ℕ) (kept at place : ℕ) → at < length start → length places ≡ length start → place ≡ value_at places at
    → IsKeptBefore start places kept at → IsKeptBefore start (slice_set places kept place) (kept + 1) (at + 1)
keep_more start places kept at place within long place_is so_far =
    let is_at : place ≡ value_at start at = place_is ∙ so_far.rest at (omega arith) in
    let more : take (kept + 1) (slice_set places kept place) ≡ take kept places ++ place ∷ [] = take_more_set places kept place (omega (arith, so_far.few, within, long)) in
    record {
      few = omega (arith, so_far.few);
      rest = λ j above. get_or-set_other places kept j place 0 (λ same. omega (arith, same, above, so_far.few)) ∙ so_far.rest j (omega (arith, above));
      only =
          subst (All (Contains start)) (sym more)
          (All-push (Contains start) (take kept places) place so_far.only (subst (Contains start) (sym is_at) (All-contains_itself start at 0 within)));
      all =
          subst (λ xs. All (Contains xs) (take (at + 1) start)) (sym more)
          (All-more (Contains (take kept places ++ place ∷ [])) start at 0 within
          (All-weaker (Contains (take kept places)) (Contains (take kept places ++ place ∷ [])) (Contains-append_left (take kept places) (place ∷ [])) (take at start) so_far.all)
          (subst (Contains (take kept places ++ place ∷ [])) is_at (Contains-push (take kept places) place)));
    }

pub keep_none : (start places : List ℕ) (kept at place : ℕ) → at < length start → place ≡ value_at places at → Contains (take kept places) place
    → IsKeptBefore start places kept at → IsKeptBefore start places kept (at + 1)
keep_none start places kept at place within place_is listed so_far =
    record {
      few = omega (arith, so_far.few);
      rest = λ j above. so_far.rest j (omega (arith, above));
      only = so_far.only;
      all =
          All-more (Contains (take kept places)) start at 0 within so_far.all
          (subst (Contains (take kept places)) (place_is ∙ so_far.rest at (omega arith)) listed);
    }

pub append_more : (size : ℕ) (touched : ℕ → List ℕ) (start places new : List ℕ) (count end at k : ℕ) → at < count → count ≤ length start
    → length places ≡ length start → end + length new ≤ length start → new ≡ touched (value_at places at) → All (λ v. v < size) new
    → IsAppendedBefore size touched start places count end at
    → IsAppendedBefore size touched start (put_mid end k places new) count (end + length new) (at + 1)
append_more size touched start places new count end at k below few long room new_is new_in so_far =
    let end_in : end ≤ length places = omega (arith, so_far.within, long) in
    let whole : take (end + length new) (put_mid end k places new) ≡ take end places ++ new = take-put_mid end k places new (end + length new) refl end_in in
    let same : value_at places at ≡ value_at start at =
    sym (get_or-take count places at 0 below) ∙ (ap (λ xs. value_at xs at) so_far.kept ∙ get_or-take count start at 0 below) in
    record {
      after = omega (arith, so_far.after);
      within = room;
      kept = take-put_mid_below end k places new count so_far.after end_in ∙ so_far.kept;
      in_range = subst (All (λ v. v < size)) (sym whole) (All-append (λ v. v < size) (take end places) new so_far.in_range new_in);
      all =
          subst (λ xs. All (λ u. All (Contains xs) (touched u)) (take (at + 1) start)) (sym whole)
          (All-more (λ u. All (Contains (take end places ++ new)) (touched u)) start at 0 (omega (arith, below, few))
          (All-weaker (λ u. All (Contains (take end places)) (touched u)) (λ u. All (Contains (take end places ++ new)) (touched u))
          (λ u. All-weaker (Contains (take end places)) (Contains (take end places ++ new)) (Contains-append_left (take end places) new) (touched u))
          (take at start) so_far.all)
          (subst (λ u. All (Contains (take end places ++ new)) (touched u)) same
          (subst (All (Contains (take end places ++ new))) new_is
          (All-weaker (Contains new) (Contains (take end places ++ new)) (Contains-append_right (take end places) new) new (All-contains_itself new)))));
    }

-- the place at hand is in range
pub append_in : (size : ℕ) (touched : ℕ → List ℕ) (start places : List ℕ) (count end at : ℕ) → at < count → length places ≡ length start
    → IsAppendedBefore size touched start places count end at → value_at places at < size
append_in size touched start places count end at below long so_far =
    let earlier : at < end = omega (arith, below, so_far.after) in
    let inside : at < length (take end places) = omega (arith, length-take end places, earlier, so_far.within, long) in
    subst (λ v. v < size) (get_or-take end places at 0 earlier) (so_far.in_range at 0 inside)

-- the first places of a list are among more of its first places
front_contains : (places : List ℕ) (count end k d : ℕ) → count ≤ end → end ≤ length places → k < length (take count places)
    → Contains (take end places) (get_or (take count places) k d)
front_contains places count end k d fewer within below =
    let here : k < count = omega (arith, length-take count places, below) in
    let later : k < end = omega (arith, here, fewer) in
    let x = get_or (take count places) k d in (
      k,
      omega (arith, length-take end places, later, within),
      get_or-take end places k x later ∙ (sym (get_or-take count places k x here) ∙ get_or_default (take count places) k x d below),
    )

-- at the loop's end each of the first places stands in the list with what it touches
pub appended_whole : (size : ℕ) (touched : ℕ → List ℕ) (start places : List ℕ) (count end : ℕ) → length places ≡ length start
    → IsAppendedBefore size touched start places count end count → All (IsIn touched (take end places)) (take count start)
appended_whole size touched start places count end long so_far k d below = (
  subst (λ xs. Contains (take end places) (get_or xs k d)) so_far.kept
      (front_contains places count end k d so_far.after (omega (arith, so_far.within, long)) (subst (λ xs. k < length xs) (sym so_far.kept) below)),
  so_far.all k d below,
)

-- a list, in order and without repeats, has the places of the list
pub sorted_in : (front sorted kept rest : List ℕ) (n v : ℕ) → n ≤ length kept → IsPermutation front sorted → All (Contains (take n kept)) sorted
    → Contains front v → Contains (take n (kept ++ rest)) v
sorted_in front sorted kept rest n v few permuted all listed =
    subst (λ xs. Contains xs v) (sym (take-append-le n kept rest few))
    (All-contains (Contains (take n kept)) sorted v all (Contains-permutation front sorted v permuted listed))

pub sorted_in_range : (P : ℕ → Type 0) (front sorted kept rest : List ℕ) (n : ℕ) → n ≤ length kept → IsPermutation front sorted
    → All (Contains sorted) (take n kept) → All P front → All P (take n (kept ++ rest))
sorted_in_range P front sorted kept rest n few permuted only all =
    subst (All P) (sym (take-append-le n kept rest few))
    (All-weaker (Contains sorted) P (λ v. All-contains P sorted v (All-permutation P front sorted permuted all)) (take n kept) only)

pub sorted_listed : (touched : ℕ → List ℕ) (front sorted kept rest us : List ℕ) (n : ℕ) → n ≤ length kept → IsPermutation front sorted
    → All (Contains (take n kept)) sorted → All (IsIn touched front) us → All (IsIn touched (take n (kept ++ rest))) us
sorted_listed touched front sorted kept rest us n few permuted all =
    let grows : (v : ℕ) → Contains front v → Contains (take n (kept ++ rest)) v = λ v. sorted_in front sorted kept rest n v few permuted all in
    All-weaker (IsIn touched front) (IsIn touched (take n (kept ++ rest)))
    (λ u is_in. (grows u is_in.0, All-weaker (Contains front) (Contains (take n (kept ++ rest))) grows (touched u) is_in.1)) us
