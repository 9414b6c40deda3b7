-- Putting the next values of some places into a column, so far.
use Rattle.std.proofs.Common.{◌≡◌, ◌⊎◌, inl, inr, ℕ, ◌+◌, ◌<◌, ◌≤◌, List, [], ◌∷◌, ◌++◌, map, length, take, slice_set, sym, ap, ◌∙◌, subst, ⊎_elim, arith}
use Rattle.std.proofs.lemmas.List.{get_or-set_same, get_or-set_other, take_more, take_more_set, get_or-map}
use Rattle.std.proofs.lemmas.List.Elements.{All-weaker, All-push, Contains-append_left, Contains-push}
use Rattle.std.specs.List.{Contains}
use Rattle.round_engine.specs.Columns.{value_at}
use Rattle.round_engine.specs.Frontier.{IsSettled}
use Rattle.round_engine.proofs.Marking.{set_cases}

-- no value rises
abbrev pub FallsAt : (ℕ → ℕ) → List ℕ → Type 0
FallsAt next before = (v : ℕ) → v < length before → next v ≤ value_at before v

-- the first `at` places are done, and the first `count` of the list fell
pub record IsSettledBefore (before now start places values : List ℕ) (count at : ℕ) : Type 0 where
  pub few : count ≤ at
  pub rest : (j : ℕ) → at ≤ j → value_at places j ≡ value_at start j
  pub so_far : (next : ℕ → ℕ) → values ≡ map next start → FallsAt next before → IsSettled next before now (take at start) (take count places)

-- the value beside the place at hand is its next one
next_is : (next : ℕ → ℕ) (start values : List ℕ) (at place value : ℕ) → at < length start → place ≡ value_at start at → value ≡ value_at values at
    → values ≡ map next start → value ≡ next place
next_is next start values at place value within place_is value_is values_are =
    value_is ∙ (ap (λ xs. value_at xs at) values_are ∙ (get_or-map next start at 0 0 within ∙ ap next (sym place_is)))

-- no value has risen so far
not_above : (next : ℕ → ℕ) (before now done lowered : List ℕ) → FallsAt next before → IsSettled next before now done lowered
    → (v : ℕ) → v < length before → (value_at now v ≤ value_at before v) × (next v ≤ value_at now v)
not_above next before now done lowered falls settled v in_range =
    ⊎_elim (λ same. (omega (arith, same), omega (arith, same, falls v in_range)))
    (λ fell. (omega (arith, fell.1, falls v in_range), omega (arith, fell.1)))
    (settled.others v in_range)

-- one more place, where the value falls
settled_more : (next : ℕ → ℕ) (before now done lowered : List ℕ) (place value : ℕ) → place < length before → length now ≡ length before
    → value ≡ next place → value < value_at now place → FallsAt next before → IsSettled next before now done lowered
    → IsSettled next before (slice_set now place value) (done ++ place ∷ []) (lowered ++ place ∷ [])
settled_more next before now done lowered place value in_range long is falls_here falls settled =
    let here_in : place < length now = omega (arith, in_range, long) in
    let now_is : (v : ℕ) → value_at now v ≡ next v → value_at (slice_set now place value) v ≡ next v =
    λ v same. set_cases (λ x. x ≡ next v) now place v value 0 here_in (λ here. is ∙ ap next (sym here)) (λ there. same) in
    let at_place : value_at (slice_set now place value) place ≡ value = get_or-set_same now place value 0 here_in in
    record {
      done =
          All-push (λ v. value_at (slice_set now place value) v ≡ next v) done place
          (All-weaker (λ v. value_at now v ≡ next v) (λ v. value_at (slice_set now place value) v ≡ next v) now_is done settled.done)
          (at_place ∙ is);
      others =
          λ v below.
          set_cases (λ x. (x ≡ value_at before v) ⊎ (Contains (lowered ++ place ∷ []) v × (x ≡ next v))) now place v value 0 here_in
          (λ here. inr (subst (Contains (lowered ++ place ∷ [])) (sym here) (Contains-push lowered place), is ∙ ap next (sym here)))
          (λ there.
          ⊎_elim (λ same. inl same)
          (λ fell. inr (Contains-append_left lowered (place ∷ []) v fell.0, fell.1))
          (settled.others v below));
      fell =
          All-push (λ v. (v < length before) × (value_at (slice_set now place value) v < value_at before v)) lowered place
          (All-weaker (λ v. (v < length before) × (value_at now v < value_at before v)) (λ v. (v < length before) × (value_at (slice_set now place value) v < value_at before v))
          (λ v fell. (
            fell.0,
            set_cases (λ x. x < value_at before v) now place v value 0 here_in
                (λ here. omega (arith, falls_here, ap (value_at now) here, fell.1))
                (λ there. fell.1),
          )) lowered settled.fell)
          (in_range, omega (arith, at_place, falls_here, (not_above next before now done lowered falls settled place in_range).0));
    }

-- one more place, where the value stays
settled_none : (next : ℕ → ℕ) (before now done lowered : List ℕ) (place value : ℕ) → place < length before → value ≡ next place
    → value_at now place ≤ value → FallsAt next before → IsSettled next before now done lowered → IsSettled next before now (done ++ place ∷ []) lowered
settled_none next before now done lowered place value in_range is stays falls settled =
    record {
      done =
          All-push (λ v. value_at now v ≡ next v) done place settled.done
          (omega (arith, is, stays, (not_above next before now done lowered falls settled place in_range).1));
      others = settled.others;
      fell = settled.fell;
    }

pub settle_more : (before now start places values : List ℕ) (count at place value : ℕ) → at < length start → length places ≡ length start
    → place ≡ value_at places at → place < length before → length now ≡ length before → value ≡ value_at values at → value < value_at now place
    → IsSettledBefore before now start places values count at
    → IsSettledBefore before (slice_set now place value) start (slice_set places count place) values (count + 1) (at + 1)
settle_more before now start places values count at place value within long place_is in_range now_long value_is falls_here so_far =
    let is_at : place ≡ value_at start at = place_is ∙ so_far.rest at (omega arith) in
    record {
      few = omega (arith, so_far.few);
      rest =
          λ j above. get_or-set_other places count j place 0 (λ same. omega (arith, same, above, so_far.few)) ∙ so_far.rest j (omega (arith, above));
      so_far =
          λ next is falls.
          subst (λ lowered. IsSettled next before (slice_set now place value) (take (at + 1) start) lowered) (sym (take_more_set places count place (omega (arith, so_far.few, within, long))))
          (subst (λ done. IsSettled next before (slice_set now place value) done (take count places ++ place ∷ []))
          (sym (take_more start at 0 within ∙ ap (λ x. take at start ++ x ∷ []) (sym is_at)))
          (settled_more next before now (take at start) (take count places) place value in_range now_long
          (next_is next start values at place value within is_at value_is is) falls_here falls (so_far.so_far next is falls)));
    }

pub settle_none : (before now start places values : List ℕ) (count at place value : ℕ) → at < length start
    → place ≡ value_at places at → place < length before → value ≡ value_at values at → value_at now place ≤ value
    → IsSettledBefore before now start places values count at → IsSettledBefore before now start places values count (at + 1)
settle_none before now start places values count at place value within place_is in_range value_is stays so_far =
    let is_at : place ≡ value_at start at = place_is ∙ so_far.rest at (omega arith) in
    record {
      few = omega (arith, so_far.few);
      rest = λ j above. so_far.rest j (omega (arith, above));
      so_far =
          λ next is falls.
          subst (λ done. IsSettled next before now done (take count places))
          (sym (take_more start at 0 within ∙ ap (λ x. take at start ++ x ∷ []) (sym is_at)))
          (settled_none next before now (take at start) (take count places) place value in_range
          (next_is next start values at place value within is_at value_is is) stays falls (so_far.so_far next is falls));
    }
