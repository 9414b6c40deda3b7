-- A column that has changed at listed places alone, with what these touch, has the list as its frontier.
use Rattle.std.proofs.Common.{◌≡◌, ◌⊎◌, inl, inr, ℕ, zero, suc, ◌<◌, Bool, List, [], ◌∷◌, length, slice_index_or, sym, ap, ◌∙◌, ⊎_elim, arith}
use Rattle.std.proofs.lemmas.List.Elements.{All-contains}
use Rattle.std.specs.List.{All, Contains}
use Rattle.round_engine.specs.Columns.{value_at}
use Rattle.round_engine.specs.Rounds.{round}
use Rattle.round_engine.specs.Frontier.{IsFrontier, IsSettled, IsIn, IsMarked}
use Rattle.round_engine.proofs.Marking.{equal_or_not}
use Rattle.round_engine.proofs.Rounding.{value-round}

contains_cases : (x : ℕ) (xs : List ℕ) (v : ℕ) → Contains (x ∷ xs) v → (x ≡ v) ⊎ Contains xs v
contains_cases x xs v (zero, below, is) = inl is
contains_cases x xs v (suc k, below, is) = inr (k, omega (arith, below), is)

contains_later : (x : ℕ) (xs : List ℕ) (v : ℕ) → Contains xs v → Contains (x ∷ xs) v
contains_later x xs v (k, below, is) = (suc k, omega (arith, below), is)

-- a place is listed or not
contains_or_not : (xs : List ℕ) (v : ℕ) → Contains xs v ⊎ (Contains xs v → ⊥)
contains_or_not [] v = inr (λ listed. omega (arith, listed.1))
contains_or_not (x ∷ xs) v =
    equal_or_not (Contains (x ∷ xs) v ⊎ (Contains (x ∷ xs) v → ⊥)) v x
    (λ same. inl (0, omega arith, same))
    (λ differs.
    ⊎_elim (λ listed. inl (contains_later x xs v listed))
    (λ missing. inr (λ listed. ⊎_elim differs missing (contains_cases x xs v listed)))
    (contains_or_not xs v))

pub frontier_after : (size : ℕ) (next : List ℕ → ℕ → ℕ) (touched : ℕ → List ℕ) (old now list : List ℕ) → length now ≡ size
    → ((v : ℕ) → v < size → value_at old v ≡ value_at now v → ((u : ℕ) → u < size → Contains (touched u) v → value_at old u ≡ value_at now u)
    → next old v ≡ next now v)
    → ((u : ℕ) → u < size → (value_at now u ≡ value_at old u) ⊎ IsIn touched list u)
    → ((v : ℕ) → v < size → Contains list v ⊎ (next old v ≡ value_at now v))
    → IsFrontier next now list
frontier_after size next touched old now list long near changed kept v below =
    let in_range : v < size = omega (arith, long, below) in
    ⊎_elim (λ listed. inl listed)
    (λ missing.
    inr
    (let same : (u : ℕ) → u < size → (IsIn touched list u → ⊥) → value_at old u ≡ value_at now u =
    λ u inside not. ⊎_elim (λ equal. sym equal) (λ is_in. absurd (not is_in)) (changed u inside) in
    let here : value_at old v ≡ value_at now v = same v in_range (λ is_in. missing is_in.0) in
    let there : (u : ℕ) → u < size → Contains (touched u) v → value_at old u ≡ value_at now u =
    λ u inside touches. same u inside (λ is_in. missing (All-contains (Contains list) (touched u) v is_in.1 touches)) in
    sym (near v in_range here there) ∙ ⊎_elim (λ listed. absurd (missing listed)) (λ own. own) (kept v in_range)))
    (contains_or_not list v)

-- after a round
pub frontier_settled : (size : ℕ) (next : List ℕ → ℕ → ℕ) (touched : ℕ → List ℕ) (old now places lowered list : List ℕ) → length old ≡ size
    → length now ≡ size
    → ((v : ℕ) → v < size → value_at old v ≡ value_at now v → ((u : ℕ) → u < size → Contains (touched u) v → value_at old u ≡ value_at now u)
    → next old v ≡ next now v)
    → now ≡ round next old → IsSettled (next old) old now places lowered → All (IsIn touched list) lowered → IsFrontier next now list
frontier_settled size next touched old now places lowered list old_long now_long near is_round settled listed =
    frontier_after size next touched old now list now_long near
    (λ u inside.
    ⊎_elim (λ same. inl same) (λ fell. inr (All-contains (IsIn touched list) lowered u listed fell.0)) (settled.others u (omega (arith, old_long, inside))))
    (λ v inside. inr (sym (ap (λ xs. value_at xs v) is_round ∙ value-round next old v (omega (arith, old_long, inside)))))

-- after values were lowered
pub frontier_lowered : (size : ℕ) (next : List ℕ → ℕ → ℕ) (touched : ℕ → List ℕ) (old now places list : List ℕ) (marks : List Bool) → length old ≡ size
    → length now ≡ size
    → ((v : ℕ) → v < size → value_at old v ≡ value_at now v → ((u : ℕ) → u < size → Contains (touched u) v → value_at old u ≡ value_at now u)
    → next old v ≡ next now v)
    → ((u : ℕ) → u < size → All (λ v. v < size) (touched u))
    → IsFrontier next old places → All (IsMarked marks) places
    → ((u : ℕ) → u < size → (value_at now u ≡ value_at old u) ⊎ (IsMarked marks u × All (IsMarked marks) (touched u)))
    → ((v : ℕ) → v < size → IsMarked marks v → Contains list v)
    → IsFrontier next now list
frontier_lowered size next touched old now places list marks old_long now_long near touches_in frontier marked lowered listed =
    let changed : (u : ℕ) → u < size → (value_at now u ≡ value_at old u) ⊎ IsIn touched list u =
    λ u inside.
    ⊎_elim (λ same. inl same)
    (λ both. inr (
      listed u inside both.0,
      λ k d below. listed (slice_index_or (touched u) k d) (touches_in u inside k d below) (both.1 k d below),
    ))
    (lowered u inside) in
    frontier_after size next touched old now list now_long near changed
    (λ v inside.
    ⊎_elim (λ old_listed. inl (listed v inside (All-contains (IsMarked marks) places v marked old_listed)))
    (λ own. ⊎_elim (λ same. inr (own ∙ sym same)) (λ is_in. inl is_in.0) (changed v inside))
    (frontier v (omega (arith, old_long, inside))))
