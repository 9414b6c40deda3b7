-- What a round does to a column, from the laws of a kernel on columns of its size.
use Rattle.std.proofs.Common.{◌≡◌, ℕ, ◌<◌, ◌≤◌, List, [], ◌++◌, length, sum, take, drop, sym, ap, ◌∙◌, subst, ⊎_elim, arith}
use Rattle.std.proofs.lemmas.List.{ext_get_or, length-take}
use Rattle.std.proofs.lemmas.List.FromFn.{get_or-map-range_with_len, length-map-range_with_len}
use Rattle.std.proofs.lemmas.List.Elements.{All-contains}
use Rattle.std.proofs.Math.Seq.{take-append_seam}
use Rattle.gds_causes.specs.declared.gate.Turned.{Turned}
use Rattle.gds_causes.specs.declared.gate.Turned.TheVariants.{More, Done}
use Rattle.gds_causes.specs.Turned.{MatchTurned}
use Rattle.round_engine.specs.Columns.{value_at, NowhereGreater, FallsSomewhere, AllSound}
use Rattle.round_engine.specs.Rounds.{round}
use Rattle.round_engine.specs.Frontier.{IsFrontier, IsSettled}
use Rattle.round_engine.proofs.Sums.{sum-falls}

pub length-round : (next : List ℕ → ℕ → ℕ) (column : List ℕ) → length (round next column) ≡ length column
length-round next column = length-map-range_with_len (next column) 0 (length column)

pub value-round : (next : List ℕ → ℕ → ℕ) (column : List ℕ) (v : ℕ) → v < length column → value_at (round next column) v ≡ next column v
value-round next column v in_range = get_or-map-range_with_len (next column) 0 (length column) v v 0 in_range (omega arith)

-- the values of the frontier's places are the next ones, so all of them are
pub settled_round : (next : List ℕ → ℕ → ℕ) (before now places lowered : List ℕ) → length now ≡ length before → IsFrontier next before places
    → IsSettled (next before) before now places lowered → now ≡ round next before
settled_round next before now places lowered long frontier settled =
    ext_get_or 0 now (round next before) (long ∙ sym (length-round next before))
    (λ v below.
    (let in_range : v < length before = omega (arith, long, below) in
    let here : value_at now v ≡ next before v =
    ⊎_elim (λ listed. All-contains (λ u. value_at now u ≡ next before u) places v settled.done listed)
    (λ own. ⊎_elim (λ same. same ∙ sym own) (λ fell. fell.1) (settled.others v in_range)) (frontier v in_range) in
    here ∙ sym (value-round next before v in_range)))

-- no place is listed, so no value fell
settled_stays : (next : ℕ → ℕ) (before now places : List ℕ) → length now ≡ length before → IsSettled next before now places [] → now ≡ before
settled_stays next before now places long settled =
    ext_get_or 0 now before long
    (λ v below.
    ⊎_elim (λ same. same) (λ fell. absurd (omega (arith, fell.0.1))) (settled.others v (omega (arith, long, below))))

-- some place is listed, and its value fell
settled_falls : (next : ℕ → ℕ) (before now places list : List ℕ) (count : ℕ) → 0 < count → count ≤ length list
    → IsSettled next before now places (take count list) → FallsSomewhere before now
settled_falls next before now places list count some within settled =
    let fell = settled.fell 0 0 (omega (arith, length-take count list, some, within)) in
    (value_at (take count list) 0, fell.0, fell.1)

-- what a round answers, by how many places fell
pub settled_turned : (turned : Turned) (next : ℕ → ℕ) (before now places list : List ℕ) (count : ℕ) → MatchTurned turned (0 < count) (count ≡ 0)
    → count ≤ length list → length now ≡ length before → IsSettled next before now places (take count list)
    → MatchTurned turned (FallsSomewhere before now) (now ≡ before)
settled_turned More next before now places list count some within long settled = settled_falls next before now places list count some within settled
settled_turned Done next before now places list count none within long settled =
    settled_stays next before now places long (subst (λ n. IsSettled next before now places (take n list)) none settled)

module _ (next : List ℕ → ℕ → ℕ) (column : List ℕ) where
  -- no value rises in a round
  nowhere_greater-round : ((v : ℕ) → v < length column → next column v ≤ value_at column v) → NowhereGreater (round next column) column
  nowhere_greater-round falls v in_range = subst (λ x. x ≤ value_at column v) (sym (value-round next column v in_range)) (falls v in_range)

  pub left-round : ((v : ℕ) → v < length column → next column v ≤ value_at column v) → FallsSomewhere column (round next column)
      → sum (round next column) < sum column
  left-round falls (v, in_range, fell) =
      sum-falls (round next column) column v (length-round next column) (nowhere_greater-round falls) in_range fell

  pub sound-round : (IsSoundAt : ℕ → ℕ → Type 0) → ((v : ℕ) → v < length column → AllSound IsSoundAt column → IsSoundAt v (next column v))
      → AllSound IsSoundAt column → AllSound IsSoundAt (round next column)
  sound-round IsSoundAt keeps sound v below =
      let in_range : v < length column = omega (arith, length-round next column, below) in
      subst (IsSoundAt v) (sym (value-round next column v in_range)) (keeps v in_range sound)

  pub above-round : (fixed : List ℕ) → fixed ≡ round next fixed → length fixed ≡ length column
      → ((v : ℕ) → v < length column → NowhereGreater fixed column → next fixed v ≤ next column v)
      → NowhereGreater fixed column → NowhereGreater fixed (round next column)
  above-round fixed is_fixed long keeps above v below =
      let in_range : v < length column = omega (arith, length-round next column, below) in
      let there : value_at fixed v ≡ next fixed v = ap (λ xs. value_at xs v) is_fixed ∙ value-round next fixed v (omega (arith, long, in_range)) in
      omega (arith, there, value-round next column v in_range, keeps v in_range above)

  -- the sum falls where some value fell, and stays where none did
  pub left-turned : (turned : Turned) (now : List ℕ) → now ≡ round next column → ((v : ℕ) → v < length column → next column v ≤ value_at column v)
      → MatchTurned turned (FallsSomewhere column now) (now ≡ column) → MatchTurned turned (sum now < sum column) (sum now ≡ sum column)
  left-turned More now is falls fell = subst (λ xs. sum xs < sum column) (sym is) (left-round falls (subst (FallsSomewhere column) is fell))
  left-turned Done now is falls same = ap sum same

-- the elements of a vector that were replaced by as many others
pub refill : {X : Type 0} (n : ℕ) (now before : List X) → length now ≡ n → take n (now ++ drop (length now) before) ≡ now
refill n now before long = subst (λ m. take m (now ++ drop (length now) before) ≡ now) long (take-append_seam now (drop (length now) before))
