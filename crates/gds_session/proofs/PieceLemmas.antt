-- Lines that come in pieces.
use Rattle.std.proofs.Common.{◌≡◌, ℕ, ◌+◌, Bool, true, false, List, [], ◌∷◌, ◌++◌, length, refl, sym, ap, ◌∙◌, arith, append_assoc, append-nil}
use Rattle.std.specs.List.{list_any, position_or_len}
use Rattle.std.specs.Prelude.{take, drop}
use Rattle.std.proofs.lemmas.Bool.{cases_Bool, eqb-true}
use Rattle.std.proofs.Common.{suc, ⊎_elim}
use Rattle.std.proofs.lemmas.List.Folds.{list_any-append}
use Rattle.call_codec.specs.Lines.{Item, line_items, is_lf, rest_of, asked_by_line}
use Rattle.call_codec.proofs.LineLemmas.{first_line_is_cut, last_line_waits, rest_of-cut, rest_of-whole}
use Rattle.gds_session.specs.declared.degrees.WriteStop.{WriteStop}
use Rattle.gds_session.specs.declared.degrees.WriteStop.TheVariants as stop
use Rattle.gds_session.specs.Serving.{Moment, Serves, Halts, IsPending, asks_with, IsCut}
use Rattle.gds_session.proofs.ServingLemmas.{serves_nothing, serves_on, halts_after, halts_before, halts_unbegun, asks_is}

-- so far within a piece: what waits now, with the rest, asks what is left to answer
pub record SoFar (waiting piece rest : List ℕ) (is_long : Bool) (kept : List ℕ) (old now : Moment) : Type 0 where
  pub waits : List ℕ
  pub items : List Item
  pub alone : list_any is_lf waits ≡ false
  pub pending : IsPending is_long kept waits
  pub served : Serves items old now
  pub asks : line_items (waiting ++ piece) false ≡ items ++ line_items (waits ++ rest) false
  pub rests : rest_of (waiting ++ piece) ≡ rest_of (waits ++ rest)

pub at_first : (waiting piece : List ℕ) (is_long : Bool) (kept : List ℕ) (now : Moment) → list_any is_lf waiting ≡ false → IsPending is_long kept waiting → SoFar waiting piece piece is_long kept now now
at_first waiting piece is_long kept now alone pending = record {
  waits = waiting;
  items = [];
  alone = alone;
  pending = pending;
  served = serves_nothing now;
  asks = refl;
  rests = refl;
}

-- no LF stands in a line that was cut off
no_lf : (a b : List ℕ) → list_any is_lf a ≡ false → list_any is_lf b ≡ false → list_any is_lf (a ++ b) ≡ false
no_lf a b first second = list_any-append is_lf a b ∙ rw (first, second) refl

-- what waits and the rest of a piece ask: first the line that is whole now
asks_cut : (waits tail behind rest : List ℕ) → list_any is_lf waits ≡ false → IsCut rest tail behind → line_items (waits ++ rest) false ≡ asked_by_line (waits ++ tail) ++ line_items behind false
asks_cut waits tail behind rest alone cut =
    ap (λ r. line_items (waits ++ r) false) cut.whole
    ∙ ap (λ bytes. line_items bytes false) (sym (append_assoc waits tail (10 ∷ behind)))
    ∙ first_line_is_cut (waits ++ tail) behind false (no_lf waits tail alone cut.alone)

rests_cut : (waits tail behind rest : List ℕ) → IsCut rest tail behind → rest_of (waits ++ rest) ≡ rest_of behind
rests_cut waits tail behind rest cut =
    ap (λ r. rest_of (waits ++ r)) cut.whole
    ∙ ap rest_of (sym (append_assoc waits tail (10 ∷ behind)))
    ∙ rest_of-cut (waits ++ tail) behind

-- what a line that is whole now asks, by what is kept of it
asks_next : (waiting piece rest tail behind : List ℕ) (is_long : Bool) (kept : List ℕ) (old now : Moment) (s : SoFar waiting piece rest is_long kept old now) → IsCut rest tail behind → line_items (waiting ++ piece) false ≡ s.items ++ (asks_with is_long kept tail ++ line_items behind false)
asks_next waiting piece rest tail behind is_long kept old now s cut =
    s.asks ∙ ap (λ more. s.items ++ more) (asks_cut s.waits tail behind rest s.alone cut ∙ ap (λ asked. asked ++ line_items behind false) (sym (asks_is is_long kept s.waits tail s.pending)))

pub one_further : (waiting piece rest tail behind : List ℕ) (is_long : Bool) (kept : List ℕ) (old now new : Moment) → SoFar waiting piece rest is_long kept old now → IsCut rest tail behind → Serves (asks_with is_long kept tail) now new → SoFar waiting piece behind false [] old new
one_further waiting piece rest tail behind is_long kept old now new s cut served = record {
  waits = [];
  items = s.items ++ asks_with is_long kept tail;
  alone = refl;
  pending = refl;
  served = serves_on s.items (asks_with is_long kept tail) old now new s.served served;
  asks = asks_next waiting piece rest tail behind is_long kept old now s cut ∙ sym (append_assoc s.items (asks_with is_long kept tail) (line_items behind false));
  rests = s.rests ∙ rests_cut s.waits tail behind rest cut;
}

pub stopped : (why : WriteStop) (waiting piece rest tail behind : List ℕ) (is_long : Bool) (kept : List ℕ) (old now new : Moment) → SoFar waiting piece rest is_long kept old now → IsCut rest tail behind → Halts why (asks_with is_long kept tail) now new → Halts why (line_items (waiting ++ piece) false) old new
stopped why waiting piece rest tail behind is_long kept old now new s cut halts =
    rw (asks_next waiting piece rest tail behind is_long kept old now s cut)
    (halts_after why s.items (asks_with is_long kept tail ++ line_items behind false) old now new s.served
    (halts_before why (asks_with is_long kept tail) (line_items behind false) now new halts))

-- where no LF is left, all lines are answered
asks_last : (waiting piece rest : List ℕ) (is_long : Bool) (kept : List ℕ) (old now : Moment) (s : SoFar waiting piece rest is_long kept old now) → list_any is_lf rest ≡ false → line_items (waiting ++ piece) false ≡ s.items
asks_last waiting piece rest is_long kept old now s none =
    s.asks ∙ ap (λ more. s.items ++ more) (last_line_waits (s.waits ++ rest) (no_lf s.waits rest s.alone none)).0 ∙ append-nil s.items

rests_last : (waiting piece rest : List ℕ) (is_long : Bool) (kept : List ℕ) (old now : Moment) (s : SoFar waiting piece rest is_long kept old now) → list_any is_lf rest ≡ false → rest_of (waiting ++ piece) ≡ s.waits ++ rest
rests_last waiting piece rest is_long kept old now s none =
    s.rests ∙ rest_of-whole (s.waits ++ rest) (no_lf s.waits rest s.alone none)

pub all_served : (waiting piece rest : List ℕ) (is_long : Bool) (kept : List ℕ) (will_long : Bool) (keeps : List ℕ) (old now : Moment) → SoFar waiting piece rest is_long kept old now → list_any is_lf rest ≡ false → ((w : List ℕ) → IsPending is_long kept w → IsPending will_long keeps (w ++ rest)) → Serves (line_items (waiting ++ piece) false) old now × IsPending will_long keeps (rest_of (waiting ++ piece))
all_served waiting piece rest is_long kept will_long keeps old now s none pending = (
  rw (asks_last waiting piece rest is_long kept old now s none) s.served,
  rw (rests_last waiting piece rest is_long kept old now s none) (pending s.waits s.pending),
)

pub unkept : (waiting piece rest : List ℕ) (is_long : Bool) (kept : List ℕ) (old now : Moment) → SoFar waiting piece rest is_long kept old now → list_any is_lf rest ≡ false → Halts stop.OutOfMemory (line_items (waiting ++ piece) false) old now
unkept waiting piece rest is_long kept old now s none =
    rw (asks_last waiting piece rest is_long kept old now s none) (halts_unbegun s.items old now s.served)

-- ---- the first LF

after_one : {A : Type 0} (n : ℕ) (x : A) (xs : List A) → drop (1 + n) (x ∷ xs) ≡ drop n xs
after_one n x xs = let e : 1 + n ≡ suc n = omega arith in rw e refl

before_one : {A : Type 0} (n : ℕ) (x : A) (xs : List A) → take (1 + n) (x ∷ xs) ≡ x ∷ take n xs
before_one n x xs = let e : 1 + n ≡ suc n = omega arith in rw e refl

pub cut_at : (bytes : List ℕ) (b : ℕ) (behind : List ℕ) → drop (position_or_len is_lf bytes) bytes ≡ b ∷ behind → IsCut bytes (take (position_or_len is_lf bytes) bytes) behind
cut_at [] b behind e = absurd cc
cut_at (x ∷ xs) b behind e =
    ⊎_elim
    (λ (yes : is_lf x ≡ true).
    let from : x ∷ xs ≡ b ∷ behind = rw yes at e in
    let rest : xs ≡ behind = cc in
    rw yes (record { whole = ap (λ h. h ∷ xs) (eqb-true x 10 yes) ∙ ap (λ r. 10 ∷ r) rest; alone = refl }))
    (λ (no : is_lf x ≡ false).
    let n : ℕ = position_or_len is_lf xs in
    let from : drop n xs ≡ b ∷ behind = sym (after_one n x xs) ∙ (rw no at e) in
    let cut = cut_at xs b behind from in
    rw no (rw (before_one n x xs) (record { whole = ap (λ r. x ∷ r) cut.whole; alone = rw no cut.alone })))
    (cases_Bool (is_lf x))

pub no_cut : (bytes : List ℕ) → drop (position_or_len is_lf bytes) bytes ≡ [] → list_any is_lf bytes ≡ false
no_cut [] e = refl
no_cut (x ∷ xs) e =
    ⊎_elim
    (λ (yes : is_lf x ≡ true). let from : x ∷ xs ≡ [] = rw yes at e in absurd cc)
    (λ (no : is_lf x ≡ false).
    let n : ℕ = position_or_len is_lf xs in
    rw no (no_cut xs (sym (after_one n x xs) ∙ (rw no at e))))
    (cases_Bool (is_lf x))

pub no_items : (xs : List ℕ) → length xs ≡ 0 → xs ≡ []
no_items [] none = refl
no_items (x ∷ xs) none = absurd (omega arith)
