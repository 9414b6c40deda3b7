-- Reading the digits of a number one by one.
use Rattle.std.proofs.Common.{◌≡◌, ℕ, ◌+◌, ◌*◌, ◌<◌, ◌≤◌, ◌-◌, Bool, true, false, ◌&&◌, cond, List, [], ◌∷◌, length, drop, get_or, nat_lt, refl, ap, arith, le-ltb, lt-ltb, Some, None}
use Rattle.std.proofs.Common.{drop-cons, add-one}
use Rattle.std.specs.Char.{is_ascii_digit, digit_value}
use Rattle.std.specs.Str.{all_ascii_digits}
use Rattle.std.specs.Str.Parse.{digits_value, digits_value_after}
use Rattle.gds_session.specs.Reading.{digits_below}

-- digits never make a number less
pub digits_value_after-ge : (n : ℕ) (digits : List ℕ) → n ≤ digits_value_after 10 n digits
digits_value_after-ge n [] = omega arith
digits_value_after-ge n (d ∷ digits) = omega (arith, digits_value_after-ge (n * 10 + digit_value d) digits)

-- what is left of a text at a place inside it
drop_at_place : (text : List ℕ) (i : ℕ) → i < length text → drop i text ≡ get_or text i 0 ∷ drop (i + 1) text
drop_at_place text i h = rw (add-one, drop-cons text i 0) refl

-- one digit more: the value goes on from it
pub digits_value_after-drop : (n : ℕ) (text : List ℕ) (i : ℕ) → i < length text →
    digits_value_after 10 n (drop i text) ≡ digits_value_after 10 (n * 10 + digit_value (get_or text i 0)) (drop (i + 1) text)
digits_value_after-drop n text i h = ap (digits_value_after 10 n) (drop_at_place text i h)

-- one digit more: the rest are digits where this one and the rest of them are
pub all_ascii_digits-drop : (text : List ℕ) (i : ℕ) → i < length text →
    all_ascii_digits (drop i text) ≡ (is_ascii_digit (get_or text i 0) && all_ascii_digits (drop (i + 1) text))
all_ascii_digits-drop text i h = ap all_ascii_digits (drop_at_place text i h)

-- digits whose value reaches the limit write no number below it
pub digits_below-large : (limit : ℕ) (text : List ℕ) → limit ≤ digits_value 10 text → digits_below limit text ≡ None
digits_below-large limit text h =
    let no : nat_lt (digits_value 10 text) limit ≡ false = le-ltb (digits_value 10 text) limit h in
    rw no (by_digits (nat_lt 0 (length text)) (all_ascii_digits text) (digits_value 10 text))
  where
    by_digits : (a b : Bool) (n : ℕ) → cond (a && b && false) (Some n) None ≡ None
    by_digits true true n = refl
    by_digits true false n = refl
    by_digits false true n = refl
    by_digits false false n = refl

-- an ASCII digit stands for the number of places that it is above `0`
pub digit_value-ascii : (b : ℕ) → 48 ≤ b → b ≤ 57 → digit_value b ≡ b - 48
digit_value-ascii b low high =
    let from : nat_lt b 48 ≡ false = le-ltb b 48 low in
    let to : nat_lt b 58 ≡ true = lt-ltb b 58 (omega arith) in
    rw (from, to) refl

-- digits whose value so far and next digit reach a limit write a number that reaches it
pub digits_value-reaches : (limit value : ℕ) (text : List ℕ) (i : ℕ) → i < length text
    → digits_value_after 10 value (drop i text) ≡ digits_value 10 text → 48 ≤ get_or text i 0 → get_or text i 0 ≤ 57
    → limit ≤ value * 10 + (get_or text i 0 - 48) → limit ≤ digits_value 10 text
digits_value-reaches limit value text i inside so_far low high reached =
    let step = digits_value_after-drop value text i inside in
    let grows = digits_value_after-ge (value * 10 + digit_value (get_or text i 0)) (drop (i + 1) text) in
    let digit = digit_value-ascii (get_or text i 0) low high in
    omega (arith, step, grows, digit, so_far)
