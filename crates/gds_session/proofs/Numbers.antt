-- The numbers that a text writes are those whose decimal digits it is.
use Rattle.std.proofs.Common.{◌≡◌, ℕ, ◌<◌, ◌≤◌, ◌^◌, Bool, true, false, not, ◌&&◌, ◌||◌, cond, eqb, ltb, List, [], ◌∷◌, length, get_or, Some, None, Option, decimal, refl, sym, ap, inl, inr, arith, lt-ltb, ltb-true, eq-zero-or-pos}
use Rattle.std.specs.Char.{is_ascii_digit}
use Rattle.std.specs.Str.{all_ascii_digits}
use Rattle.std.specs.Str.Parse.{digits_value}
use Rattle.std.proofs.lemmas.Bool.{and_parts, and_from, true≢false}
use Rattle.std.proofs.lemmas.Bool.Decides.{nat_tests}
use Rattle.std.proofs.lemmas.Str.Parse.{IsNumeralModel, numerals_by_value, tells_all_ascii_digits}
use Rattle.std.proofs.lemmas.Fmt.{digits_decimal, digits_value-decimal, decimal-digits_value, decimal_nonempty, first_decimal, decimal_digit}
use Rattle.gds_session.specs.OnceText.{is_decimal, number_below}
use Rattle.gds_session.proofs.Lines.{Lacks}

pub own : IsNumeralModel (λ ds. all_ascii_digits ds ≡ true) (digits_value 10)
own = numerals_by_value _ tells_all_ascii_digits

-- what a text of decimal digits is: digits, at least one, and a 0 in front only where it is alone
record IsDecimal (text : List ℕ) : Type 0 where
  digits : all_ascii_digits text ≡ true
  filled : 0 < length text
  lone_zero : get_or text 0 0 ≡ 48 → length text ≡ 1

IsDecimal-parts : (text : List ℕ) → is_decimal text ≡ true → IsDecimal text
IsDecimal-parts [] h = absurd (true≢false (sym h))
IsDecimal-parts (d ∷ rest) h =
    let parts = and_parts (all_ascii_digits (d ∷ rest)) (not (eqb d 48) || eqb (length rest) 0) h in
    record {
      digits = parts.0;
      filled = omega arith;
      lone_zero = λ zero_first. grind (arith, nat_tests, parts.1);
    }

is_decimal-from : (text : List ℕ) → IsDecimal text → is_decimal text ≡ true
is_decimal-from [] h = absurd (omega (arith, h.filled))
is_decimal-from (d ∷ rest) h = and_from _ _ h.digits (grind (arith, nat_tests, h.lone_zero))

lone_zero_of : (n : ℕ) → n < 2 ^ 64 → get_or (decimal n) 0 0 ≡ 48 → length (decimal n) ≡ 1
lone_zero_of n small e =
    elim (eq-zero-or-pos n) [
      | inl zero ↦ rw zero (ap length (decimal_digit 0 (omega arith)))
      | inr positive ↦ absurd (omega (arith, first_decimal n positive small))
    ]

IsDecimal-decimal : (n : ℕ) → n < 2 ^ 64 → IsDecimal (decimal n)
IsDecimal-decimal n small = record {
  digits = digits_decimal own n small;
  filled = decimal_nonempty n small;
  lone_zero = lone_zero_of n small;
}

pub number_below-decimal : (limit n : ℕ) → limit ≤ 2 ^ 64 → n < limit → number_below limit (decimal n) ≡ Some n
number_below-decimal limit n few below =
    let small : n < 2 ^ 64 = omega arith in
    rw (is_decimal-from (decimal n) (IsDecimal-decimal n small), digits_value-decimal own n small, lt-ltb n limit below)

-- a value that is there under a test
pub some_under_test : {A : Type 0} (b : Bool) (value : Option A) (v : A) → cond b value None ≡ Some v → (b ≡ true) × (value ≡ Some v)
some_under_test true value v h = (refl, h)
some_under_test false value v h = absurd cc

-- and a number that a text writes has that text as its digits
pub decimal-number_below : (limit : ℕ) (text : List ℕ) (n : ℕ) → limit ≤ 2 ^ 64 → number_below limit text ≡ Some n → (text ≡ decimal n) × (n < limit)
decimal-number_below limit text n few h =
    let known = some_under_test (is_decimal text && ltb (digits_value 10 text) limit) (Some (digits_value 10 text)) n h in
    let tests = and_parts (is_decimal text) (ltb (digits_value 10 text) limit) known.0 in
    let value : digits_value 10 text ≡ n = cc in
    let is = IsDecimal-parts text tests.0 in
    let below = ltb-true (digits_value 10 text) limit tests.1 in
    (rw (← value) (sym (decimal-digits_value own text is.digits is.filled is.lone_zero (omega arith))), rw value at below)

Lacks-digits : (x : ℕ) (text : List ℕ) → x < 48 → all_ascii_digits text ≡ true → Lacks x text
Lacks-digits x [] low h = tt
Lacks-digits x (d ∷ text) low h =
    let parts = and_parts (is_ascii_digit d) (all_ascii_digits text) h in
    (grind (arith, nat_tests, parts.0), Lacks-digits x text low parts.1)

pub Lacks-decimal : (x n : ℕ) → x < 48 → n < 2 ^ 64 → Lacks x (decimal n)
Lacks-decimal x n low small = Lacks-digits x (decimal n) low (digits_decimal own n small)
