-- Numbers at the front of a text, read digit by digit.
use Rattle.std.proofs.Common.{◌≡◌, ℕ, ◌+◌, ◌-◌, ◌*◌, ◌<◌, ◌≤◌, ◌^◌, true, List, [], ◌∷◌, ◌++◌, length, get_or, take, drop, decimal, refl, ap, sym, ◌∙◌, arith, length-take}
use Rattle.std.specs.Char.{is_ascii_digit, digit_value}
use Rattle.std.specs.Str.{all_ascii_digits}
use Rattle.std.specs.Str.Parse.{digits_value}
use Rattle.std.proofs.lemmas.List.{take-append-drop, get_or-take, take_more, length-take-le}
use Rattle.std.proofs.lemmas.Int.Digits.{digits_value_more}
use Rattle.std.proofs.lemmas.Fmt.{decimal-digits_value}
use Rattle.std.proofs.lemmas.Str.Parse.{digits_value_short}
use Rattle.std.proofs.lemmas.Bool.{and_from, and_parts}
use Rattle.gds_session.proofs.Numbers.{own}
use Rattle.gds_session.proofs.DigitByDigit.{digit_value-ascii}

-- digits with no 0 before another are the decimal of what they write, and then comes the rest of the text
pub decimal-front : (text : List ℕ) (place value : ℕ) → 0 < place → place ≤ length text → all_ascii_digits (take place text) ≡ true
    → digits_value 10 (take place text) ≡ value → value < 2 ^ 64 → (get_or text 0 0 ≡ 48 → place ≤ 1) → text ≡ decimal value ++ drop place text
decimal-front text place value some inside digits writes small lone =
    let long : length (take place text) ≡ place = length-take-le place text inside in
    let first : get_or (take place text) 0 0 ≡ get_or text 0 0 = get_or-take place text 0 0 some in
    let filled : 0 < length (take place text) = omega arith in
    let alone = (λ (zero : get_or (take place text) 0 0 ≡ 48). let short : place ≤ 1 = lone (sym first ∙ zero) in
    let one : length (take place text) ≡ 1 = omega arith in one) in
    let below : digits_value 10 (take place text) < 2 ^ 64 = omega (arith, writes) in
    let is : decimal (digits_value 10 (take place text)) ≡ take place text = decimal-digits_value own (take place text) digits filled alone below in
    sym (take-append-drop place text) ∙ ap (λ front. front ++ drop place text) (sym is ∙ ap decimal writes)

-- digits behind which one more stands are digits
all_ascii_digits-push : (digits : List ℕ) (b : ℕ) → all_ascii_digits digits ≡ true → is_ascii_digit b ≡ true → all_ascii_digits (digits ++ b ∷ []) ≡ true
all_ascii_digits-push [] b so_far here = rw here refl
all_ascii_digits-push (d ∷ digits) b so_far here =
    let parts = and_parts (is_ascii_digit d) (all_ascii_digits digits) so_far in
    and_from (is_ascii_digit d) (all_ascii_digits (digits ++ b ∷ [])) parts.0 (all_ascii_digits-push digits b parts.1 here)

-- one digit more
pub all_ascii_digits-more : (text : List ℕ) (i : ℕ) → i < length text → all_ascii_digits (take i text) ≡ true → is_ascii_digit (get_or text i 0) ≡ true
    → all_ascii_digits (take (i + 1) text) ≡ true
all_ascii_digits-more text i inside so_far here =
    ap all_ascii_digits (take_more text i 0 inside) ∙ all_ascii_digits-push (take i text) (get_or text i 0) so_far here

-- the value with one digit more
pub digits_value-more : (text : List ℕ) (i value digit : ℕ) → i < length text → digits_value 10 (take i text) ≡ value → 48 ≤ get_or text i 0
    → get_or text i 0 ≤ 57 → digit ≡ get_or text i 0 - 48 → digits_value 10 (take (i + 1) text) ≡ value * 10 + digit
digits_value-more text i value digit inside so_far low high is =
    digits_value_more 10 text i inside ∙ ap (λ n. n * 10 + digit_value (get_or text i 0)) so_far
    ∙ ap (λ d. value * 10 + d) (digit_value-ascii (get_or text i 0) low high ∙ sym is)

-- the value of at most seven digits
pub digits_value-seven : (text : List ℕ) (place value : ℕ) → place ≤ 7 → all_ascii_digits (take place text) ≡ true
    → digits_value 10 (take place text) ≡ value → value < 10000000
digits_value-seven text place value few digits writes =
    let short : length (take place text) ≤ 7 = omega (arith, length-take place text) in
    omega (arith, digits_value_short own (take place text) 7 digits short, writes)
