-- Rows in parts: where a row stands, and what becomes of the rows when one part changes.
use Rattle.std.proofs.Common.{◌≡◌, ℕ, ◌+◌, ◌-◌, ◌*◌, ◌/◌, ◌%◌, ◌<◌, ◌≤◌, List, [], ◌∷◌, ◌++◌, length, set, get_or, Option, Some, None, refl, sym, ◌∙◌, ap, suc, zero, arith}
use Rattle.std.specs.List.{slice_get}
use Rattle.std.proofs.Math.Nat.{mul_comm}
use Rattle.std.proofs.lemmas.List.{append-nil, append_assoc, length-append, length-set, set-append_left, set-append_right}
use Rattle.std.proofs.lemmas.Option.{slice_get_past}
use Rattle.store_tables.specs.Joined.{joined, IsFilled, last_length}

-- ---- a row in the first or the second of two lists

slice_get-append_left : {A : Type 0} (xs ys : List A) (row : ℕ) → row < length xs → slice_get (xs ++ ys) row ≡ slice_get xs row
slice_get-append_left [] ys row within = absurd (omega arith)
slice_get-append_left (x ∷ xs) ys zero within = refl
slice_get-append_left (x ∷ xs) ys (suc row) within = slice_get-append_left xs ys row (omega arith)

slice_get-append_right : {A : Type 0} (xs ys : List A) (row past : ℕ) → row ≡ length xs + past → slice_get (xs ++ ys) row ≡ slice_get ys past
slice_get-append_right [] ys row past is = ap (slice_get ys) (omega (arith, is))
slice_get-append_right (x ∷ xs) ys zero past is = absurd (omega (arith, is))
slice_get-append_right (x ∷ xs) ys (suc row) past is = slice_get-append_right xs ys row past (omega (arith, is))

-- ---- where a row stands

-- a row of a part, where there is such a part
abbrev pub row_in : {A : Type 0} → ℕ → Option (List A) → Option A
row_in rest None = None
row_in rest (Some part) = slice_get part rest

-- a row stands in the part that its number says
pub joined_get : {A : Type 0} (room : ℕ) (parts : List (List A)) (row place rest : ℕ) → IsFilled room parts → rest < room → row ≡ place * room + rest → slice_get (joined parts) row ≡ row_in rest (slice_get parts place)
joined_get room [] row place rest filled below is = refl
joined_get room (part ∷ []) row zero rest filled below is =
    let same : row ≡ rest = omega arith in rw (append-nil, same) refl
joined_get room (part ∷ next ∷ parts) row zero rest filled below is =
    let full = filled.1 (omega arith) in
    let same : row ≡ rest = omega arith in
    slice_get-append_left part (joined (next ∷ parts)) row (omega (arith, full)) ∙ ap (slice_get part) same
joined_get room (part ∷ []) row (suc place) rest filled below is =
    let few = filled.0 in rw append-nil (slice_get_past part row (omega (arith, few)))
joined_get room (part ∷ next ∷ parts) row (suc place) rest filled below is =
    let full = filled.1 (omega arith) in
    slice_get-append_right part (joined (next ∷ parts)) row (row - room) (omega (arith, full))
    ∙ joined_get room (next ∷ parts) (row - room) place rest filled.2 below (omega arith)

-- the part and the place in it of a row that is there
pub joined_within : {A : Type 0} (room : ℕ) (parts : List (List A)) (default : List A) (row place rest : ℕ) → IsFilled room parts → rest < room → row ≡ place * room + rest → row < length (joined parts) → (place < length parts) × (rest < length (get_or parts place default))
joined_within room [] default row place rest filled below is within = absurd (omega arith)
joined_within room (part ∷ []) default row zero rest filled below is within =
    let long = length-append part [] in (omega arith, omega (arith, long))
joined_within room (part ∷ next ∷ parts) default row zero rest filled below is within =
    let full = filled.1 (omega arith) in (omega arith, omega (arith, full))
joined_within room (part ∷ []) default row (suc place) rest filled below is within =
    let long = length-append part [] in let few = filled.0 in absurd (omega (arith, long, few))
joined_within room (part ∷ next ∷ parts) default row (suc place) rest filled below is within =
    let full = filled.1 (omega arith) in
    let long = length-append part (joined (next ∷ parts)) in
    let there = joined_within room (next ∷ parts) default (row - room) place rest filled.2 below (omega arith) (omega (arith, long, full)) in
    (omega (arith, there.0), there.1)

-- ---- a row is set

pub joined-set : {A : Type 0} (room : ℕ) (parts : List (List A)) (row place rest : ℕ) (part : List A) (x : A) → IsFilled room parts → row ≡ place * room + rest → place < length parts → part ≡ get_or parts place part → rest < length part → set (joined parts) row x ≡ joined (set parts place (set part rest x))
joined-set room [] row place rest part x filled is within here below = absurd (omega arith)
joined-set room (first ∷ parts) row zero rest part x filled is within here below =
    let same : row ≡ rest = omega arith in
    rw (same, ← here) (set-append_left part (joined parts) rest x below)
joined-set room (first ∷ parts) row (suc place) rest part x filled is within here below =
    let full = filled.1 (omega arith) in
    set-append_right first (joined parts) room row x full (omega arith)
    ∙ ap (λ rows. first ++ rows) (joined-set room parts (row - room) place rest part x filled.2 (omega arith) (omega arith) here below)

-- a part of the same length takes the place of another
pub IsFilled-set : {A : Type 0} (room : ℕ) (parts : List (List A)) (place : ℕ) (part after : List A) → IsFilled room parts → place < length parts → part ≡ get_or parts place part → length after ≡ length part → IsFilled room (set parts place after)
IsFilled-set room [] place part after filled within here long = absurd (omega arith)
IsFilled-set room (first ∷ parts) zero part after filled within here long =
    let same = ap length here in (omega (arith, filled.0, same), λ more. omega (arith, filled.1 more, same), filled.2)
IsFilled-set room (first ∷ parts) (suc place) part after filled within here long =
    let count = length-set parts place after in
    (filled.0, λ more. filled.1 (omega (arith, count, more)), IsFilled-set room parts place part after filled.2 (omega arith) here long)

-- ---- one more row

-- the last part takes one more row
pub joined-last : {A : Type 0} (parts : List (List A)) (place : ℕ) (part : List A) (x : A) → suc place ≡ length parts → part ≡ get_or parts place part → joined (set parts place (part ++ x ∷ [])) ≡ joined parts ++ x ∷ []
joined-last [] place part x last here = absurd (omega arith)
joined-last (first ∷ []) zero part x last here = append-nil (part ++ x ∷ []) ∙ ap (λ rows. rows ++ x ∷ []) (here ∙ sym (append-nil first))
joined-last (first ∷ next ∷ parts) zero part x last here = absurd (omega (arith, last))
joined-last (first ∷ parts) (suc place) part x last here =
    ap (λ rows. first ++ rows) (joined-last parts place part x (omega (arith, last)) here) ∙ sym (append_assoc first (joined parts) (x ∷ []))

pub IsFilled-last : {A : Type 0} (room : ℕ) (parts : List (List A)) (place : ℕ) (after : List A) → IsFilled room parts → suc place ≡ length parts → length after ≤ room → IsFilled room (set parts place after)
IsFilled-last room [] place after filled last few = absurd (omega arith)
IsFilled-last room (first ∷ []) zero after filled last few = (few, λ more. absurd (omega (arith, more)), tt)
IsFilled-last room (first ∷ next ∷ parts) zero after filled last few = absurd (omega (arith, last))
IsFilled-last room (first ∷ parts) (suc place) after filled last few =
    let count = length-set parts place after in
    (filled.0, λ more. filled.1 (omega (arith, count, more)), IsFilled-last room parts place after filled.2 (omega (arith, last)) few)

-- a new part takes one more row
pub joined-new : {A : Type 0} (parts : List (List A)) (part : List A) → joined (parts ++ part ∷ []) ≡ joined parts ++ part
joined-new [] part = append-nil part
joined-new (first ∷ parts) part = ap (λ rows. first ++ rows) (joined-new parts part) ∙ sym (append_assoc first (joined parts) part)

pub IsFilled-new : {A : Type 0} (room none : ℕ) (parts : List (List A)) (part : List A) → IsFilled room parts → room ≤ last_length none parts → length part ≤ room → IsFilled room (parts ++ part ∷ [])
IsFilled-new room none [] part filled full few = (few, λ more. absurd (omega (arith, more)), tt)
IsFilled-new room none (first ∷ []) part filled full few =
    (filled.0, λ more. omega (arith, filled.0, full), (few, λ more. absurd (omega (arith, more)), tt))
IsFilled-new room none (first ∷ next ∷ parts) part filled full few =
    (filled.0, λ more. filled.1 (omega arith), IsFilled-new room (length first) (next ∷ parts) part filled.2 full few)

-- ---- the last part

pub last_length-at : {A : Type 0} (none : ℕ) (parts : List (List A)) (place : ℕ) (part : List A) → suc place ≡ length parts → part ≡ get_or parts place part → last_length none parts ≡ length part
last_length-at none [] place part last here = absurd (omega (arith, last))
last_length-at none (first ∷ []) zero part last here = ap length (sym here)
last_length-at none (first ∷ next ∷ parts) zero part last here = absurd (omega (arith, last))
last_length-at none (first ∷ parts) (suc place) part last here = last_length-at (length first) parts place part (omega (arith, last)) here

-- where the last part has less, there is a part
pub last_length-some : {A : Type 0} (none : ℕ) (parts : List (List A)) → last_length none parts < none → 0 < length parts
last_length-some none [] less = absurd (omega (arith, less))
last_length-some none (first ∷ parts) less = omega arith

-- ---- parts of so many rows

-- the part of a row, and its place in it
row_split : (room row : ℕ) → 0 < room → row ≡ row / room * room + row % room
row_split room row some = omega (arith, mul_comm (row / room) room)

-- a row that stands in a part, or past all parts
pub row_found : {A : Type 0} (room : ℕ) (parts : List (List A)) (row : ℕ) (part : List A) → 0 < room → IsFilled room parts → slice_get parts (row / room) ≡ Some part → slice_get (joined parts) row ≡ slice_get part (row % room)
row_found room parts row part some filled is = joined_get room parts row (row / room) (row % room) filled (omega arith) (row_split room row some) ∙ ap (row_in (row % room)) is

pub row_missing : {A : Type 0} (room : ℕ) (parts : List (List A)) (row : ℕ) → 0 < room → IsFilled room parts → slice_get parts (row / room) ≡ None → slice_get (joined parts) row ≡ None
row_missing room parts row some filled is = joined_get room parts row (row / room) (row % room) filled (omega arith) (row_split room row some) ∙ ap (row_in (row % room)) is

-- where a row stands
pub row_within : {A : Type 0} (room : ℕ) (parts : List (List A)) (row : ℕ) (default : List A) → 0 < room → IsFilled room parts → row < length (joined parts) → (row / room < length parts) × (row % room < length (get_or parts (row / room) default))
row_within room parts row default some filled within = joined_within room parts default row (row / room) (row % room) filled (omega arith) (row_split room row some) within

-- a row is set in its part
pub row_set : {A : Type 0} (room : ℕ) (parts : List (List A)) (row : ℕ) (part : List A) (x : A) → 0 < room → IsFilled room parts → row < length (joined parts) → part ≡ get_or parts (row / room) part → (joined (set parts (row / room) (set part (row % room) x)) ≡ set (joined parts) row x) × IsFilled room (set parts (row / room) (set part (row % room) x))
row_set room parts row part x some filled within here =
    let there = row_within room parts row part some filled within in
    let below : row % room < length part = rw here there.1 in (
      sym (joined-set room parts row (row / room) (row % room) part x filled (row_split room row some) there.0 here below),
      IsFilled-set room parts (row / room) part (set part (row % room) x) filled there.0 here (length-set part (row % room) x),
    )

-- the last part takes one more row where it has room
pub row_pushed_last : {A : Type 0} (room : ℕ) (parts : List (List A)) (last : ℕ) (part : List A) (x : A) → IsFilled room parts → last_length room parts < room → last + 1 ≡ length parts → part ≡ get_or parts last part → (joined (set parts last (part ++ x ∷ [])) ≡ joined parts ++ x ∷ []) × IsFilled room (set parts last (part ++ x ∷ []))
row_pushed_last room parts last part x filled few is here =
    let count : suc last ≡ length parts = omega (arith, is) in
    let long = last_length-at room parts last part count here in
    let one = length-append part (x ∷ []) in (
      joined-last parts last part x count here,
      IsFilled-last room parts last (part ++ x ∷ []) filled count (omega (arith, long, one, few)),
    )

-- a new part takes one more row where the last one has no room
pub row_pushed_new : {A : Type 0} (room : ℕ) (parts : List (List A)) (x : A) → 0 < room → IsFilled room parts → room ≤ last_length room parts → (joined (parts ++ (x ∷ []) ∷ []) ≡ joined parts ++ x ∷ []) × IsFilled room (parts ++ (x ∷ []) ∷ [])
row_pushed_new room parts x some filled full = (joined-new parts (x ∷ []), IsFilled-new room room parts (x ∷ []) filled full (omega arith))
