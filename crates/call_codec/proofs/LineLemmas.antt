-- Lines that are cut off one after another, and bytes that are read piece by piece.
use Rattle.std.proofs.Common.{◌≡◌, ℕ, Bool, true, false, cond, List, [], ◌∷◌, ◌++◌, refl, sym, ap, ◌∙◌, append_assoc, append-nil}
use Rattle.std.proofs.lemmas.Bool.{false≢true}
use Rattle.std.proofs.lemmas.List.Concat.{flat_map-append}
use Rattle.std.specs.Prelude.{◌||◌}
use Rattle.std.specs.List.{list_any, flat_map}
use Rattle.call_codec.specs.Lines.{Item, is_lf, onto_first, asked_by_line, whole_lines, rest_of}
use Rattle.call_codec.specs.LineLaws.{FirstLineIsCut, LastLineWaits, PiecesAreJoined, RestsAreJoined}

both_false : (a b : Bool) → (a || b) ≡ false → (a ≡ false) × (b ≡ false)
both_false true b none = cc
both_false false b none = (refl, none)

or_true : (a : Bool) → (a || true) ≡ true
or_true true = refl
or_true false = refl

-- ---- bytes without an LF

pub whole_lines-none : (line : List ℕ) → list_any is_lf line ≡ false → whole_lines line ≡ []
whole_lines-none [] none = refl
whole_lines-none (b ∷ line) none =
    let apart = both_false (is_lf b) (list_any is_lf line) none in
    ap (λ is. cond is ([] ∷ whole_lines line) (onto_first b (whole_lines line))) apart.0 ∙ ap (onto_first b) (whole_lines-none line apart.1)

pub rest_of-whole : (line : List ℕ) → list_any is_lf line ≡ false → rest_of line ≡ line
rest_of-whole [] none = refl
rest_of-whole (b ∷ line) none = ap (λ is. cond is (rest_of line) (b ∷ line)) none

-- ---- a rest has no LF

rest_of-by : (is : Bool) (rest whole : List ℕ) → list_any is_lf rest ≡ false → list_any is_lf whole ≡ is → list_any is_lf (cond is rest whole) ≡ false
rest_of-by true rest whole none is = none
rest_of-by false rest whole none is = is

pub rest_of-no_lf : (bytes : List ℕ) → list_any is_lf (rest_of bytes) ≡ false
rest_of-no_lf [] = refl
rest_of-no_lf (b ∷ bytes) = rest_of-by (list_any is_lf (b ∷ bytes)) (rest_of bytes) (b ∷ bytes) (rest_of-no_lf bytes) refl

-- ---- two pieces

onto_first-behind : (b : ℕ) (lines more : List (List ℕ)) (line : List ℕ) (rest : List (List ℕ)) → lines ≡ line ∷ rest → onto_first b (lines ++ more) ≡ onto_first b lines ++ more
onto_first-behind b lines more line rest is = rw is refl

-- where there is an LF there is a whole line
some_line-by : (is : Bool) (b : ℕ) (bytes : List ℕ) → (is || list_any is_lf bytes) ≡ true
    → (list_any is_lf bytes ≡ true → (line : List ℕ) × (rest : List (List ℕ)) × (whole_lines bytes ≡ line ∷ rest))
    → (line : List ℕ) × (rest : List (List ℕ)) × (cond is ([] ∷ whole_lines bytes) (onto_first b (whole_lines bytes)) ≡ line ∷ rest)
some_line-by true b bytes some further = ([], whole_lines bytes, refl)
some_line-by false b bytes some further =
    let found = further some in
    (b ∷ found.0, found.1, ap (onto_first b) found.2)

some_line : (bytes : List ℕ) → list_any is_lf bytes ≡ true → (line : List ℕ) × (rest : List (List ℕ)) × (whole_lines bytes ≡ line ∷ rest)
some_line [] some = absurd (false≢true some)
some_line (b ∷ bytes) some = some_line-by (is_lf b) b bytes some (some_line bytes)

-- a byte that is no LF before two pieces
joined_behind : (any : Bool) (b : ℕ) (bytes more : List ℕ) → list_any is_lf bytes ≡ any
    → whole_lines (bytes ++ more) ≡ whole_lines bytes ++ whole_lines (rest_of bytes ++ more)
    → is_lf b ≡ false
    → onto_first b (whole_lines (bytes ++ more)) ≡ onto_first b (whole_lines bytes) ++ whole_lines (cond any (rest_of bytes) (b ∷ bytes) ++ more)
joined_behind true b bytes more some joined apart =
    let found = some_line bytes some in
    ap (onto_first b) joined ∙ onto_first-behind b (whole_lines bytes) (whole_lines (rest_of bytes ++ more)) found.0 found.1 found.2
joined_behind false b bytes more none joined apart =
    ap (λ is. cond is ([] ∷ whole_lines (bytes ++ more)) (onto_first b (whole_lines (bytes ++ more)))) (sym apart)
    ∙ ap (λ lines. onto_first b lines ++ whole_lines (b ∷ (bytes ++ more))) (sym (whole_lines-none bytes none))

joined_by : (is : Bool) (b : ℕ) (bytes more : List ℕ) → is_lf b ≡ is
    → whole_lines (bytes ++ more) ≡ whole_lines bytes ++ whole_lines (rest_of bytes ++ more)
    → cond is ([] ∷ whole_lines (bytes ++ more)) (onto_first b (whole_lines (bytes ++ more)))
    ≡ cond is ([] ∷ whole_lines bytes) (onto_first b (whole_lines bytes)) ++ whole_lines (cond (is || list_any is_lf bytes) (rest_of bytes) (b ∷ bytes) ++ more)
joined_by true b bytes more is joined = ap (λ lines. [] ∷ lines) joined
joined_by false b bytes more is joined = joined_behind (list_any is_lf bytes) b bytes more refl joined is

pub whole_lines-join : (bytes more : List ℕ) → whole_lines (bytes ++ more) ≡ whole_lines bytes ++ whole_lines (rest_of bytes ++ more)
whole_lines-join [] more = refl
whole_lines-join (b ∷ bytes) more = joined_by (is_lf b) b bytes more refl (whole_lines-join bytes more)

list_any-behind : (bytes more : List ℕ) → list_any is_lf more ≡ true → list_any is_lf (bytes ++ more) ≡ true
list_any-behind [] more some = some
list_any-behind (b ∷ bytes) more some = ap (λ any. is_lf b || any) (list_any-behind bytes more some) ∙ or_true (is_lf b)

or_further : (is any further : Bool) → (is || any) ≡ true → (any ≡ true → further ≡ true) → (is || further) ≡ true
or_further true any further some next = refl
or_further false any further some next = next some

list_any-before : (bytes more : List ℕ) → list_any is_lf bytes ≡ true → list_any is_lf (bytes ++ more) ≡ true
list_any-before [] more some = absurd (false≢true some)
list_any-before (b ∷ bytes) more some =
    or_further (is_lf b) (list_any is_lf bytes) (list_any is_lf (bytes ++ more)) some (list_any-before bytes more)

rest_joined : (any : Bool) (b : ℕ) (bytes more : List ℕ) → list_any is_lf (b ∷ bytes) ≡ any
    → rest_of (bytes ++ more) ≡ rest_of (rest_of bytes ++ more)
    → rest_of (b ∷ (bytes ++ more)) ≡ rest_of (cond any (rest_of bytes) (b ∷ bytes) ++ more)
rest_joined true b bytes more some joined =
    ap (λ any. cond any (rest_of (bytes ++ more)) (b ∷ (bytes ++ more))) (list_any-before (b ∷ bytes) more some) ∙ joined
rest_joined false b bytes more none joined = refl

pub rest_of-join : (bytes more : List ℕ) → rest_of (bytes ++ more) ≡ rest_of (rest_of bytes ++ more)
rest_of-join [] more = refl
rest_of-join (b ∷ bytes) more = rest_joined (list_any is_lf (b ∷ bytes)) b bytes more refl (rest_of-join bytes more)

-- ---- the first line

pub whole_lines-cut : (line bytes : List ℕ) → list_any is_lf line ≡ false → whole_lines (line ++ 10 ∷ bytes) ≡ line ∷ whole_lines bytes
whole_lines-cut [] bytes none = refl
whole_lines-cut (b ∷ line) bytes none =
    let apart = both_false (is_lf b) (list_any is_lf line) none in
    ap (λ is. cond is ([] ∷ whole_lines (line ++ 10 ∷ bytes)) (onto_first b (whole_lines (line ++ 10 ∷ bytes)))) apart.0
    ∙ ap (onto_first b) (whole_lines-cut line bytes apart.1)

pub rest_of-cut : (line bytes : List ℕ) → rest_of (line ++ 10 ∷ bytes) ≡ rest_of bytes
rest_of-cut [] bytes = refl
rest_of-cut (b ∷ line) bytes =
    ap (λ any. cond any (rest_of (line ++ 10 ∷ bytes)) (b ∷ (line ++ 10 ∷ bytes))) (list_any-behind (b ∷ line) (10 ∷ bytes) refl)
    ∙ rest_of-cut line bytes

-- ---- what lines ask

-- what the last line asks
abbrev last_asked : Bool → List ℕ → List Item
last_asked ended rest = cond ended (asked_by_line rest) []

pub first_line_is_cut : FirstLineIsCut
first_line_is_cut line bytes ended none =
    ap (λ lines. flat_map asked_by_line lines ++ last_asked ended (rest_of (line ++ 10 ∷ bytes))) (whole_lines-cut line bytes none)
    ∙ ap (λ rest. (asked_by_line line ++ flat_map asked_by_line (whole_lines bytes)) ++ last_asked ended rest) (rest_of-cut line bytes)
    ∙ append_assoc (asked_by_line line) (flat_map asked_by_line (whole_lines bytes)) (last_asked ended (rest_of bytes))

pub last_line_waits : LastLineWaits
last_line_waits line none = (
  ap (λ lines. flat_map asked_by_line lines ++ []) (whole_lines-none line none),
  ap (λ lines. flat_map asked_by_line lines ++ asked_by_line (rest_of line)) (whole_lines-none line none) ∙ ap asked_by_line (rest_of-whole line none),
)

pub pieces_are_joined : PiecesAreJoined
pieces_are_joined bytes more ended =
    let front = flat_map asked_by_line (whole_lines bytes) in
    let later = flat_map asked_by_line (whole_lines (rest_of bytes ++ more)) in
    let last = last_asked ended (rest_of (rest_of bytes ++ more)) in
    ap (λ lines. flat_map asked_by_line lines ++ last_asked ended (rest_of (bytes ++ more))) (whole_lines-join bytes more)
    ∙ ap (λ rest. flat_map asked_by_line (whole_lines bytes ++ whole_lines (rest_of bytes ++ more)) ++ last_asked ended rest) (rest_of-join bytes more)
    ∙ ap (λ items. items ++ last) (flat_map-append asked_by_line (whole_lines bytes) (whole_lines (rest_of bytes ++ more)))
    ∙ append_assoc front later last
    ∙ ap (λ items. items ++ (later ++ last)) (sym (append-nil front))

pub rests_are_joined : RestsAreJoined
rests_are_joined bytes more = (rest_of-join bytes more, rest_of-no_lf bytes)
