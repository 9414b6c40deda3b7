-- The first line of a text, by the place of its LF.
use Rattle.std.proofs.Common.{◌≡◌, ℕ, ◌+◌, ◌<◌, ◌==◌, Bool, true, false, not, cond, List, [], ◌∷◌, length, take, drop, refl, arith, add_comm, add-one}
use Rattle.std.specs.List.{position_or_len}
use Rattle.gds_session.specs.OnceText.{lines_of, onto_first}
use Rattle.gds_session.specs.Reading.{is_byte}

-- how many bytes stand before the first LF, or how many there are
abbrev pub line_end : List ℕ → ℕ
line_end text = position_or_len (is_byte 10) text

-- one byte more before a text whose first line ends at k
one_more : (is_end : Bool) (b : ℕ) (text : List ℕ) (k : ℕ) → lines_of text ≡ take k text ∷ lines_of (drop (k + 1) text)
    → cond is_end ([] ∷ lines_of text) (onto_first b (lines_of text))
    ≡ take (cond (not is_end) (1 + k) 0) (b ∷ text) ∷ lines_of (drop (cond (not is_end) (1 + k) 0 + 1) (b ∷ text))
one_more true b text k h = refl
one_more false b text k h = rw (h, add_comm 1 k, add-one, add-one) refl

-- a text that isn't empty is its first line and then the lines after it
pub split_lines : (text : List ℕ) → 0 < length text → lines_of text ≡ take (line_end text) text ∷ lines_of (drop (line_end text + 1) text)
split_lines [] h = absurd (omega arith)
split_lines (b ∷ []) h = elim (b == 10) as (λ t. cond t ([] ∷ []) ((b ∷ []) ∷ []) ≡ take (cond (not t) 1 0) (b ∷ []) ∷ lines_of (drop (cond (not t) 1 0 + 1) (b ∷ []))) [ true ↦ refl | false ↦ refl ]
split_lines (b ∷ c ∷ text) h = one_more (b == 10) b (c ∷ text) (line_end (c ∷ text)) (split_lines (c ∷ text) (omega arith))
