-- The lines of a text that is lines, each followed by an LF, with and without the last LF.
use Rattle.std.proofs.Common.{◌≡◌, ℕ, ◌⊎◌, eqb, nat_eq, true, false, List, [], ◌∷◌, ◌++◌, length, drop, ◌<◌, refl, ap, sym, ◌∙◌, inl, inr, append_assoc, append-nil, arith}
use Rattle.std.proofs.lemmas.List.{append_cancel_right}
use Rattle.std.proofs.lemmas.Bool.Decides.{Decides-eqb}
use Rattle.std.proofs.lemmas.Slice.Eq.{starts_is}
use Rattle.std.proofs.lemmas.Bool.{cases_Bool, eqb-true}
use Rattle.std.specs.List.{AllByRecursion, flat_map, starts_with}
use Rattle.gds_session.specs.OnceText.{onto_first, lines_of}

-- the byte stands nowhere in a text
abbrev pub Lacks : ℕ → List ℕ → Type 0
Lacks x text = AllByRecursion (λ b. eqb b x ≡ false) text

pub Lacks-append : (x : ℕ) (s t : List ℕ) → Lacks x s → Lacks x t → Lacks x (s ++ t)
Lacks-append x [] t p q = q
Lacks-append x (b ∷ s) t p q = (p.0, Lacks-append x s t p.1 q)

-- a text that begins with a front is that front and what follows it
pub starts_with-front : (text front : List ℕ) → starts_with nat_eq text front ≡ true → text ≡ front ++ drop (length front) text
starts_with-front text front h =
    (starts_is Decides-eqb text front (starts_with nat_eq text front) refl).0 h

-- lines, each followed by an LF
abbrev pub unlines : List (List ℕ) → List ℕ
unlines lines = flat_map (λ line. line ++ (10 ∷ [])) lines

-- lines, with an LF between each and the next
abbrev pub joined : List ℕ → List (List ℕ) → List ℕ
joined line [] = line
joined line (next ∷ lines) = line ++ (10 ∷ joined next lines)

-- each line has a byte, and none is an LF
abbrev pub AreFilled : List (List ℕ) → Type 0
AreFilled lines = AllByRecursion (λ line. (0 < length line) × Lacks 10 line) lines

pub lines_of-line : (line rest : List ℕ) → Lacks 10 line → lines_of (line ++ (10 ∷ rest)) ≡ line ∷ lines_of rest
lines_of-line [] rest p = refl
lines_of-line (b ∷ line) rest p = rw (p.0, lines_of-line line rest p.1)

pub lines_of-last : (b : ℕ) (line : List ℕ) → Lacks 10 (b ∷ line) → lines_of (b ∷ line) ≡ (b ∷ line) ∷ []
lines_of-last b [] p = rw p.0
lines_of-last b (c ∷ line) p = rw (p.0, lines_of-last c line p.1)

-- a text of lines has those lines
pub lines_of-unlines : (lines : List (List ℕ)) → AreFilled lines → lines_of (unlines lines) ≡ lines
lines_of-unlines [] p = refl
lines_of-unlines (line ∷ lines) p =
    rw (append_assoc line (10 ∷ []) (unlines lines), lines_of-line line (unlines lines) p.0.1, lines_of-unlines lines p.1)

unlines-joined : (line : List ℕ) (lines : List (List ℕ)) → unlines (line ∷ lines) ≡ joined line lines ++ (10 ∷ [])
unlines-joined line [] = append-nil (line ++ (10 ∷ []))
unlines-joined line (next ∷ lines) =
    append_assoc line (10 ∷ []) (unlines (next ∷ lines)) ∙ ap (λ rest. line ++ (10 ∷ rest)) (unlines-joined next lines) ∙ sym (append_assoc line (10 ∷ joined next lines) (10 ∷ []))

lines_of-joined : (line : List ℕ) (lines : List (List ℕ)) → AreFilled (line ∷ lines) → lines_of (joined line lines) ≡ line ∷ lines
lines_of-joined [] lines p = absurd (omega (arith, p.0.0))
lines_of-joined (b ∷ line) [] p = lines_of-last b line p.0.1
lines_of-joined (b ∷ line) (next ∷ lines) p =
    rw (lines_of-line (b ∷ line) (joined next lines) p.0.1, lines_of-joined next lines p.1)

not_nil : (bytes : List ℕ) → bytes ++ (10 ∷ []) ≡ [] → ⊥
not_nil [] e = cc
not_nil (b ∷ bytes) e = cc

-- so has that text without its last LF, where no line is empty
pub lines_of-unlines_cut : (bytes : List ℕ) (lines : List (List ℕ)) → AreFilled lines → bytes ++ (10 ∷ []) ≡ unlines lines → lines_of bytes ≡ lines
lines_of-unlines_cut bytes [] p e = absurd (not_nil bytes e)
lines_of-unlines_cut bytes (line ∷ lines) p e =
    ap lines_of (append_cancel_right bytes (joined line lines) (10 ∷ []) (e ∙ unlines-joined line lines)) ∙ lines_of-joined line lines p

unlines-onto_first : (b : ℕ) (bytes : List ℕ) (lines : List (List ℕ)) → (bytes ≡ unlines lines) ⊎ (bytes ++ (10 ∷ []) ≡ unlines lines) → (b ∷ bytes ≡ unlines (onto_first b lines)) ⊎ (b ∷ bytes ++ (10 ∷ []) ≡ unlines (onto_first b lines))
unlines-onto_first b bytes [] (inl e) = inr (ap (λ rest. b ∷ rest ++ (10 ∷ [])) e)
unlines-onto_first b bytes [] (inr e) = absurd (not_nil bytes e)
unlines-onto_first b bytes (line ∷ lines) (inl e) = inl (ap (λ rest. b ∷ rest) e)
unlines-onto_first b bytes (line ∷ lines) (inr e) = inr (ap (λ rest. b ∷ rest) e)

unlines-empty : (b : ℕ) (bytes : List ℕ) (lines : List (List ℕ)) → b ≡ 10 → (bytes ≡ unlines lines) ⊎ (bytes ++ (10 ∷ []) ≡ unlines lines) → (b ∷ bytes ≡ unlines ([] ∷ lines)) ⊎ (b ∷ bytes ++ (10 ∷ []) ≡ unlines ([] ∷ lines))
unlines-empty b bytes lines is (inl e) = inl cc
unlines-empty b bytes lines is (inr e) = inr cc

-- a text is its lines, but for the last LF
pub unlines-lines_of : (bytes : List ℕ) → (bytes ≡ unlines (lines_of bytes)) ⊎ (bytes ++ (10 ∷ []) ≡ unlines (lines_of bytes))
unlines-lines_of [] = inl refl
unlines-lines_of (b ∷ bytes) =
    elim (cases_Bool (eqb b 10)) [
      | inl is ↦ rw is (unlines-empty b bytes (lines_of bytes) (eqb-true b 10 is) (unlines-lines_of bytes))
      | inr isnt ↦ rw isnt (unlines-onto_first b bytes (lines_of bytes) (unlines-lines_of bytes))
    ]
