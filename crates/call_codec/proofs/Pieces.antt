-- Pieces that are put behind a text one after another.
use Rattle.std.proofs.Common.{◌≡◌, ℕ, List, ◌++◌, append_assoc, ap, ◌∙◌}

-- a text behind which three pieces were put
pub three_pieces : (old a b c first second third : List ℕ) → first ≡ old ++ a → second ≡ first ++ b → third ≡ second ++ c → third ≡ old ++ ((a ++ b) ++ c)
three_pieces old a b c first second third one two three =
    three ∙ ap (λ t. t ++ c) (two ∙ ap (λ t. t ++ b) one) ∙ simp append_assoc
