-- Weights that are taken, and the first that isn't.
use Rattle.std.specs.Prelude.{◌≡◌, ℕ, ℤ, pos, ◌<◌, true, false, List, length, slice_index_or}
use Rattle.graph_model.specs.Degrees.{is_out_of_range}

-- the weights before a place are in range
abbrev pub AreTaken : List ℤ → ℕ → Type 0
AreTaken weights last = (at : ℕ) → at < last → is_out_of_range (slice_index_or weights at (pos 0)) ≡ false

-- the first weight that is out of range stands at a place
abbrev pub IsFirstRefused : List ℤ → ℕ → Type 0
IsFirstRefused weights at =
    (at < length weights) × (is_out_of_range (slice_index_or weights at (pos 0)) ≡ true) × AreTaken weights at
