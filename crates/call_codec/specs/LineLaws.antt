-- What holds of lines, as statements that laws prove.
use Rattle.std.specs.Prelude.{◌≡◌, ℕ, Bool, true, false, List, [], ◌∷◌, ◌++◌}
use Rattle.std.specs.List.{list_any}
use Rattle.call_codec.specs.Lines.{is_lf, asked_by_line, rest_of, line_items}

-- the first line is cut off at its LF
abbrev pub FirstLineIsCut : Type 0
FirstLineIsCut = (line bytes : List ℕ) (ended : Bool) → list_any is_lf line ≡ false →
    line_items (line ++ 10 ∷ bytes) ended ≡ asked_by_line line ++ line_items bytes ended

-- a line without an LF asks only where the input has ended
abbrev pub LastLineWaits : Type 0
LastLineWaits = (line : List ℕ) → list_any is_lf line ≡ false → (line_items line false ≡ []) × (line_items line true ≡ asked_by_line line)

-- bytes that are read in two pieces ask what the first one asks, and then what its rest asks with the second one
abbrev pub PiecesAreJoined : Type 0
PiecesAreJoined = (bytes more : List ℕ) (ended : Bool) → line_items (bytes ++ more) ended ≡ line_items bytes false ++ line_items (rest_of bytes ++ more) ended

-- the rest of two pieces is the rest of the first one's rest with the second one, and no LF stands in a rest
abbrev pub RestsAreJoined : Type 0
RestsAreJoined = (bytes more : List ℕ) → (rest_of (bytes ++ more) ≡ rest_of (rest_of bytes ++ more)) × (list_any is_lf (rest_of bytes) ≡ false)
