-- How a command ends, by what it read and wrote.
use Rattle.std.specs.Prelude.{◌≡◌, ◌⊎◌, ℕ, ◌+◌, ◌≤◌, List, [], ◌∷◌, ◌++◌, length, Option, Result, Ok, Err, codes, decimal}
use Rattle.std.specs.Io.KnownBytes.{Appends, Consumes, IsAtEnd}
use Rattle.gds_session.specs.declared.ends.End.{End}
use Rattle.gds_session.specs.declared.ends.End.TheVariants.{Done, BadWords, BadInput, ReadFault, WriteFault, Mem, Spent}
use Rattle.gds_session.specs.OnceText.{once_text}

-- a read put the bytes that it took behind those that were there, as many as it answers, or took none
abbrev pub ReadPiece : {E : Type 0} → Option (List ℕ) → Option (List ℕ) → List ℕ → List ℕ → Result ℕ E → Type 0
ReadPiece remaining rest old new (Ok n) = (piece : List ℕ) × (new ≡ old ++ piece) × (length piece ≡ n) × Consumes remaining rest piece
ReadPiece remaining rest old new (Err stop) = (new ≡ old) × Consumes remaining rest []

-- the line of a node: its id and its degree
abbrev pub line_of_degree : ℕ → ℕ → List ℕ
line_of_degree node degree = decimal node ++ codes " " ++ decimal degree ++ codes "\n"

-- the lines of the nodes from one on, whose rows of arcs these are
abbrev pub lines_of_rows : ℕ → List (List ℕ) → List ℕ
lines_of_rows node [] = []
lines_of_rows node (row ∷ rows) = line_of_degree node (length row) ++ lines_of_rows (node + 1) rows

-- a sink took a front of a text, and the rest of it is still there
abbrev pub HandsOn : Option (List ℕ) → Option (List ℕ) → List ℕ → List ℕ → Type 0
HandsOn before after text rest = (piece : List ℕ) × (text ≡ piece ++ rest) × Appends before after piece

-- the words that ask for the degrees
abbrev pub once_degree : List (List ℕ)
once_degree = codes "once" ∷ codes "degree" ∷ []

-- the input makes a text, and what was written is a front of it
abbrev pub WroteFront : Result (List ℕ) ℕ → List ℕ → Type 0
WroteFront made written = (text : List ℕ) × (rest : List ℕ) × (made ≡ Ok text) × (text ≡ written ++ rest)

-- how printing the degrees of a whole input ends, by what the input makes and what was written
abbrev pub PrintEnds : End → Result (List ℕ) ℕ → List ℕ → Type 0
PrintEnds Done made written = made ≡ Ok written
PrintEnds (BadInput line) made written = (made ≡ Err line) × (written ≡ [])
PrintEnds WriteFault made written = WroteFront made written
PrintEnds Mem made written = (written ≡ []) ⊎ WroteFront made written
PrintEnds BadWords made written = ⊥
PrintEnds ReadFault made written = ⊥
PrintEnds Spent made written = ⊥

-- how the command ends, by the bytes that it read, those that the source has left, and the bytes that it wrote:
-- done where the source was read to its end and the whole text was written; at the first line that breaks the format
-- where the source was read to its end, and then nothing was written; at a budget that was read and not passed
abbrev pub OnceEnds : End → ℕ → List ℕ → Option (List ℕ) → List ℕ → Type 0
OnceEnds Done budget read rest written = IsAtEnd rest × (once_text read ≡ Ok written)
OnceEnds (BadInput line) budget read rest written = IsAtEnd rest × (once_text read ≡ Err line) × (written ≡ [])
OnceEnds WriteFault budget read rest written = IsAtEnd rest × WroteFront (once_text read) written
OnceEnds Mem budget read rest written = (written ≡ []) ⊎ (IsAtEnd rest × WroteFront (once_text read) written)
OnceEnds BadWords budget read rest written = (read ≡ []) × (written ≡ [])
OnceEnds ReadFault budget read rest written = written ≡ []
OnceEnds Spent budget read rest written = (length read ≡ budget) × (written ≡ [])

-- a sink took what printing the degrees of an input wrote
pub record Printed (end : End) (made : Result (List ℕ) ℕ) (before after : Option (List ℕ)) : Type 0 where
  pub written : List ℕ
  pub appended : Appends before after written
  pub ends : PrintEnds end made written

-- a run read some bytes within the budget and wrote some bytes, and ended by them
pub record Ran (end : End) (budget : ℕ) (remaining rest before after : Option (List ℕ)) : Type 0 where
  pub read : List ℕ
  pub written : List ℕ
  pub consumed : Consumes remaining rest read
  pub within : length read ≤ budget
  pub appended : Appends before after written
  pub ends : OnceEnds end budget read rest written
