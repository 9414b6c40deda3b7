-- Words on reading an input line by line.
use Rattle.std.specs.Prelude.{◌≡◌, ℕ, ◌<◌, ◌==◌, nat_lt, Bool, ◌&&◌, if◌then◌else◌, List, ◌∷◌, ◌++◌, length, Option, Some, None, Result, Ok, Err}
use Rattle.std.specs.Str.{all_ascii_digits}
use Rattle.std.specs.Str.Parse.{digits_value}
use Rattle.std.specs.List.{AllByRecursion}
use Rattle.gds_session.specs.declared.once.Input.{Input}
use Rattle.gds_session.specs.declared.once.InputRefusal.{InputRefusal}
use Rattle.gds_session.specs.declared.once.InputRefusal.TheVariants.{Line, OutOfMemory}
use Rattle.gds_session.specs.OnceText.{degree_lines, lines_of, arc_of}
use Rattle.gds_session.specs.Printing.{JoinsNodes}

-- whether a byte is this one
abbrev pub is_byte : ℕ → ℕ → Bool
is_byte byte b = b == byte

-- a refusal names the line that a reading names, unless it is want of memory
abbrev pub SaysNone : {A : Type 0} → Result A ℕ → InputRefusal → Type 0
SaysNone read OutOfMemory = Unit {0}
SaysNone read (Line number) = read ≡ Err number

-- an input is the graph whose degrees a text lists
pub record Reads (text : Result (List ℕ) ℕ) (input : Input) : Type 0 where
  pub degrees : text ≡ Ok (degree_lines input.nodes input.arcs.items)
  pub ends : AllByRecursion (JoinsNodes input.nodes) input.arcs.items

-- the number below a limit that a text of decimal digits writes, where there is a digit
abbrev pub digits_below : ℕ → List ℕ → Option ℕ
digits_below limit text = if nat_lt 0 (length text) && all_ascii_digits text && nat_lt (digits_value 10 text) limit then Some (digits_value 10 text) else None

-- arcs before others that were read, or the line that says none
abbrev pub with_arcs : List (ℕ × ℕ) → Result (List (ℕ × ℕ)) ℕ → Result (List (ℕ × ℕ)) ℕ
with_arcs front (Ok arcs) = Ok (front ++ arcs)
with_arcs front (Err number) = Err number

-- the first line of a text says an arc, and these bytes stand after it
pub record IsArcLine (nodes : ℕ) (text : List ℕ) (arc : ℕ × ℕ) (after : List ℕ) : Type 0 where
  pub line : List ℕ
  pub lines : lines_of text ≡ line ∷ lines_of after
  pub says : arc_of nodes line ≡ Some arc
  pub joins : JoinsNodes nodes arc
  pub shorter : length after < length text

-- the first line of a text says no arc
pub record IsNoArcLine (nodes : ℕ) (text : List ℕ) : Type 0 where
  pub line : List ℕ
  pub rest : List (List ℕ)
  pub lines : lines_of text ≡ line ∷ rest
  pub says_none : arc_of nodes line ≡ None
