-- What `once degree` makes of its input: a number of nodes and relationships, one a line, give the degree of each node.
--   lines_of bytes              the lines of a text
--   number_below limit text     the number below a limit that a text writes
--   node_count_of line          the number of nodes that the line `nodes N` says
--   arc_of nodes line           the arc that the line `rel S T` says
--   arcs_of nodes number lines  the arcs that lines say, or the number of the first line that says none
--   degree_lines nodes arcs     a line for each node, with the number of arcs from it
--   once_text bytes             the text that is printed, or the number of the first line that breaks the format
use Rattle.std.specs.Prelude.{ℕ, ◌+◌, ◌==◌, nat_eq, nat_lt, Bool, false, ◌&&◌, ◌||◌, not, if◌then◌else◌, List, [], ◌∷◌, ◌++◌, length, drop, Option, Some, None, Result, Ok, Err, decimal, codes}
use Rattle.std.specs.List.{starts_with, before_first, after_first, flat_map, range_with_len}
use Rattle.std.specs.Str.{all_ascii_digits}
use Rattle.std.specs.Str.Parse.{digits_value}
use Rattle.graph_model.specs.Arcs.{out_degree}
-- the most nodes and the most relationships that an input has
pub use Rattle.graph_model.specs.Graph.{most_nodes, most_rels as most_arcs}

-- a byte stands at the front of the first line
abbrev pub onto_first : ℕ → List (List ℕ) → List (List ℕ)
onto_first b [] = (b ∷ []) ∷ []
onto_first b (line ∷ lines) = (b ∷ line) ∷ lines

-- the lines of a text: what stands before each LF, and what stands after the last LF where that isn't empty
abbrev pub lines_of : List ℕ → List (List ℕ)
lines_of [] = []
lines_of (b ∷ bytes) = if b == 10 then [] ∷ lines_of bytes else onto_first b (lines_of bytes)

-- whether a text is decimal digits, with no 0 before another digit
abbrev pub is_decimal : List ℕ → Bool
is_decimal [] = false
is_decimal (d ∷ digits) = all_ascii_digits (d ∷ digits) && (not (d == 48) || nat_eq (length digits) 0)

-- the number below a limit that a text writes
abbrev pub number_below : ℕ → List ℕ → Option ℕ
number_below limit text = if is_decimal text && nat_lt (digits_value 10 text) limit then Some (digits_value 10 text) else None

-- the number of nodes that the line `nodes N` says
abbrev pub node_count_of : List ℕ → Option ℕ
node_count_of line = if starts_with nat_eq line (codes "nodes ") then number_below (most_nodes + 1) (drop 6 line) else None

-- a pair of two values that are there
abbrev pub both : Option ℕ → Option ℕ → Option (ℕ × ℕ)
both None second = None
both (Some a) None = None
both (Some a) (Some b) = Some (a, b)

-- whether a byte is a space
abbrev pub is_space : ℕ → Bool
is_space b = b == 32

-- the arc from S to T that the text `S T` says
abbrev pub ends_of : ℕ → List ℕ → Option (ℕ × ℕ)
ends_of nodes text = both (number_below nodes (before_first is_space text)) (number_below nodes (after_first is_space text))

-- the arc from S to T that the line `rel S T` says
abbrev pub arc_of : ℕ → List ℕ → Option (ℕ × ℕ)
arc_of nodes line = if starts_with nat_eq line (codes "rel ") then ends_of nodes (drop 4 line) else None

-- an arc before others, or the number of the line that says none
abbrev pub with_arc : Option (ℕ × ℕ) → ℕ → Result (List (ℕ × ℕ)) ℕ → Result (List (ℕ × ℕ)) ℕ
with_arc None number rest = Err number
with_arc (Some arc) number (Ok arcs) = Ok (arc ∷ arcs)
with_arc (Some arc) number (Err first) = Err first

-- the arcs that lines say, of which the first has this number, or the number of the first line that says none;
-- the first relationship stands in line 2, so that a line is one too many by its number
abbrev pub arcs_of : ℕ → ℕ → List (List ℕ) → Result (List (ℕ × ℕ)) ℕ
arcs_of nodes number [] = Ok []
arcs_of nodes number (line ∷ lines) =
    with_arc (if nat_lt number (most_arcs + 2) then arc_of nodes line else None) number (arcs_of nodes (number + 1) lines)

-- the line of a node: its id and its degree
abbrev pub degree_line : List (ℕ × ℕ) → ℕ → List ℕ
degree_line arcs v = decimal v ++ codes " " ++ decimal (out_degree arcs v) ++ codes "\n"

-- a line for each node, ascending
abbrev pub degree_lines : ℕ → List (ℕ × ℕ) → List ℕ
degree_lines nodes arcs = flat_map (degree_line arcs) (range_with_len 0 nodes)

-- the degrees in the graph of these arcs
abbrev pub degrees_text : ℕ → Result (List (ℕ × ℕ)) ℕ → Result (List ℕ) ℕ
degrees_text nodes (Ok arcs) = Ok (degree_lines nodes arcs)
degrees_text nodes (Err number) = Err number

-- what the lines after the first make, by the number of nodes that the first line says
abbrev pub body_text : Option ℕ → List (List ℕ) → Result (List ℕ) ℕ
body_text None lines = Err 1
body_text (Some nodes) lines = degrees_text nodes (arcs_of nodes 2 lines)

-- what the lines of a whole input make; an input with no line breaks the format at line 1
abbrev pub text_of_lines : List (List ℕ) → Result (List ℕ) ℕ
text_of_lines [] = Err 1
text_of_lines (first ∷ lines) = body_text (node_count_of first) lines

-- the text that is printed, or the number of the first line that breaks the format
abbrev pub once_text : List ℕ → Result (List ℕ) ℕ
once_text bytes = text_of_lines (lines_of bytes)
