-- The input of `once degree` in the subject's own words: a number of nodes and a list of arcs, printed.
use Rattle.std.specs.Prelude.{◌≡◌, ◌≢◌, ℕ, ◌-◌, ◌≤◌, ◌<◌, ◌⊎◌, max, List, ◌++◌, length, take, decimal, codes, Ok, Err}
use Rattle.std.specs.List.{AllByRecursion, flat_map}
use Rattle.gds_session.specs.OnceText.{most_nodes, most_arcs, lines_of, degree_lines, once_text}

-- the line `nodes N`
abbrev pub nodes_line : ℕ → List ℕ
nodes_line nodes = codes "nodes " ++ decimal nodes ++ codes "\n"

-- the line `rel S T`
abbrev pub arc_line : ℕ × ℕ → List ℕ
arc_line arc = codes "rel " ++ decimal arc.0 ++ codes " " ++ decimal arc.1 ++ codes "\n"

-- a number of nodes and a list of arcs, printed
abbrev pub printing : ℕ → List (ℕ × ℕ) → List ℕ
printing nodes arcs = nodes_line nodes ++ flat_map arc_line arcs

-- the bytes are that printing, or lack only its last LF
abbrev pub IsPrinting : List ℕ → ℕ → List (ℕ × ℕ) → Type 0
IsPrinting bytes nodes arcs = (bytes ≡ printing nodes arcs) ⊎ (bytes ++ codes "\n" ≡ printing nodes arcs)

-- both ends of an arc are below the number of nodes
abbrev pub JoinsNodes : ℕ → ℕ × ℕ → Type 0
JoinsNodes nodes arc = (arc.0 < nodes) × (arc.1 < nodes)

-- a number of nodes and a list of arcs that are within the limits
pub record IsSmallGraph (nodes : ℕ) (arcs : List (ℕ × ℕ)) : Type 0 where
  pub few_nodes : nodes ≤ most_nodes
  pub few_arcs : length arcs ≤ most_arcs
  pub ends : AllByRecursion (JoinsNodes nodes) arcs

-- a text that is accepted is the printing of a graph, and what is printed are its degrees
abbrev pub AcceptedIsPrinting : Type 0
AcceptedIsPrinting = (bytes text : List ℕ) → once_text bytes ≡ Ok text →
    (nodes : ℕ) × (arcs : List (ℕ × ℕ)) × IsSmallGraph nodes arcs × IsPrinting bytes nodes arcs × (text ≡ degree_lines nodes arcs)

-- the printing of a graph is accepted, and what is printed are its degrees
abbrev pub PrintingIsAccepted : Type 0
PrintingIsAccepted = (bytes : List ℕ) (nodes : ℕ) (arcs : List (ℕ × ℕ)) → IsSmallGraph nodes arcs →
    IsPrinting bytes nodes arcs → once_text bytes ≡ Ok (degree_lines nodes arcs)

-- the first lines of a text, as many as that, each followed by an LF
abbrev pub first_lines : ℕ → List ℕ → List ℕ
first_lines count bytes = flat_map (λ line. line ++ codes "\n") (take count (lines_of bytes))

-- line k of a text is the first that is wrong: the lines before it print a graph, and no text that begins with the
-- lines up to it does
pub record IsFirstWrongLine (bytes : List ℕ) (k : ℕ) : Type 0 where
  pub counted : 1 ≤ k
  pub within : k ≤ max 1 (length (lines_of bytes))
  pub right_before : 1 < k → (nodes : ℕ) × (arcs : List (ℕ × ℕ)) × IsSmallGraph nodes arcs × (first_lines (k - 1) bytes ≡ printing nodes arcs)
  pub wrong_from_there : (other : List ℕ) (nodes : ℕ) (arcs : List (ℕ × ℕ)) → IsSmallGraph nodes arcs →
      IsPrinting other nodes arcs → take k (lines_of other) ≢ take k (lines_of bytes)

-- a text that is refused is refused at its first wrong line
abbrev pub RefusedAtFirstWrongLine : Type 0
RefusedAtFirstWrongLine = (bytes : List ℕ) (k : ℕ) → once_text bytes ≡ Err k → IsFirstWrongLine bytes k
