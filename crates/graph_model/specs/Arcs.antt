-- Arcs, each a pair of its source and its target.
use Rattle.std.specs.Prelude.{ℕ, Bool, ◌==◌, List, map, filter, count_by}

-- whether an arc begins at v
abbrev pub leaves : ℕ → ℕ × ℕ → Bool
leaves v arc = arc.0 == v

-- the targets of the arcs from v, in the order of the arcs
abbrev pub targets_of : List (ℕ × ℕ) → ℕ → List ℕ
targets_of arcs v = map (λ arc. arc.1) (filter (leaves v) arcs)

-- the number of arcs from v
abbrev pub out_degree : List (ℕ × ℕ) → ℕ → ℕ
out_degree arcs v = count_by (leaves v) arcs
