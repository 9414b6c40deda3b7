-- Laws of rows of arcs.
use Rattle.std.specs.Prelude.{◌≡◌, ℕ, ℤ, ◌<◌, List, length, All}
use Rattle.std.specs.List.Sorted.{IsSorted}
use Rattle.graph_model.specs.Arcs.{targets_of, out_degree}
use Rattle.csr_columns.specs.Rows.{LiesBelow, arc_cmp, rows_of, row_at, column_of, arcs_of, listed}

-- the row of a node holds the targets of the arcs from it
abbrev pub RowHoldsTargets : Type 0
RowHoldsTargets = (nodes : ℕ) (arcs : List (ℕ × ℕ)) (v : ℕ) → v < nodes → row_at (rows_of nodes arcs) v ≡ targets_of arcs v

-- the row of a node is as long as its degree
abbrev pub RowIsDegree : Type 0
RowIsDegree = (nodes : ℕ) (arcs : List (ℕ × ℕ)) (v : ℕ) → v < nodes → length (row_at (rows_of nodes arcs) v) ≡ out_degree arcs v

-- listing the rows of arcs in order gives the arcs back
abbrev pub ListingGivesArcs : Type 0
ListingGivesArcs = (nodes : ℕ) (arcs : List (ℕ × ℕ)) → All (LiesBelow nodes) arcs → IsSorted arc_cmp arcs → arcs_of (rows_of nodes arcs) ≡ arcs

-- and listing the values beside them gives the values back
abbrev pub ListingGivesValues : Type 0
ListingGivesValues = (nodes : ℕ) (arcs : List (ℕ × ℕ)) (prop : List ℕ × List ℤ) → All (LiesBelow nodes) arcs → IsSorted arc_cmp arcs → length prop.1 ≡ length arcs → listed (column_of nodes arcs prop).1 ≡ prop.1
