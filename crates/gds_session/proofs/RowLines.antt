-- The lines of rows of arcs are those of the degrees.
use Rattle.std.proofs.Common.{◌≡◌, ℕ, zero, suc, ◌+◌, List, [], ◌∷◌, ◌++◌, map, filter, cond, length, refl, ap, ap₂, ◌∙◌}
use Rattle.std.proofs.lemmas.List.{length-map}
use Rattle.std.proofs.lemmas.List.Sums.{length-filter}
use Rattle.std.specs.List.{flat_map, range_with_len}
use Rattle.std.specs.List.Sorted.{IsPermutation}
use Rattle.std.proofs.lemmas.List.Sorted.{sum_by-IsPermutation}
use Rattle.graph_model.specs.Arcs.{leaves, targets_of, out_degree}
use Rattle.csr_columns.specs.Rows.{rows_of}
use Rattle.gds_session.specs.OnceText.{degree_line, degree_lines}
use Rattle.gds_session.specs.Ending.{line_of_degree, lines_of_rows}

-- a row is as long as the degree of its node
length-targets_of : (arcs : List (ℕ × ℕ)) (v : ℕ) → length (targets_of arcs v) ≡ out_degree arcs v
length-targets_of arcs v = length-map (filter (leaves v) arcs) (λ arc. arc.1) ∙ length-filter (leaves v) arcs

-- the lines of the rows of some nodes are those of their degrees
lines_of_rows-range : (arcs : List (ℕ × ℕ)) (v n : ℕ)
    → lines_of_rows v (map (targets_of arcs) (range_with_len v n)) ≡ flat_map (degree_line arcs) (range_with_len v n)
lines_of_rows-range arcs v zero = refl
lines_of_rows-range arcs v (suc n) =
    ap₂ ◌++◌ (ap (line_of_degree v) (length-targets_of arcs v)) (lines_of_rows-range arcs (v + 1) n)

-- the lines of all rows are those of all degrees
pub lines_of_rows-rows_of : (n : ℕ) (arcs : List (ℕ × ℕ)) → lines_of_rows 0 (rows_of n arcs) ≡ degree_lines n arcs
lines_of_rows-rows_of n arcs = lines_of_rows-range arcs 0 n

-- the order of arcs doesn't matter to degrees
out_degree-permutation : (arcs sorted : List (ℕ × ℕ)) (v : ℕ) → IsPermutation arcs sorted → out_degree sorted v ≡ out_degree arcs v
out_degree-permutation arcs sorted v moved = sum_by-IsPermutation (λ arc. cond (leaves v arc) 1 0) arcs sorted moved

degree_lines-some : (arcs sorted : List (ℕ × ℕ)) (vs : List ℕ) → IsPermutation arcs sorted
    → flat_map (degree_line sorted) vs ≡ flat_map (degree_line arcs) vs
degree_lines-some arcs sorted [] moved = refl
degree_lines-some arcs sorted (v ∷ vs) moved =
    ap₂ ◌++◌ (ap (line_of_degree v) (out_degree-permutation arcs sorted v moved)) (degree_lines-some arcs sorted vs moved)

-- nor to the lines of the rows
pub lines_of_rows-permutation : (n : ℕ) (arcs sorted : List (ℕ × ℕ)) → IsPermutation arcs sorted
    → lines_of_rows 0 (rows_of n sorted) ≡ degree_lines n arcs
lines_of_rows-permutation n arcs sorted moved = lines_of_rows-rows_of n sorted ∙ degree_lines-some arcs sorted (range_with_len 0 n) moved
