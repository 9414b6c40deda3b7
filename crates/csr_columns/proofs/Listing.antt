-- The rows of arcs in order, one after another, are the arcs.
use Rattle.std.proofs.Common.{◌≡◌, ℕ, ℤ, ◌+◌, ◌<◌, true, false, List, [], ◌∷◌, length, map, filter, refl, sym, ap, ◌∙◌, subst, ⊎_elim, arith}
use Rattle.std.specs.List.{All, flat_map, range_with_len}
use Rattle.std.specs.List.Sorted.{IsSorted}
use Rattle.std.proofs.lemmas.List.FromFn.{length-map-range_with_len, get_or-map-range_with_len}
use Rattle.std.proofs.lemmas.Bool.{cases_Bool, cond-true, cond-false, eqb-true}
use Rattle.graph_model.specs.Arcs.{leaves, targets_of}
use Rattle.csr_columns.specs.Rows.{LiesBelow, arc_cmp, rows_of, row_at, values_of, arc_from, arcs_at, arcs_of, listed}
use Rattle.csr_columns.specs.Offsets.{arcs_before, cut_row, CountsArcs, CutsRows}
use Rattle.csr_columns.proofs.OffsetRows.{cut_row-counted, cut_rows-counted, CutsRows-counted, listed-cut_rows, flat_map-listed}
use Rattle.csr_columns.proofs.Ascending.{ascending_arcs, ascending_values}

-- the offsets of the rows of arcs
abbrev starts_of : ℕ → List (ℕ × ℕ) → List ℕ
starts_of nodes arcs = map (arcs_before arcs) (range_with_len 0 (nodes + 1))

starts_counted : (nodes : ℕ) (arcs : List (ℕ × ℕ)) → CountsArcs nodes arcs (starts_of nodes arcs)
starts_counted nodes arcs = record {
  long = length-map-range_with_len (arcs_before arcs) 0 (nodes + 1);
  counts = λ v h. get_or-map-range_with_len (arcs_before arcs) 0 (nodes + 1) v v 0 (omega arith) (omega arith);
}

starts_cut : (nodes : ℕ) (arcs : List (ℕ × ℕ)) → All (LiesBelow nodes) arcs → CutsRows (starts_of nodes arcs) (length arcs)
starts_cut nodes arcs below = CutsRows-counted nodes arcs (starts_of nodes arcs) (λ k d h. (below k d h).0) (starts_counted nodes arcs)

-- the row of a node holds the targets of the arcs from it
pub row_at-rows_of : (nodes : ℕ) (arcs : List (ℕ × ℕ)) (v : ℕ) → v < nodes → row_at (rows_of nodes arcs) v ≡ targets_of arcs v
row_at-rows_of nodes arcs v h = get_or-map-range_with_len (targets_of arcs) 0 nodes v v [] h (omega arith)

-- arcs to the targets of the arcs from v are the arcs from v
pub arcs_to-targets_of : (arcs : List (ℕ × ℕ)) (v : ℕ) → map (arc_from v) (targets_of arcs v) ≡ filter (leaves v) arcs
arcs_to-targets_of [] v = refl
arcs_to-targets_of (arc ∷ arcs) v =
    let second : ℕ × ℕ → ℕ = λ a. a.1 in
    let kept : List (ℕ × ℕ) = filter (leaves v) arcs in
    let rest = arcs_to-targets_of arcs v in
    ⊎_elim
    (λ (e : leaves v arc ≡ true).
    ap (λ (xs : List (ℕ × ℕ)). map (arc_from v) (map second xs)) (cond-true (leaves v arc) (arc ∷ kept) kept e)
    ∙ ap (λ (s : ℕ). (s, arc.1) ∷ map (arc_from v) (map second kept)) (sym (eqb-true arc.0 v e))
    ∙ ap (λ (xs : List (ℕ × ℕ)). arc ∷ xs) rest
    ∙ sym (cond-true (leaves v arc) (arc ∷ kept) kept e))
    (λ (e : leaves v arc ≡ false).
    ap (λ (xs : List (ℕ × ℕ)). map (arc_from v) (map second xs)) (cond-false (leaves v arc) (arc ∷ kept) kept e)
    ∙ rest
    ∙ sym (cond-false (leaves v arc) (arc ∷ kept) kept e))
    (cases_Bool (leaves v arc))

-- the rows of arcs in order, one after another
pub arcs_of-rows_of : (nodes : ℕ) (arcs : List (ℕ × ℕ)) → All (LiesBelow nodes) arcs → IsSorted arc_cmp arcs → arcs_of (rows_of nodes arcs) ≡ arcs
arcs_of-rows_of nodes arcs below sorted =
    let rows : List (List ℕ) = rows_of nodes arcs in
    let starts : List ℕ = starts_of nodes arcs in
    let counted = starts_counted nodes arcs in
    let row : (v : ℕ) → v < nodes → cut_row starts arcs v ≡ arcs_at rows v =
    λ v h. cut_row-counted nodes arcs starts arcs v counted h ∙ ascending_arcs arcs v sorted ∙ sym (ap (map (arc_from v)) (row_at-rows_of nodes arcs v h) ∙ arcs_to-targets_of arcs v) in
    ap (λ (n : ℕ). flat_map (arcs_at rows) (range_with_len 0 n)) (length-map-range_with_len (targets_of arcs) 0 nodes)
    ∙ flat_map-listed (arcs_at rows) (range_with_len 0 nodes)
    ∙ sym (ap listed (cut_rows-counted nodes arcs starts arcs (arcs_at rows) counted row))
    ∙ listed-cut_rows starts arcs (starts_cut nodes arcs below)

-- and the values beside them
pub listed-values_of : (nodes : ℕ) (arcs : List (ℕ × ℕ)) (values : List ℤ) → All (LiesBelow nodes) arcs → IsSorted arc_cmp arcs → length values ≡ length arcs → listed (map (values_of arcs values) (range_with_len 0 nodes)) ≡ values
listed-values_of nodes arcs values below sorted long =
    let starts : List ℕ = starts_of nodes arcs in
    let counted = starts_counted nodes arcs in
    sym (ap listed (cut_rows-counted nodes arcs starts values (values_of arcs values) counted (λ v h. cut_row-counted nodes arcs starts values v counted h ∙ ascending_values arcs values v sorted long)))
    ∙ listed-cut_rows starts values (subst (λ (n : ℕ). CutsRows starts n) (sym long) (starts_cut nodes arcs below))
