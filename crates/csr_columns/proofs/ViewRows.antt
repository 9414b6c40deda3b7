-- The arcs of a view are those of its rows, and the arcs from a node are its row.
use Rattle.std.proofs.Common.{◌≡◌, ◌≢◌, ℕ, ℤ, zero, suc, ◌+◌, ◌<◌, ◌≤◌, Bool, true, false, ◌==◌, List, [], ◌∷◌, ◌++◌, map, filter, length, get_or, slice_index, Option, Some, None, IfSome, ⊎_elim, refl, sym, ap, ◌∙◌, subst, arith}
use Rattle.std.specs.List.{AllByRecursion, flat_map, range_with_len, zip}
use Rattle.std.specs.List.Sorted.{IsStrictlyIncreasing}
use Rattle.std.proofs.lemmas.Bool.{cases_lt, cond-true, cond-false, eq-eqb, ne_eqb}
use Rattle.std.proofs.lemmas.List.{length-map, append-nil}
use Rattle.graph_model.specs.View.{ViewArc}
use Rattle.graph_model.specs.Degrees.{arcs_from, leads_from}
use Rattle.csr_columns.specs.Rows.{ArcRows, IsBeside, HasColumnsBeside, arc_from, arcs_at, arcs_of, column_at, listed, row_at}
use Rattle.csr_columns.specs.ViewParts.{ViewColumns, HasWeightsAmong, HasWeightsBeside, bare_arc, heavy_arc, plain_view_arcs, plain_view_of, row_arcs, view_row, StandsAmong, view_shown}
use Rattle.csr_columns.proofs.Gathered.{zip-flat_map}
use Rattle.csr_columns.proofs.Grouping.{map-flat_map}
use Rattle.csr_columns.proofs.Increasing.{increasing-less}
use Rattle.csr_columns.proofs.Taken.{listed-rows}
use Rattle.csr_columns.proofs.ViewArcs.{filter-flat_map}

-- the weights of a view, by the place of their key
pub weights-among : (ids : List ℕ) (arcs : ArcRows) (weight : Option ℕ) (directed : Option (List ℕ)) → StandsAmong weight (length arcs.columns)
    → HasWeightsAmong (view_shown ids arcs weight directed)
weights-among ids arcs None directed stands = tt
weights-among ids arcs (Some place) directed stands = (place, stands, refl)

beside-among : (arcs : ArcRows) (weights : Option (List (List ℤ))) → HasColumnsBeside arcs
    → IfSome weights (λ column. (place : ℕ) × (place < length arcs.columns) × (column ≡ column_at arcs.columns place)) → IfSome weights (IsBeside arcs.rows)
beside-among arcs None beside among = tt
beside-among arcs (Some column) beside (place, in_range, is) = subst (IsBeside arcs.rows) (sym is) (beside place in_range)

pub weights-beside : (view : ViewColumns) → HasColumnsBeside view.arcs → HasWeightsAmong view → HasWeightsBeside view
weights-beside view beside among = beside-among view.arcs view.weights beside among

arcs-by_rows : (ids : List ℕ) (arcs : ArcRows) (weights : Option (List (List ℤ))) → IfSome weights (IsBeside arcs.rows)
    → plain_view_arcs ids arcs weights ≡ flat_map (row_arcs ids arcs.rows weights) (range_with_len 0 (length arcs.rows))
arcs-by_rows ids arcs None beside = map-flat_map (bare_arc ids) (arcs_at arcs.rows) (range_with_len 0 (length arcs.rows))
arcs-by_rows ids arcs (Some weights) beside =
    ap (λ (xs : List ℤ). map (heavy_arc ids) (zip (arcs_of arcs.rows) xs))
    (listed-rows weights ∙ ap (λ (n : ℕ). flat_map (row_at weights) (range_with_len 0 n)) beside.many)
    ∙ ap (map (heavy_arc ids))
    (zip-flat_map (arcs_at arcs.rows) (row_at weights) 0 (length arcs.rows)
    (λ v low high. beside.long v (omega arith) ∙ sym (length-map (row_at arcs.rows v) (arc_from v))))
    ∙ map-flat_map (heavy_arc ids) (λ v. zip (arcs_at arcs.rows v) (row_at weights v)) (range_with_len 0 (length arcs.rows))

-- the arcs of a view, row after row
pub arcs-view_rows : (view : ViewColumns) → HasWeightsBeside view
    → (plain_view_of view).arcs ≡ flat_map (view_row view) (range_with_len 0 (length view.arcs.rows))
arcs-view_rows view beside = arcs-by_rows view.ids view.arcs view.weights beside

-- all arcs of a row lead from its node
abbrev LeadFrom : ℕ → List ViewArc → Type 0
LeadFrom source arcs = AllByRecursion (λ (arc : ViewArc). arc.source ≡ source) arcs

from-bare : (ids : List ℕ) (v : ℕ) (targets : List ℕ) → LeadFrom (slice_index ids v) (map (bare_arc ids) (map (arc_from v) targets))
from-bare ids v [] = tt
from-bare ids v (target ∷ targets) = (refl, from-bare ids v targets)

from-heavy : (ids : List ℕ) (v : ℕ) (targets : List ℕ) (weights : List ℤ) → LeadFrom (slice_index ids v) (map (heavy_arc ids) (zip (map (arc_from v) targets) weights))
from-heavy ids v [] weights = tt
from-heavy ids v (target ∷ targets) [] = tt
from-heavy ids v (target ∷ targets) (weight ∷ weights) = (refl, from-heavy ids v targets weights)

from-row : (ids : List ℕ) (rows : List (List ℕ)) (weights : Option (List (List ℤ))) (v : ℕ) → LeadFrom (slice_index ids v) (row_arcs ids rows weights v)
from-row ids rows None v = from-bare ids v (row_at rows v)
from-row ids rows (Some weights) v = from-heavy ids v (row_at rows v) (row_at weights v)

kept-row : (id source : ℕ) (arcs : List ViewArc) → (source == id) ≡ true → LeadFrom source arcs → filter (leads_from id) arcs ≡ arcs
kept-row id source [] same from = refl
kept-row id source (arc ∷ arcs) same (is, from) =
    cond-true (arc.source == id) (arc ∷ filter (leads_from id) arcs) (filter (leads_from id) arcs) (ap (λ (s : ℕ). s == id) is ∙ same)
    ∙ ap (λ (xs : List ViewArc). arc ∷ xs) (kept-row id source arcs same from)

left-row : (id source : ℕ) (arcs : List ViewArc) → (source == id) ≡ false → LeadFrom source arcs → filter (leads_from id) arcs ≡ []
left-row id source [] other from = refl
left-row id source (arc ∷ arcs) other (is, from) =
    cond-false (arc.source == id) (arc ∷ filter (leads_from id) arcs) (filter (leads_from id) arcs) (ap (λ (s : ℕ). s == id) is ∙ other)
    ∙ left-row id source arcs other from

none-in : {X : Type 0} (f : ℕ → List X) (a n : ℕ) → ((u : ℕ) → a ≤ u → u < a + n → f u ≡ []) → flat_map f (range_with_len a n) ≡ []
none-in f a zero none = refl
none-in {X} f a (suc n) none =
    ap (λ (xs : List X). xs ++ flat_map f (range_with_len (a + 1) n)) (none a (omega arith) (omega arith))
    ∙ none-in f (a + 1) n (λ u low high. none u (omega arith) (omega arith))

-- one of some pieces is all of them where the others are empty
only-in : {X : Type 0} (f : ℕ → List X) (a n v : ℕ) → a ≤ v → v < a + n → ((u : ℕ) → a ≤ u → u < a + n → u ≢ v → f u ≡ []) → flat_map f (range_with_len a n) ≡ f v
only-in f a zero v low high others = absurd (omega arith)
only-in {X} f a (suc n) v low high others =
    ⊎_elim
    (λ (later : a < v).
    ap (λ (xs : List X). xs ++ flat_map f (range_with_len (a + 1) n)) (others a (omega arith) (omega arith) (λ same. omega (arith, same, later)))
    ∙ only-in f (a + 1) n v (omega arith) (omega arith) (λ u from below other. others u (omega arith) (omega arith) other))
    (λ (first : v ≤ a).
    (let here : a ≡ v = omega arith in
    ap (λ (xs : List X). f a ++ xs) (none-in f (a + 1) n (λ u from below. others u (omega arith) (omega arith) (λ same. omega (arith, same, here, from))))
    ∙ append-nil (f a) ∙ ap f here))
    (cases_lt a v)

other-id : (ids : List ℕ) (u v : ℕ) → u < length ids → v < length ids → u ≢ v → IsStrictlyIncreasing ids → (slice_index ids u == slice_index ids v) ≡ false
other-id ids u v u_in v_in other ascend =
    ne_eqb (slice_index ids u) (slice_index ids v)
    (λ same.
    ⊎_elim
    (λ (before : u < v). omega (arith, same, increasing-less ids u v before v_in ascend))
    (λ (after : v ≤ u). omega (arith, same, increasing-less ids v u (omega (arith, after, other)) u_in ascend))
    (cases_lt u v))

-- the arcs of a view from the node at a place are its row
pub arcs_from-row : (view : ViewColumns) (v : ℕ) → HasWeightsBeside view → IsStrictlyIncreasing view.ids → length view.arcs.rows ≡ length view.ids
    → v < length view.ids → arcs_from (plain_view_of view) (slice_index view.ids v) ≡ view_row view v
arcs_from-row view v beside ascend long in_range =
    let id : ℕ = slice_index view.ids v in
    ap (filter (leads_from id)) (arcs-view_rows view beside)
    ∙ filter-flat_map (leads_from id) (view_row view) (range_with_len 0 (length view.arcs.rows))
    ∙ only-in (λ u. filter (leads_from id) (view_row view u)) 0 (length view.arcs.rows) v (omega arith) (omega (arith, long, in_range))
    (λ u low high other. left-row id (slice_index view.ids u) (view_row view u) (other-id view.ids u v (omega (arith, long, high)) in_range other ascend) (from-row view.ids view.arcs.rows view.weights u))
    ∙ kept-row id id (view_row view v) (eq-eqb id id refl) (from-row view.ids view.arcs.rows view.weights v)
