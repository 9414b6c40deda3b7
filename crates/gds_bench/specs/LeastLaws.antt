-- What a kernel of least values owes, and that each place stands in the reversed rows of the places in its row.
use Rattle.std.proofs.Common.{◌≡◌, ℕ, zero, suc, ◌<◌, ◌≤◌, min, true, false, List, [], ◌∷◌, length, map, filter, get_or, refl, sym, ap, ◌∙◌, subst, ⊎_elim, zero-add, arith}
use Rattle.std.specs.List.{All, Contains, flat_map, range_with_len}
use Rattle.std.proofs.lemmas.List.{length-map, get_or-map, get_or_past}
use Rattle.std.proofs.lemmas.List.Elements.{Contains-append_left, Contains-append_right, All-nil, All-append, All-map}
use Rattle.std.proofs.lemmas.List.FromFn.{length-range_with_len, get_or-range_with_len, length-map-range_with_len}
use Rattle.std.proofs.lemmas.Bool.{cases_Bool, cases_lt, cond-true, cond-false, eq-eqb}
use Rattle.graph_model.specs.Arcs.{leaves, targets_of}
use Rattle.csr_columns.specs.Rows.{ArcRows, row_at, arc_from, arcs_at, arcs_of, turned, turned_rows}
use Rattle.csr_columns.proofs.Listing.{row_at-rows_of}
use Rattle.csr_columns.proofs.OffsetRows.{All-targets_of}
use Rattle.round_engine.specs.Columns.{value_at, NowhereGreater}
use Rattle.gds_bench.specs.Least.{least_of}

-- the least is nowhere above the first value
pub least-falls : (column : List ℕ) (least : ℕ) (places : List ℕ) → least_of column least places ≤ least
least-falls column least [] = omega arith
least-falls column least (place ∷ places) = omega (arith, least-falls column (min least (value_at column place)) places)

-- of lower values the least is no greater
pub least-keeps_order : (lower upper : List ℕ) (a b : ℕ) (places : List ℕ) → ((u : ℕ) → value_at lower u ≤ value_at upper u) → a ≤ b
    → least_of lower a places ≤ least_of upper b places
least-keeps_order lower upper a b [] below first = first
least-keeps_order lower upper a b (place ∷ places) below first =
    least-keeps_order lower upper (min a (value_at lower place)) (min b (value_at upper place)) places below (omega (arith, first, below place))

contains_later : (x : ℕ) (xs : List ℕ) (v : ℕ) → Contains xs v → Contains (x ∷ xs) v
contains_later x xs v (k, below, is) = (suc k, omega (arith, below), is)

-- of columns that agree at these places the least is the same
pub least-agrees : (one other : List ℕ) (a b : ℕ) (places : List ℕ) → ((u : ℕ) → Contains places u → value_at one u ≡ value_at other u) → a ≡ b
    → least_of one a places ≡ least_of other b places
least-agrees one other a b [] same first = first
least-agrees one other a b (place ∷ places) same first =
    least-agrees one other (min a (value_at one place)) (min b (value_at other place)) places
    (λ u listed. same u (contains_later place places u listed))
    (ap (λ x. min x (value_at one place)) first ∙ ap (min b) (same place (0, omega arith, refl)))

-- what a list contains, the list of images contains
contains_map : {A B : Type 0} (f : A → B) (xs : List A) (x : A) → Contains xs x → Contains (map f xs) (f x)
contains_map f xs x (k, below, is) = (k, omega (arith, length-map xs f, below), get_or-map f xs k x (f x) below ∙ ap f is)

-- what a piece contains, the pieces one after another contain
contains_flat : (f : ℕ → List (ℕ × ℕ)) (xs : List ℕ) (x : ℕ) (arc : ℕ × ℕ) → Contains xs x → Contains (f x) arc → Contains (flat_map f xs) arc
contains_flat f [] x arc (k, below, is) inside = absurd (omega (arith, below))
contains_flat f (y ∷ xs) x arc (zero, below, is) inside =
    Contains-append_left (f y) (flat_map f xs) arc (subst (λ z. Contains (f z) arc) (sym is) inside)
contains_flat f (y ∷ xs) x arc (suc k, below, is) inside =
    Contains-append_right (f y) (flat_map f xs) arc (contains_flat f xs x arc (k, omega (arith, below), is) inside)

-- the target of an arc from u is among the targets of the arcs from u
contains_target : (arcs : List (ℕ × ℕ)) (u v : ℕ) → Contains arcs (u, v) → Contains (targets_of arcs u) v
contains_target [] u v (k, below, is) = absurd (omega (arith, below))
contains_target (arc ∷ arcs) u v (zero, below, is) =
    let second : ℕ × ℕ → ℕ = λ a. a.1 in
    let kept : List (ℕ × ℕ) = filter (leaves u) arcs in
    let from : leaves u arc ≡ true = eq-eqb arc.0 u (ap (λ (a : ℕ × ℕ). a.0) is) in
    subst (λ (xs : List (ℕ × ℕ)). Contains (map second xs) v) (sym (cond-true (leaves u arc) (arc ∷ kept) kept from)) (0, omega arith, ap second is)
contains_target (arc ∷ arcs) u v (suc k, below, is) =
    let second : ℕ × ℕ → ℕ = λ a. a.1 in
    let kept : List (ℕ × ℕ) = filter (leaves u) arcs in
    let rest : Contains (map second kept) v = contains_target arcs u v (k, omega (arith, below), is) in
    ⊎_elim
    (λ (e : leaves u arc ≡ true).
    subst (λ (xs : List (ℕ × ℕ)). Contains (map second xs) v) (sym (cond-true (leaves u arc) (arc ∷ kept) kept e)) (contains_later arc.1 (map second kept) v rest))
    (λ (e : leaves u arc ≡ false).
    subst (λ (xs : List (ℕ × ℕ)). Contains (map second xs) v) (sym (cond-false (leaves u arc) (arc ∷ kept) kept e)) rest)
    (cases_Bool (leaves u arc))

-- each node stands in the reversed rows of the nodes in its row
pub stands-turned : (arcs : ArcRows) (v u : ℕ) → v < length arcs.rows → u < length arcs.rows → Contains (row_at arcs.rows v) u
    → Contains (row_at (turned_rows arcs).rows u) v
stands-turned arcs v u v_in u_in listed =
    let nodes : ℕ = length arcs.rows in
    let back : List (ℕ × ℕ) = map turned (arcs_of arcs.rows) in
    let node : Contains (range_with_len 0 nodes) v = (v, omega (arith, length-range_with_len 0 nodes, v_in), get_or-range_with_len 0 nodes v v v_in ∙ zero-add v) in
    let arc : Contains (arcs_of arcs.rows) (v, u) =
    contains_flat (arcs_at arcs.rows) (range_with_len 0 nodes) v (v, u) node (contains_map (arc_from v) (row_at arcs.rows v) u listed) in
    subst (λ xs. Contains xs v) (sym (row_at-rows_of nodes back u u_in))
    (contains_target back u v (contains_map turned (arcs_of arcs.rows) (v, u) arc))

-- what holds of each piece holds of the pieces one after another
all_flat : (P : ℕ × ℕ → Type 0) (f : ℕ → List (ℕ × ℕ)) (xs : List ℕ) → All (λ x. All P (f x)) xs → All P (flat_map f xs)
all_flat P f [] each = All-nil P
all_flat P f (x ∷ xs) each = All-append P (f x) (flat_map f xs) (each 0 x (omega arith)) (all_flat P f xs (λ k d below. each (suc k) d (omega (arith, below))))

-- reversed rows hold nodes
pub below-turned : (arcs : ArcRows) (u : ℕ) → u < length arcs.rows → All (λ v. v < length arcs.rows) (row_at (turned_rows arcs).rows u)
below-turned arcs u u_in =
    let nodes : ℕ = length arcs.rows in
    let back : List (ℕ × ℕ) = map turned (arcs_of arcs.rows) in
    let from_node : ℕ × ℕ → Type 0 = λ arc. arc.0 < nodes in
    let sources : All from_node (arcs_of arcs.rows) =
    all_flat from_node (arcs_at arcs.rows) (range_with_len 0 nodes)
    (λ k d below.
    let k_in : k < nodes = omega (arith, below, length-range_with_len 0 nodes) in
    let v : ℕ = get_or (range_with_len 0 nodes) k d in
    let v_in : v < nodes = omega (arith, get_or-range_with_len 0 nodes k d k_in) in
    All-map from_node (arc_from v) (row_at arcs.rows v) (λ i e i_in. v_in)) in
    subst (All (λ v. v < nodes)) (sym (row_at-rows_of nodes back u u_in))
    (All-targets_of (λ v. v < nodes) back u (All-map (λ (arc : ℕ × ℕ). arc.1 < nodes) turned (arcs_of arcs.rows) sources))

-- and there are as many of them
pub length-turned : (arcs : ArcRows) → length (turned_rows arcs).rows ≡ length arcs.rows
length-turned arcs = length-map-range_with_len (targets_of (map turned (arcs_of arcs.rows))) 0 (length arcs.rows)

-- the places that look at a node are nodes
pub touches_places : (arcs reversed : ArcRows) → reversed ≡ turned_rows arcs → (u : ℕ) → u < length arcs.rows
    → All (λ v. v < length arcs.rows) (row_at reversed.rows u)
touches_places arcs reversed is u u_in = subst (λ (r : ArcRows). All (λ v. v < length arcs.rows) (row_at r.rows u)) (sym is) (below-turned arcs u u_in)

-- of a column that is nowhere greater the least is no greater
pub keeps_order : (nodes : ℕ) (lower upper : List ℕ) (v : ℕ) (places : List ℕ) → length lower ≡ nodes → length upper ≡ nodes → v < nodes
    → NowhereGreater lower upper → least_of lower (value_at lower v) places ≤ least_of upper (value_at upper v) places
keeps_order nodes lower upper v places lower_long upper_long v_in below =
    least-keeps_order lower upper (value_at lower v) (value_at upper v) places
    (λ u.
    ⊎_elim (λ (inside : u < nodes). below u (omega (arith, inside, upper_long)))
    (λ (outside : nodes ≤ u). omega (arith, get_or_past lower u 0 (omega (arith, outside, lower_long))))
    (cases_lt u nodes))
    (below v (omega (arith, v_in, upper_long)))

-- columns that agree at a node and at those that it looks at have the same least there
pub looks_near : (arcs reversed : ArcRows) → reversed ≡ turned_rows arcs → (one other : List ℕ) (v : ℕ) → length one ≡ length arcs.rows
    → length other ≡ length arcs.rows → v < length arcs.rows → value_at one v ≡ value_at other v
    → ((u : ℕ) → u < length arcs.rows → Contains (row_at reversed.rows u) v → value_at one u ≡ value_at other u)
    → least_of one (value_at one v) (row_at arcs.rows v) ≡ least_of other (value_at other v) (row_at arcs.rows v)
looks_near arcs reversed is one other v one_long other_long v_in here near =
    least-agrees one other (value_at one v) (value_at other v) (row_at arcs.rows v)
    (λ u listed.
    ⊎_elim
    (λ (inside : u < length arcs.rows).
    near u inside (subst (λ (r : ArcRows). Contains (row_at r.rows u) v) (sym is) (stands-turned arcs v u v_in inside listed)))
    (λ (outside : length arcs.rows ≤ u).
    get_or_past one u 0 (omega (arith, outside, one_long)) ∙ sym (get_or_past other u 0 (omega (arith, outside, other_long))))
    (cases_lt u (length arcs.rows)))
    here
