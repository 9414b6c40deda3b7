-- Elements that ascend by id, those with ids below a number.
use Rattle.std.proofs.Common.{◌≡◌, ℕ, ◌+◌, ◌<◌, ◌≤◌, Bool, true, false, eqb, ltb, List, [], ◌∷◌, ◌++◌, Option, Some, None, refl, ap, ⊎_elim, arith}
use Rattle.std.specs.List.{cons_option, filter, find, AllByRecursion}
use Rattle.std.proofs.lemmas.Bool.{cases_order, eq-eqb, ne_eqb, lt-ltb, le-ltb}
use Rattle.graph_model.specs.declared.graph.PropertyGraph.{PropertyGraph}
use Rattle.graph_model.specs.declared.graph.Node.{Node}
use Rattle.graph_model.specs.declared.graph.Rel.{Rel}
use Rattle.graph_model.specs.Lists.{Pairwise}
use Rattle.graph_model.specs.Graph.{IsValidGraph}
use Rattle.graph_model.specs.ById.{ElementsComeById}

-- the elements with ids below a number
abbrev below : {A : Type 0} → (A → ℕ) → ℕ → List A → List A
below id_of id elements = filter (λ x. ltb (id_of x) id) elements

-- no element has an id below 0
below-zero : {A : Type 0} (id_of : A → ℕ) (elements : List A) → below id_of 0 elements ≡ []
below-zero id_of [] = refl
below-zero id_of (x ∷ elements) =
    let from : ltb (id_of x) 0 ≡ false = le-ltb (id_of x) 0 (omega arith) in
    rw from (below-zero id_of elements)

-- all elements come behind an id
below-none : {A : Type 0} (id_of : A → ℕ) (elements : List A) (last id : ℕ) → AllByRecursion (λ x. last < id_of x) elements → id ≤ last + 1 → below id_of id elements ≡ []
below-none id_of [] last id past within = refl
below-none id_of (x ∷ elements) last id past within =
    let from : ltb (id_of x) id ≡ false = le-ltb (id_of x) id (omega (arith, past.0)) in
    rw from (below-none id_of elements last id past.1 within)

-- no element has an id before all of theirs
find-past : {A : Type 0} (id_of : A → ℕ) (elements : List A) (last id : ℕ) → AllByRecursion (λ x. last < id_of x) elements → id ≤ last → find (λ x. eqb (id_of x) id) elements ≡ None
find-past id_of [] last id past within = refl
find-past id_of (x ∷ elements) last id past within =
    let differs : eqb (id_of x) id ≡ false = ne_eqb (id_of x) id (λ same. omega (arith, past.0)) in
    rw differs (find-past id_of elements last id past.1 within)

-- the element of the next id comes behind those before it, where it lives
below-next : {A : Type 0} (id_of : A → ℕ) (elements : List A) (id : ℕ) → Pairwise (λ a b. id_of a < id_of b) elements → below id_of (id + 1) elements ≡ below id_of id elements ++ cons_option (find (λ x. eqb (id_of x) id) elements) []
below-next id_of [] id ascends = refl
below-next id_of (x ∷ elements) id ascends =
    ⊎_elim
    (λ (same : id_of x ≡ id).
    let here : eqb (id_of x) id ≡ true = eq-eqb (id_of x) id same in
    let from : ltb (id_of x) id ≡ false = le-ltb (id_of x) id (omega arith) in
    let before : ltb (id_of x) (id + 1) ≡ true = lt-ltb (id_of x) (id + 1) (omega arith) in
    let none = below-none id_of elements (id_of x) id ascends.0 (omega arith) in
    let none_next = below-none id_of elements (id_of x) (id + 1) ascends.0 (omega arith) in
    rw (here, from, before, none, none_next) refl)
    (⊎_elim
    (λ (less : id_of x < id).
    let differs : eqb (id_of x) id ≡ false = ne_eqb (id_of x) id (λ same. omega arith) in
    let before : ltb (id_of x) id ≡ true = lt-ltb (id_of x) id less in
    let before_next : ltb (id_of x) (id + 1) ≡ true = lt-ltb (id_of x) (id + 1) (omega arith) in
    rw (differs, before, before_next) (ap (λ rest. x ∷ rest) (below-next id_of elements id ascends.1)))
    (λ (greater : id < id_of x).
    let differs : eqb (id_of x) id ≡ false = ne_eqb (id_of x) id (λ same. omega arith) in
    let from : ltb (id_of x) id ≡ false = le-ltb (id_of x) id (omega arith) in
    let from_next : ltb (id_of x) (id + 1) ≡ false = le-ltb (id_of x) (id + 1) (omega arith) in
    let none = find-past id_of elements (id_of x) id ascends.0 (omega arith) in
    let nothing = below-none id_of elements (id_of x) id ascends.0 (omega arith) in
    let nothing_next = below-none id_of elements (id_of x) (id + 1) ascends.0 (omega arith) in
    rw (differs, from, from_next, none, nothing, nothing_next) refl))
    (cases_order (id_of x) id)

-- every element has an id that was given
below-all : {A : Type 0} (id_of : A → ℕ) (elements : List A) (next : ℕ) → AllByRecursion (λ x. id_of x < next) elements → below id_of next elements ≡ elements
below-all id_of [] next given = refl
below-all id_of (x ∷ elements) next given =
    let before : ltb (id_of x) next ≡ true = lt-ltb (id_of x) next given.0 in
    rw before (ap (λ rest. x ∷ rest) (below-all id_of elements next given.1))

-- in a valid graph the elements come one id after another
pub elements_come_by_id : ElementsComeById
elements_come_by_id g valid = (
  record {
    first = below-zero (λ (node : Node). node.id) g.nodes;
    next = λ id. below-next (λ (node : Node). node.id) g.nodes id valid.nodes_ascend;
    last = below-all (λ (node : Node). node.id) g.nodes g.next_node valid.node_ids;
  },
  record {
    first = below-zero (λ (rel : Rel). rel.id) g.rels;
    next = λ id. below-next (λ (rel : Rel). rel.id) g.rels id valid.rels_ascend;
    last = below-all (λ (rel : Rel). rel.id) g.rels g.next_rel valid.rel_ids;
  },
)
