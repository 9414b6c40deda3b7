-- Raw arcs as flat arcs that are read.
use Rattle.std.proofs.Common.{◌≡◌, ℕ, ◌+◌, ◌<◌, ◌≤◌, Bool, true, false, cond, eqb, ltb, nat_lt, ◌&&◌, ◌||◌, List, [], ◌∷◌, ◌++◌, length, map, get_or, refl, sym, ap, ◌∙◌, ⊎_elim, arith}
use Rattle.std.proofs.lemmas.Bool.{cases_order, lt-ltb, le-ltb}
use Rattle.std.proofs.lemmas.List.{map-append}
use Rattle.std.specs.List.{AllByRecursion, flat_map}
use Rattle.std.specs.Ordering.{nat_cmp, ordering_then, is_lt}
use Rattle.std.specs.declared.cmp.Ordering.{Ordering}
use Rattle.std.specs.declared.cmp.Ordering.TheVariants.{Less, Equal, Greater}
use Rattle.graph_model.specs.declared.graph.Rel.{Rel}
use Rattle.graph_model.specs.declared.graph.Orientation.{Orientation}
use Rattle.graph_model.specs.declared.graph.Orientation.TheVariants.{Natural, Reverse, Undirected}
use Rattle.graph_model.specs.Graph.{RelBefore}
use Rattle.graph_model.specs.Lists.{Pairwise, in_order}
use Rattle.projection_spec.specs.declared.arcs.RawArc.{RawArc}
use Rattle.projection_spec.specs.declared.entries.RelProp.{RelProp}
use Rattle.projection_spec.specs.RawArcs.{turned_arcs, arc_of, arc_before}
use Rattle.projected_arcs.specs.declared.flat.FlatArc.{FlatArc}
use Rattle.projected_arcs.specs.Flat.{flat_arc, turned_flat, flat_arcs, flat_cmp, flat_before, no_rel, rel_of, raw_of, IsWithin}
use Rattle.projected_arcs.proofs.ListLemmas.{at-middle, length-push, push-front, Pairwise-at, in_order-map}

-- ---- the arcs of relationships

turned-raw : (orientation : Orientation) (props : List RelProp) (rels : List Rel) (place : ℕ) (rel : Rel) → get_or rels place no_rel ≡ rel → turned_arcs orientation props rel ≡ map (raw_of rels props) (turned_flat orientation place rel)
turned-raw Natural props rels place rel is = ap (λ r. arc_of props r rel.source rel.target ∷ []) (sym is)
turned-raw Reverse props rels place rel is = ap (λ r. arc_of props r rel.target rel.source ∷ []) (sym is)
turned-raw Undirected props rels place rel is = ap (λ r. arc_of props r rel.source rel.target ∷ arc_of props r rel.target rel.source ∷ []) (sym is)

-- the arcs of relationships behind others
raw-behind : (orientation : Orientation) (props : List RelProp) (front rels : List Rel) → flat_map (turned_arcs orientation props) rels ≡ map (raw_of (front ++ rels) props) (flat_arcs orientation (length front) rels)
raw-behind orientation props front [] = refl
raw-behind orientation props front (rel ∷ rels) =
    let all = front ++ rel ∷ rels in
    ap (λ arcs. arcs ++ flat_map (turned_arcs orientation props) rels) (turned-raw orientation props all (length front) rel (at-middle front rel rels no_rel))
    ∙ ap (λ arcs. map (raw_of all props) (turned_flat orientation (length front) rel) ++ arcs)
    (raw-behind orientation props (front ++ rel ∷ []) rels
    ∙ ap (λ rs. map (raw_of rs props) (flat_arcs orientation (length (front ++ rel ∷ [])) rels)) (push-front front rel rels)
    ∙ ap (λ n. map (raw_of all props) (flat_arcs orientation n rels)) (length-push front rel))
    ∙ sym (map-append (raw_of all props) (turned_flat orientation (length front) rel) (flat_arcs orientation (length front + 1) rels))

-- ---- the order of arcs

pub lt-then : (a b : ℕ) (o : Ordering) → is_lt (ordering_then (nat_cmp a b) o) ≡ (nat_lt a b || (eqb a b && is_lt o))
lt-then a b o =
    elim (nat_lt a b) as (λ l. is_lt (ordering_then (cond l Less (cond (eqb a b) Equal Greater)) o) ≡ (l || (eqb a b && is_lt o)))
    [ true ↦ refl | false ↦ elim (eqb a b) as (λ e. is_lt (ordering_then (cond e Equal Greater) o) ≡ (e && is_lt o)) [ true ↦ refl | false ↦ refl ] ]

pub lt-last : (a b : ℕ) → is_lt (nat_cmp a b) ≡ nat_lt a b
lt-last a b =
    elim (nat_lt a b) as (λ l. is_lt (cond l Less (cond (eqb a b) Equal Greater)) ≡ l)
    [ true ↦ refl | false ↦ elim (eqb a b) as (λ e. is_lt (cond e Equal Greater) ≡ false) [ true ↦ refl | false ↦ refl ] ]

-- an arc comes before another by source, by target, and by place
pub flat_before-is : (a b : FlatArc) → flat_before a b ≡ (nat_lt a.source b.source || (eqb a.source b.source && (nat_lt a.target b.target || (eqb a.target b.target && nat_lt a.place b.place))))
flat_before-is a b =
    lt-then a.source b.source (ordering_then (nat_cmp a.target b.target) (nat_cmp a.place b.place))
    ∙ ap (λ rest. nat_lt a.source b.source || (eqb a.source b.source && rest))
    (lt-then a.target b.target (nat_cmp a.place b.place)
    ∙ ap (λ rest. nat_lt a.target b.target || (eqb a.target b.target && rest)) (lt-last a.place b.place))

-- ids of relationships are ordered as their places
ids-ordered : (rels : List Rel) (i j : ℕ) → Pairwise RelBefore rels → i < length rels → j < length rels → nat_lt (get_or rels i no_rel).id (get_or rels j no_rel).id ≡ nat_lt i j
ids-ordered rels i j up i_in j_in =
    ⊎_elim
    (λ (e : i ≡ j). rw e (le-ltb (get_or rels j no_rel).id (get_or rels j no_rel).id (omega arith) ∙ sym (le-ltb j j (omega arith))))
    (⊎_elim
    (λ (lt : i < j). lt-ltb (get_or rels i no_rel).id (get_or rels j no_rel).id (Pairwise-at RelBefore rels i j no_rel lt j_in up) ∙ sym (lt-ltb i j lt))
    (λ (gt : j < i). le-ltb (get_or rels i no_rel).id (get_or rels j no_rel).id (omega (arith, Pairwise-at RelBefore rels j i no_rel gt i_in up)) ∙ sym (le-ltb i j (omega arith))))
    (cases_order i j)

pub raw-ordered : (rels : List Rel) (props : List RelProp) → Pairwise RelBefore rels → (a b : FlatArc) → IsWithin (length rels) a → IsWithin (length rels) b → arc_before (raw_of rels props a) (raw_of rels props b) ≡ flat_before a b
raw-ordered rels props up a b a_in b_in =
    ap (λ last. nat_lt a.source b.source || (eqb a.source b.source && (nat_lt a.target b.target || (eqb a.target b.target && last)))) (ids-ordered rels a.place b.place up a_in b_in)
    ∙ sym (flat_before-is a b)

-- ---- places

pub All-++ : {A : Type 0} (P : A → Type 0) (xs ys : List A) → AllByRecursion P xs → AllByRecursion P ys → AllByRecursion P (xs ++ ys)
All-++ P [] ys first second = second
All-++ P (x ∷ xs) ys first second = (first.0, All-++ P xs ys first.1 second)

turned-within : (orientation : Orientation) (place many : ℕ) (rel : Rel) → place < many → AllByRecursion (IsWithin many) (turned_flat orientation place rel)
turned-within Natural place many rel h = (h, tt)
turned-within Reverse place many rel h = (h, tt)
turned-within Undirected place many rel h = (h, (h, tt))

pub flat-within : (orientation : Orientation) (first many : ℕ) (rels : List Rel) → first + length rels ≤ many → AllByRecursion (IsWithin many) (flat_arcs orientation first rels)
flat-within orientation first many [] h = tt
flat-within orientation first many (rel ∷ rels) h =
    All-++ (IsWithin many) (turned_flat orientation first rel) (flat_arcs orientation (first + 1) rels) (turned-within orientation first many rel (omega arith)) (flat-within orientation (first + 1) many rels (omega arith))

-- raw arcs in order are flat arcs in order, read from their relationships
pub raw-flat : (orientation : Orientation) (props : List RelProp) (rels : List Rel) → Pairwise RelBefore rels → in_order arc_before (flat_map (turned_arcs orientation props) rels) ≡ map (raw_of rels props) (in_order flat_before (flat_arcs orientation 0 rels))
raw-flat orientation props rels up =
    ap (in_order arc_before) (raw-behind orientation props [] rels)
    ∙ in_order-map (raw_of rels props) flat_before arc_before (IsWithin (length rels)) (raw-ordered rels props up) (flat_arcs orientation 0 rels) (flat-within orientation 0 (length rels) rels (omega arith))
