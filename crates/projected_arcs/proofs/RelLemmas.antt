-- Relationships that are referred to, taken one id after another.
use Rattle.std.proofs.Common.{◌≡◌, ℕ, ◌+◌, Bool, true, false, cond, List, [], ◌∷◌, ◌++◌, Bor, map, Option, Some, None, refl, sym, ap, ◌∙◌}
use Rattle.std.specs.List.{cons_option, filter, find}
use Rattle.std.proofs.lemmas.List.Elements.{filter-append}
use Rattle.graph_model.specs.declared.graph.Rel.{Rel}
use Rattle.graph_model.specs.declared.graph.PropertyGraph.{PropertyGraph}
use Rattle.graph_model.specs.Graph.{is_rel}
use Rattle.graph_model.specs.ById.{RelsComeById, rels_below}

-- the relationships that references show
abbrev pub shown : List (Bor Rel) → List Rel
shown rels = map (λ rel. rel.now) rels

-- what is made of the relationships that references show
pub map-shown : {B : Type 0} (f : Rel → B) (rels : List (Bor Rel)) → map (λ rel. f rel.now) rels ≡ map f (shown rels)
map-shown f [] = refl
map-shown f (rel ∷ rels) = ap (λ rest. f rel.now ∷ rest) (map-shown f rels)

pub shown-push : (rels : List (Bor Rel)) (rel : Bor Rel) → shown (rels ++ rel ∷ []) ≡ shown rels ++ rel.now ∷ []
shown-push [] rel = refl
shown-push (first ∷ rels) rel = ap (λ rest. first.now ∷ rest) (shown-push rels rel)

-- the relationships that pass a test, with ids below the next one
pub kept-next : (p : Rel → Bool) (g : PropertyGraph) (id : ℕ) → RelsComeById g → filter p (rels_below (id + 1) g) ≡ filter p (rels_below id g) ++ filter p (cons_option (find (is_rel id) g.rels) [])
kept-next p g id come = ap (filter p) (come.next id) ∙ filter-append p (rels_below id g) (cons_option (find (is_rel id) g.rels) [])

-- one that passes is kept, one that doesn't isn't, and where there is none nothing is
pub found-kept : (p : Rel → Bool) (found : Option Rel) (rel : Rel) → found ≡ Some rel → p rel ≡ true → filter p (cons_option found []) ≡ rel ∷ []
found-kept p found rel is passes = rw (is, passes) refl

pub found-dropped : (p : Rel → Bool) (found : Option Rel) (rel : Rel) → found ≡ Some rel → p rel ≡ false → filter p (cons_option found []) ≡ []
found-dropped p found rel is fails = rw (is, fails) refl

pub none-kept : (p : Rel → Bool) (found : Option Rel) → found ≡ None → filter p (cons_option found []) ≡ []
none-kept p found is = rw is refl
