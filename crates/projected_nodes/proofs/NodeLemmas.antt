-- Nodes that are referred to, taken one id after another.
use Rattle.std.proofs.Common.{◌≡◌, ℕ, ◌+◌, Bool, true, false, cond, List, [], ◌∷◌, ◌++◌, Bor, map, Option, Some, None, refl, sym, ap, ◌∙◌}
use Rattle.std.proofs.lemmas.List.{append-nil}
use Rattle.std.specs.List.{cons_option, filter, find}
use Rattle.std.proofs.lemmas.List.Elements.{filter-append}
use Rattle.graph_model.specs.declared.graph.Node.{Node}
use Rattle.graph_model.specs.declared.graph.PropertyGraph.{PropertyGraph}
use Rattle.graph_model.specs.Graph.{is_node}
use Rattle.graph_model.specs.ById.{NodesComeById, nodes_below}

-- the nodes that references show
abbrev pub shown : List (Bor Node) → List Node
shown nodes = map (λ node. node.now) nodes

-- what is made of the nodes that references show
pub map-shown : {B : Type 0} (f : Node → B) (nodes : List (Bor Node)) → map (λ node. f node.now) nodes ≡ map f (shown nodes)
map-shown f [] = refl
map-shown f (node ∷ nodes) = ap (λ rest. f node.now ∷ rest) (map-shown f nodes)

pub shown-push : (nodes : List (Bor Node)) (node : Bor Node) → shown (nodes ++ node ∷ []) ≡ shown nodes ++ node.now ∷ []
shown-push [] node = refl
shown-push (first ∷ nodes) node = ap (λ rest. first.now ∷ rest) (shown-push nodes node)

-- the nodes that pass a test, with ids below the next one
pub kept-next : (p : Node → Bool) (g : PropertyGraph) (id : ℕ) → NodesComeById g → filter p (nodes_below (id + 1) g) ≡ filter p (nodes_below id g) ++ filter p (cons_option (find (is_node id) g.nodes) [])
kept-next p g id come = ap (filter p) (come.next id) ∙ filter-append p (nodes_below id g) (cons_option (find (is_node id) g.nodes) [])

-- one node that passes is kept, one that doesn't isn't, and where there is none nothing is
pub found-kept : (p : Node → Bool) (found : Option Node) (node : Node) → found ≡ Some node → p node ≡ true → filter p (cons_option found []) ≡ node ∷ []
found-kept p found node is passes = rw (is, passes) refl

pub found-dropped : (p : Node → Bool) (found : Option Node) (node : Node) → found ≡ Some node → p node ≡ false → filter p (cons_option found []) ≡ []
found-dropped p found node is fails = rw (is, fails) refl

pub none-kept : (p : Node → Bool) (found : Option Node) → found ≡ None → filter p (cons_option found []) ≡ []
none-kept p found is = rw is refl
