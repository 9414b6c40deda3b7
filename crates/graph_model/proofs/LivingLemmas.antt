-- Which elements live after a change.
use Rattle.std.proofs.Common.{◌≡◌, inl, inr, ℕ, ◌+◌, ◌-◌, ◌<◌, ◌≤◌, ◌==◌, ℤ, true, false, not, ◌||◌, List, [], ◌∷◌, map, length, refl, sym, ap, ◌∙◌, arith}
use Rattle.std.specs.List.{AllByRecursion, filter}
use Rattle.std.proofs.lemmas.Bool.{cases_Bool, eqb-true}
use Rattle.std.proofs.lemmas.Bool.Decides.{nat_tests}
use Rattle.graph_model.specs.declared.graph.Node.{Node}
use Rattle.graph_model.specs.declared.graph.Rel.{Rel}
use Rattle.graph_model.specs.declared.change.NewNode.{NewNode}
use Rattle.graph_model.specs.declared.change.NewRel.{NewRel}
use Rattle.graph_model.specs.Lists.{Pairwise}
use Rattle.graph_model.specs.Graph.{node_lives, rel_lives, NodeBefore, RelBefore, NodeBelow, RelBelow}
use Rattle.graph_model.specs.Change.{created_nodes, created_rels, node_after, rel_after, is_listed, keeps_node}

-- a node that isn't listed lives on when the listed ones go
pub node_lives-kept : (ids : List ℕ) (nodes : List Node) (id : ℕ) → is_listed ids id ≡ false → node_lives nodes id ≡ true
    → node_lives (filter (keeps_node ids) nodes) id ≡ true
node_lives-kept ids [] id unlisted lives = lives
node_lives-kept ids (node ∷ nodes) id unlisted lives =
    elim (cases_Bool (node.id == id)) [
      | inl here ↦
          let same : node.id ≡ id = eqb-true node.id id here in
          let stays : keeps_node ids node ≡ true = ap (λ n. not (is_listed ids n)) same ∙ ap not unlisted in
          rw (stays, here) refl
      | inr other ↦
          let later : node_lives nodes id ≡ true = rw other at lives in
          elim (cases_Bool (keeps_node ids node)) [
            | inl stays ↦ rw (stays, other) (node_lives-kept ids nodes id unlisted later)
            | inr goes ↦ rw goes (node_lives-kept ids nodes id unlisted later)
          ]
    ]

-- setting values changes no ids
pub node_lives-set : (key : List ℕ) (pairs : List (ℕ × ℤ)) (nodes : List Node) (id : ℕ) → node_lives (map (node_after key pairs) nodes) id ≡ node_lives nodes id
node_lives-set key pairs [] id = refl
node_lives-set key pairs (node ∷ nodes) id = ap (λ b. (node.id == id) || b) (node_lives-set key pairs nodes id)

pub rel_lives-set : (key : List ℕ) (pairs : List (ℕ × ℤ)) (rels : List Rel) (id : ℕ) → rel_lives (map (rel_after key pairs) rels) id ≡ rel_lives rels id
rel_lives-set key pairs [] id = refl
rel_lives-set key pairs (rel ∷ rels) id = ap (λ b. (rel.id == id) || b) (rel_lives-set key pairs rels id)

-- new nodes have the ids from the first on, ascending
pub created_nodes-below : (first next : ℕ) (news : List NewNode) → first + length news ≤ next → AllByRecursion (NodeBelow next) (created_nodes first news)
created_nodes-below first next [] fits = tt
created_nodes-below first next (new ∷ news) fits = (omega arith, created_nodes-below (first + 1) next news (omega arith))

pub created_nodes-from : (low first : ℕ) (news : List NewNode) → low < first → AllByRecursion (λ node. low < node.id) (created_nodes first news)
created_nodes-from low first [] above = tt
created_nodes-from low first (new ∷ news) above = (above, created_nodes-from low (first + 1) news (omega arith))

pub created_nodes-ascend : (first : ℕ) (news : List NewNode) → Pairwise NodeBefore (created_nodes first news)
created_nodes-ascend first [] = tt
created_nodes-ascend first (new ∷ news) = (created_nodes-from first (first + 1) news (omega arith), created_nodes-ascend (first + 1) news)

pub created_nodes-dead : (first : ℕ) (news : List NewNode) (id : ℕ) → id < first → node_lives (created_nodes first news) id ≡ false
created_nodes-dead first [] id below = refl
created_nodes-dead first (new ∷ news) id below =
    let other : (first == id) ≡ false = grind (arith, nat_tests) in
    rw other (created_nodes-dead (first + 1) news id (omega arith))

pub created_nodes-live : (first : ℕ) (news : List NewNode) (index : ℕ) → index < length news → node_lives (created_nodes first news) (first + index) ≡ true
created_nodes-live first [] index below = absurd (omega arith)
created_nodes-live first (new ∷ news) index below =
    elim (cases_Bool (first == (first + index))) [
      | inl here ↦ rw here refl
      | inr other ↦
          let later : 0 < index = grind (arith, nat_tests) in
          let same : first + 1 + (index - 1) ≡ first + index = omega arith in
          rw other (ap (node_lives (created_nodes (first + 1) news)) (sym same) ∙ created_nodes-live (first + 1) news (index - 1) (omega arith))
    ]

-- new relationships have the ids from the first on, ascending
pub created_rels-below : (node first next : ℕ) (news : List NewRel) → first + length news ≤ next → AllByRecursion (RelBelow next) (created_rels node first news)
created_rels-below node first next [] fits = tt
created_rels-below node first next (new ∷ news) fits = (omega arith, created_rels-below node (first + 1) next news (omega arith))

pub created_rels-from : (node low first : ℕ) (news : List NewRel) → low < first → AllByRecursion (λ rel. low < rel.id) (created_rels node first news)
created_rels-from node low first [] above = tt
created_rels-from node low first (new ∷ news) above = (above, created_rels-from node low (first + 1) news (omega arith))

pub created_rels-ascend : (node first : ℕ) (news : List NewRel) → Pairwise RelBefore (created_rels node first news)
created_rels-ascend node first [] = tt
created_rels-ascend node first (new ∷ news) = (created_rels-from node first (first + 1) news (omega arith), created_rels-ascend node (first + 1) news)

pub created_rels-dead : (node first : ℕ) (news : List NewRel) (id : ℕ) → id < first → rel_lives (created_rels node first news) id ≡ false
created_rels-dead node first [] id below = refl
created_rels-dead node first (new ∷ news) id below =
    let other : (first == id) ≡ false = grind (arith, nat_tests) in
    rw other (created_rels-dead node (first + 1) news id (omega arith))
