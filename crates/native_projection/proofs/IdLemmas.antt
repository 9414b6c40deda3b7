-- The ids of the nodes that are projected.
use Rattle.std.proofs.Common.{◌≡◌, ℕ, ◌+◌, ◌<◌, ◌≤◌, Bool, true, false, cond, List, [], ◌∷◌, length, map, refl, ap, ◌∙◌, arith}
use Rattle.std.proofs.lemmas.List.{length-map}
use Rattle.std.proofs.lemmas.List.Elements.{All-from_recursion}
use Rattle.std.specs.List.{All, AllByRecursion, filter}
use Rattle.std.specs.List.Sorted.{IsStrictlyIncreasing}
use Rattle.graph_model.specs.declared.graph.Node.{Node}
use Rattle.graph_model.specs.declared.graph.PropertyGraph.{PropertyGraph}
use Rattle.graph_model.specs.Graph.{IsValidGraph, IsWithinLimits, NodeBefore, NodeBelow, most_nodes}
use Rattle.graph_model.specs.Lists.{Pairwise}
use Rattle.projection_spec.specs.declared.entries.NodeEntry.{NodeEntry}
use Rattle.projection_spec.specs.RawArcs.{is_projected}
use Rattle.projection_spec.specs.NativeProjection.{kept_nodes}
use Rattle.projected_nodes.specs.Columns.{id_of}
use Rattle.projected_arcs.proofs.ListLemmas.{Pairwise-filter, All-filter}
use Rattle.csr_columns.proofs.Increasing.{Ascends, increasing-from_Ascends}

-- the ids of the nodes that are projected
abbrev pub kept_ids : PropertyGraph → List NodeEntry → List ℕ
kept_ids g entries = map id_of (kept_nodes g entries)

ids-above : (node : Node) (nodes : List Node) → AllByRecursion (NodeBefore node) nodes → AllByRecursion (λ id. node.id < id) (map id_of nodes)
ids-above node [] above = tt
ids-above node (next ∷ nodes) above = (above.0, ids-above node nodes above.1)

ids-ascend : (nodes : List Node) → Pairwise NodeBefore nodes → Ascends (map id_of nodes)
ids-ascend [] up = tt
ids-ascend (node ∷ nodes) up = (ids-above node nodes up.0, ids-ascend nodes up.1)

ids-below : (next : ℕ) (nodes : List Node) → AllByRecursion (NodeBelow next) nodes → AllByRecursion (λ id. id < next) (map id_of nodes)
ids-below next [] below = tt
ids-below next (node ∷ nodes) below = (below.0, ids-below next nodes below.1)

raise : (low : ℕ) (xs : List ℕ) → AllByRecursion (λ x. low < x) xs → AllByRecursion (λ x. low + 1 ≤ x) xs
raise low [] above = tt
raise low (x ∷ xs) above = (omega (arith, above.0), raise low xs above.1)

lower : (low x : ℕ) (xs : List ℕ) → low ≤ x → AllByRecursion (λ y. x < y) xs → AllByRecursion (λ y. low < y) xs
lower low x [] h above = tt
lower low x (y ∷ ys) h above = (omega (arith, above.0), lower low x ys h above.1)

-- numbers that ascend between two others are no more than there is room for
fits-between : (low high : ℕ) (xs : List ℕ) → low ≤ high → Ascends xs → AllByRecursion (λ x. low ≤ x) xs → AllByRecursion (λ x. x < high) xs → low + length xs ≤ high
fits-between low high [] room up above below = omega arith
fits-between low high (x ∷ xs) room up above below =
    omega (arith, fits-between (low + 1) high xs (omega (arith, above.0, below.0)) up.1 (raise low xs (lower low x xs above.0 up.0)) below.1)

from-zero : (xs : List ℕ) → AllByRecursion (λ x. 0 ≤ x) xs
from-zero [] = tt
from-zero (x ∷ xs) = (omega arith, from-zero xs)

module _ (g : PropertyGraph) (entries : List NodeEntry) (valid : IsValidGraph g) where
  kept-up : Ascends (kept_ids g entries)
  kept-up = ids-ascend (kept_nodes g entries) (Pairwise-filter NodeBefore (is_projected entries) g.nodes valid.nodes_ascend)

  kept-low : AllByRecursion (λ id. id < g.next_node) (kept_ids g entries)
  kept-low = ids-below g.next_node (kept_nodes g entries) (All-filter (NodeBelow g.next_node) (is_projected entries) g.nodes valid.node_ids)

  -- they ascend
  pub kept_ids-ascend : IsStrictlyIncreasing (kept_ids g entries)
  kept_ids-ascend = increasing-from_Ascends (kept_ids g entries) kept-up

  -- they lie below the next id
  pub kept_ids-below : All (λ id. id < g.next_node) (kept_ids g entries)
  kept_ids-below = All-from_recursion (λ id. id < g.next_node) (kept_ids g entries) kept-low

  -- and there are no more of them than a graph may have
  pub kept_ids-few : IsWithinLimits g → length (kept_ids g entries) ≤ most_nodes
  kept_ids-few limits = omega (arith, fits-between 0 g.next_node (kept_ids g entries) (omega arith) kept-up (from-zero (kept_ids g entries)) kept-low, limits.nodes)
