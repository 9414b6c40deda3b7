-- What changes do to a graph, as statements that laws prove.
use Rattle.std.specs.Prelude.{◌≡◌, ℕ, ◌≤◌, ◌<◌, false}
use Rattle.graph_model.specs.declared.graph.PropertyGraph.{PropertyGraph}
use Rattle.graph_model.specs.declared.change.Change.{Change}
use Rattle.graph_model.specs.Graph.{IsValidGraph, IsWithinLimits, node_lives, rel_lives}
use Rattle.graph_model.specs.Change.{after_change, ChangeFits}

-- a change that fits keeps a graph valid and within the limits
abbrev pub FittingChangeKeepsGraph : Type 0
FittingChangeKeepsGraph = (g : PropertyGraph) (c : Change) → IsValidGraph g → ChangeFits g c →
    IsValidGraph (after_change g c) × IsWithinLimits (after_change g c)

-- no counter falls, and an id that was given before and doesn't live is dead for good
pub record UsesNewIds (before after : PropertyGraph) : Type 0 where
  pub node_counter : before.next_node ≤ after.next_node
  pub rel_counter : before.next_rel ≤ after.next_rel
  pub nodes : (id : ℕ) → id < before.next_node → node_lives before.nodes id ≡ false → node_lives after.nodes id ≡ false
  pub rels : (id : ℕ) → id < before.next_rel → rel_lives before.rels id ≡ false → rel_lives after.rels id ≡ false

-- a change never uses an id again
abbrev pub IdsAreNotUsedAgain : Type 0
IdsAreNotUsedAgain = (g : PropertyGraph) (c : Change) → UsesNewIds g (after_change g c)
