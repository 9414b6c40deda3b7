-- What is asked of a change before it is made.
use Rattle.std.specs.Prelude.{◌≡◌, ℕ, ◌+◌, Bool, not, List, length, sum_by, Option, None, is_some}
use Rattle.graph_model.specs.declared.graph.PropertyGraph.{PropertyGraph}
use Rattle.graph_model.specs.declared.change.NewNode.{NewNode}
use Rattle.graph_model.specs.declared.change.NewRel.{NewRel}
use Rattle.graph_model.specs.declared.change.Change.{Change}
use Rattle.graph_model.specs.declared.refusal.Refusal.{Refusal}
use Rattle.graph_model.specs.declared.refusal.Quantity.TheVariants as quantity
use Rattle.graph_model.specs.Lists.{first_there}
use Rattle.graph_model.specs.Graph.{most_nodes, most_rels, most_values, value_count}
use Rattle.graph_model.specs.Change.{after_change, refused_change, over_limit}
use Rattle.store_tables.specs.Slots.{slot_at}

-- whether nothing lives under an id
abbrev pub is_dead : {A : Type 0} → List (Option A) → ℕ → Bool
is_dead slots id = not (is_some (slot_at slots id))

-- how many values a new node has
abbrev pub new_node_values : NewNode → ℕ
new_node_values new = length new.props

-- how many values a new relationship has
abbrev pub new_rel_values : NewRel → ℕ
new_rel_values new = length new.props

-- a graph is what a change that is allowed makes of another
abbrev pub IsMadeBy : PropertyGraph → Change → PropertyGraph → Type 0
IsMadeBy g change after = (after ≡ after_change g change) × (refused_change g change ≡ None)

-- why new elements are refused, where all that they name lives
abbrev pub over_limits_with : PropertyGraph → List NewNode → List NewRel → Option Refusal
over_limits_with g nodes rels = first_there (over_limit quantity.Nodes most_nodes (g.next_node + length nodes))
    (first_there (over_limit quantity.Rels most_rels (g.next_rel + length rels))
    (over_limit quantity.Values most_values (value_count g + (sum_by new_node_values nodes + sum_by new_rel_values rels))))
