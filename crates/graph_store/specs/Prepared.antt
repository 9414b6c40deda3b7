-- A change that was prepared.
use Rattle.graph_model.specs.declared.graph.PropertyGraph.{PropertyGraph}
use Rattle.graph_model.specs.declared.change.ChangeReply.{ChangeReply}

-- the graph that a change was prepared on, the graph to come, and what the change answers
pub record PreparedChange : Type 0 where
  pub before : PropertyGraph
  pub after : PropertyGraph
  pub answer : ChangeReply
