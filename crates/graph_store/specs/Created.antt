-- One new element as it lives.
use Rattle.std.specs.Prelude.{ℕ}
use Rattle.graph_model.specs.declared.graph.Node.{Node}
use Rattle.graph_model.specs.declared.graph.Rel.{Rel}
use Rattle.graph_model.specs.declared.change.NewNode.{NewNode}
use Rattle.graph_model.specs.declared.change.NewRel.{NewRel}
use Rattle.graph_model.specs.Lists.{in_order}
use Rattle.graph_model.specs.Change.{text_before, key_before, place_id}

-- a new node of this id
abbrev pub created_node : ℕ → NewNode → Node
created_node id new = record { id = id; labels = in_order text_before new.labels; props = in_order key_before new.props }

-- a new relationship of this id, where the new nodes have their ids from first on
abbrev pub created_rel : ℕ → ℕ → NewRel → Rel
created_rel first id new = record {
  id = id;
  source = place_id first new.source;
  target = place_id first new.target;
  kind = new.kind;
  props = in_order key_before new.props;
}
