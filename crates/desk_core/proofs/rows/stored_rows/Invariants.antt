use Rattle.std.proofs.Common.{◌≡◌, ◌<◌}
use Rattle.std.specs.List.{AllByRecursion, filter_map}
use Rattle.graph_model.specs.ById.{nodes_below}
use Rattle.desk_model.specs.Replies.{rows_of}
use Rattle.desk_model.specs.Step.{chosen_row}
use Rattle.desk_core.proofs.rows.stored_rows.Given as goal

-- the rows so far are those of the nodes with ids below this one, and all ids come before it
abbrev pub invariant-loop-id : goal.invariant-loop-id
invariant-loop-id l = record {
  rows : rows_of l.column ≡ filter_map (chosen_row l.key l.labels) (nodes_below l.id l.store);
  below : AllByRecursion (λ before. before < l.id) l.column.ids;
}
