use Rattle.std.proofs.Common.{◌≡◌, ◌<◌, length, get_or}
use Rattle.std.specs.List.{AllByRecursion}
use Rattle.desk_model.specs.Replies.{rows_of}
use Rattle.desk_core.specs.Rows.{kept_below}
use Rattle.desk_core.proofs.rows.kept_rows.Given as goal

-- the rows so far are those at the places below this one, and all ids come before the next one
abbrev pub invariant-loop-v : goal.invariant-loop-v
invariant-loop-v l = record {
  rows : rows_of l.column ≡ kept_below l.ids l.kept l.values l.v;
  below : l.v < length l.ids → AllByRecursion (λ before. before < get_or l.ids l.v 0) l.column.ids;
}
