use Rattle.std.proofs.Common.{◌≡◌, ℕ, ◌<◌, ◌≤◌, length, map, take, get_or}
use Rattle.graph_model.specs.Projection.{value_for}
use Rattle.csr_columns.proofs.adding.values_for.Given as goal

-- the values so far, and no known id so far is one of those to come
abbrev pub invariant-loop-id : goal.invariant-loop-id
invariant-loop-id l = record {
  values : l.values.items ≡ map (value_for l.column) (take l.id-index l.ids);
  within : l.at ≤ length l.column.ids;
  passed : (k : ℕ) → k < l.at → (j : ℕ) → l.id-index ≤ j → j < length l.ids → get_or l.column.ids k 0 < get_or l.ids j 0;
}
