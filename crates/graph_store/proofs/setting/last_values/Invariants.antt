use Rattle.std.proofs.Common.{◌≡◌, ℕ, take}
use Rattle.std.specs.Ordering.{nat_cmp}
use Rattle.std.specs.BTreeMap.{get}
use Rattle.graph_model.specs.Change.{last_value}
use Rattle.graph_store.proofs.setting.last_values.Given as goal

abbrev pub invariant-loop-id : goal.invariant-loop-id
invariant-loop-id l = (id : ℕ) → get nat_cmp l.last id ≡ last_value (take l.id-index l.pairs) id
