use Rattle.std.proofs.Common.{◌≤◌, map, take}
use Rattle.std.specs.Ordering.{nat_cmp}
use Rattle.std.specs.BTreeMap.{get}
use Rattle.graph_model.specs.Change.{pair_id}
use Rattle.graph_store.proofs.EditLemmas.{IsSetSoFar}
use Rattle.graph_store.proofs.setting.set_values.Given as goal

abbrev pub invariant-loop-id : goal.invariant-loop-id
invariant-loop-id g l =
    IsSetSoFar g.E.Element.id_of g.E.Element.props_of g.E.Element.with_props_of l.key l.pairs (map pair_id (take l.id-index l.pairs)) (get nat_cmp l.last) l.fn.slots l.slots l.added
    × (l.added ≤ l.id-index)
