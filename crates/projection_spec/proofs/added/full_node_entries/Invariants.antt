use Rattle.std.proofs.Common.{◌≡◌}
use Rattle.std.specs.Vec.Iter.{into_iter_items}
use Rattle.projection_spec.specs.Projected.{full_node_entries}
use Rattle.json_forms.proofs.ItemLemmas.{behind}
use Rattle.projection_spec.proofs.added.full_node_entries.Given as goal

abbrev pub invariant-loop-entry : goal.invariant-loop-entry
invariant-loop-entry l = full_node_entries l.added l.fn.own ≡ behind l.entries (full_node_entries l.added (into_iter_items l.entry-iterator))
