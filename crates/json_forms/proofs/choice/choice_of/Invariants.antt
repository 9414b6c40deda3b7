use Rattle.std.proofs.Common.{◌≡◌}
use Rattle.std.specs.Vec.Iter.{into_iter_items}
use Rattle.json_forms.specs.Forms.{choice_of}
use Rattle.json_forms.proofs.ItemLemmas.{with_names}
use Rattle.json_forms.proofs.choice.choice_of.Given as goal

abbrev pub invariant-loop-item : goal.invariant-loop-item
invariant-loop-item l = choice_of l.fn.chosen ≡ with_names l.names (choice_of (into_iter_items l.item-iterator))
