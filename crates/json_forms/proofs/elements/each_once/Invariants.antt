use Rattle.std.proofs.Common.{◌≡◌, ◌++◌}
use Rattle.std.specs.Vec.Iter.{into_iter_items}
use Rattle.json_forms.specs.Elements.{put_names, each_once}
use Rattle.json_forms.proofs.elements.each_once.Given as goal

abbrev pub invariant-loop-name : goal.invariant-loop-name
invariant-loop-name l = put_names l.set.keys (into_iter_items l.name-iterator) ≡ each_once l.fn.names

abbrev pub invariant-loop-name-2 : goal.invariant-loop-name-2
invariant-loop-name-2 l = l.ordered ++ l.name-iterator ≡ l.initial.name-iterator
