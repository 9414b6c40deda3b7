use Rattle.std.proofs.Common.{◌≡◌}
use Rattle.serde_json.specs.View.{members_view}
use Rattle.json_forms.specs.Elements.{props_of}
use Rattle.json_forms.proofs.ItemLemmas.{behind}
use Rattle.json_forms.proofs.elements.props_of.Given as goal

abbrev pub invariant-loop-key : goal.invariant-loop-key
invariant-loop-key l =
    props_of (members_view l.fn.fields.entries) ≡ behind l.props (props_of (members_view l.key-iterator))
