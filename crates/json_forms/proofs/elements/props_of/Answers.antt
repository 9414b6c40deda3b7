use Rattle.std.proofs.Common.{◌≡◌, Some, string_bytes, ap, sym, ◌∙◌, rules}
use Rattle.serde_json.specs.View.{view, members_view}
use Rattle.json_forms.specs.Forms.{name_of, read_whole, before_others}
use Rattle.json_forms.specs.Elements.{prop_from, props_of}
use Rattle.json_forms.proofs.ItemLemmas.{behind, behind_one}
use Rattle.json_forms.proofs.DistinctLemmas.{object_props-differ}
use Rattle.json_forms.proofs.elements.props_of.Goals as goal

pub loop-key-preserved : goal.loop-key-preserved
loop-key-preserved c =
    let props = c.loop-key.props in
    let prop = c.in_ok-prop.prop in
    let rest = props_of (members_view c.next.new.self) in
    let right : prop_from (name_of (string_bytes c.in-Some.key.now)) (read_whole (view c.in-Some.value.now)) ≡ Some prop =
    rw c.as_str.ensures.value at c.in_ok-prop.ensures.ok in
    c.loop-key.invariant
    ∙ ap (λ es. behind props (props_of (members_view es))) c.in-Some.ensures.steps
    ∙ ap (λ read. behind props (before_others read rest)) right
    ∙ behind_one props prop rest
    ∙ ap (λ ps. behind ps rest) (sym c.in_ok-push.ensures.ok)

pub returns-clause-formed : goal.returns-clause-formed
returns-clause-formed c =
    let all : props_of (members_view c.args.fields.now.entries) ≡ Some c.loop-key.props = search rules in
    object_props-differ c.args.fields.now.entries c.loop-key.props all c.into_iter-key-iterator.ensures.into_iter_gives.5
