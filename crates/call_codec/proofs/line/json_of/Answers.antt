use Rattle.std.proofs.Common.{◌≡◌, Some, refl, ◌∙◌}
use Rattle.serde_json.specs.Read.{read}
use Rattle.serde_json.specs.View.{view}
use Rattle.call_codec.proofs.TextLemmas.{json_of-none, json_of-read}
use Rattle.call_codec.proofs.line.json_of.Goals as goal

pub returns-in_default-clause-refused : goal.returns-in_default-clause-refused
returns-in_default-clause-refused c = (refl, json_of-none c.args.text.now c.in_default.ensures.cases.0)

pub returns-in-Ok-from_str-clause-ok : goal.returns-in-Ok-from_str-clause-ok
returns-in-Ok-from_str-clause-ok c =
    let said : read c.args.text.now ≡ Some (view c.in-Ok-from_str.value) = rw c.in-Ok.ensures.cases.0 at c.in-Ok-from_str.ensures.ok in
    json_of-read c.args.text.now c.in-Ok.ensures.cases.1 ∙ said
