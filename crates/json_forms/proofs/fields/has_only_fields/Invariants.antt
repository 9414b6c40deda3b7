use Rattle.std.proofs.Common.{◌≡◌, map}
use Rattle.serde_json.specs.View.{members_view}
use Rattle.json_forms.specs.Fields.{has_only_fields}
use Rattle.json_forms.proofs.fields.has_only_fields.Given as goal

abbrev pub invariant-loop-name : goal.invariant-loop-name
invariant-loop-name l =
    has_only_fields (map (λ name. name.now) l.names) (members_view l.fn.fields.entries)
    ≡ has_only_fields (map (λ name. name.now) l.names) (members_view l.name-iterator)
