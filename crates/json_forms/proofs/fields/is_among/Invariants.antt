use Rattle.std.proofs.Common.{◌≡◌, map, drop}
use Rattle.graph_model.specs.Projection.{is_among}
use Rattle.json_forms.proofs.fields.is_among.Given as goal

abbrev pub invariant-loop-name : goal.invariant-loop-name
invariant-loop-name l =
    is_among (map (λ name. name.now) l.names) l.text ≡ is_among (map (λ name. name.now) (drop l.name-index l.names)) l.text
