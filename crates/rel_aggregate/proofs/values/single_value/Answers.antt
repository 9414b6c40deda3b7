use Rattle.std.proofs.Common.{unwrap_or, w64, SFits, ap, ◌∙◌, to_z-of_z, rules}
use Rattle.projection_spec.specs.KeptArcs.{missing}
use Rattle.rel_aggregate.proofs.Least.{single_value-first}
use Rattle.rel_aggregate.proofs.values.single_value.Goals as goal

pub returns-in-Some : goal.returns-in-Some
returns-in-Some c =
    let fits : SFits w64 c.unwrap_or.result = search rules in
    to_z-of_z fits ∙ c.unwrap_or.ensures ∙ ap (λ value. unwrap_or value missing) c.known_value.ensures ∙ single_value-first c.args.place c.args.default c.args.arcs.now c.in-Some.first.now c.requires.least_first c.in-Some.ensures.value
