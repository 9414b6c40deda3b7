use Rattle.std.proofs.Common.{◌≡◌, w64, get_or, ◌∙◌, to_z-of_z, arith, rules}
use Rattle.graph_model.specs.Projection.{missing_value}
use Rattle.csr_columns.proofs.WithColumn.{value_beside-found, value_beside-none, nowhere}
use Rattle.csr_columns.proofs.adding.value_beside.Goals as goal

pub returns : goal.returns
returns c =
    let same : get_or c.args.ids.now c.args.at 0 ≡ c.args.id = omega arith in
    to_z-of_z {w = w64} {z = c.item.result} (search rules) ∙ c.item.ensures missing_value
    ∙ value_beside-found c.args.ids.now c.args.values.now c.args.id c.args.at missing_value c.requires.paired c.requires.passed (omega arith) same

pub returns-then-at-ids : goal.returns-then-at-ids
returns-then-at-ids c =
    value_beside-none c.args.ids.now c.args.values.now c.args.id c.requires.paired (nowhere c.args.ids.now c.args.id c.args.at c.requires.ascend c.requires.passed (λ h. omega arith))

pub returns-then-ids-at : goal.returns-then-ids-at
returns-then-ids-at c =
    value_beside-none c.args.ids.now c.args.values.now c.args.id c.requires.paired (nowhere c.args.ids.now c.args.id c.args.at c.requires.ascend c.requires.passed (λ h. omega (arith, c.requires.stops h)))
