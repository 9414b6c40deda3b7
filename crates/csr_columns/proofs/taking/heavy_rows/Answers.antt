use Rattle.std.proofs.Common.{arith, length, Some}
use Rattle.std.proofs.lemmas.List.Elements.{All-filter}
use Rattle.csr_columns.specs.Parts.{HasNodes}
use Rattle.csr_columns.specs.Choosing.{chosen, chooses_kind}
use Rattle.csr_columns.proofs.MergedRows.{all-values-weighed, chosen-rows, merged-few, merged-heavy}
use Rattle.csr_columns.proofs.taking.heavy_rows.Goals as goal

pub merged-requires-clause-rows : goal.merged-requires-clause-rows
merged-requires-clause-rows c =
    rw (c.deref.ensures.value, c.in_ok-rows.ensures.rows)
    (chosen-rows (length c.args.places.now) (Some c.args.key.now) c.args.choice.now c.args.types.now c.requires.rows)

pub merged-requires-clause-few : goal.merged-requires-clause-few
merged-requires-clause-few c =
    rw (c.deref.ensures.value, c.in_ok-rows.ensures.rows)
    (omega (arith, c.requires.few, merged-few c.args.nodes c.args.places.now c.args.kept.now (Some c.args.key.now) c.args.choice.now c.args.types.now c.requires.kept c.requires.many c.requires.rows c.in_ok-rows.ensures.beside))

pub returns-clause-entries : goal.returns-clause-entries
returns-clause-entries c =
    let types = chosen c.args.choice.now c.args.types.now in
    let long = All-filter (chooses_kind c.args.choice.now) (HasNodes (length c.args.places.now)) c.args.types.now c.requires.rows in
    rw (c.in_ok-csr.ensures.rows, c.deref.ensures.value, c.in_ok-rows.ensures.rows)
    (merged-heavy c.args.nodes c.args.places.now c.args.kept.now c.requires.kept c.requires.many types long c.args.key.now c.requires.key c.in_ok-rows.ensures.beside)

pub returns-clause-beside : goal.returns-clause-beside
returns-clause-beside c = all-values-weighed c.args.key.now (chosen c.args.choice.now c.args.types.now) c.in_ok-rows.ensures.beside
