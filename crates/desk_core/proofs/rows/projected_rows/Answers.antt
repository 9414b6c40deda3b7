use Rattle.std.proofs.Common.{◌≡◌, None, Some, sym, ap, ◌∙◌}
use Rattle.graph_model.specs.declared.refusal.Refusal.TheVariants.{NoSuchProperty}
use Rattle.csr_columns.specs.Plain.{plain}
use Rattle.desk_core.proofs.KeptRows.{kept-rows, key-known, key-unknown, then-key}
use Rattle.desk_core.proofs.rows.projected_rows.Goals as goal

pub returns-in_default-clause-refused : goal.returns-in_default-clause-refused
returns-in_default-clause-refused c =
    then-key c.args.key c.args.labels.now (plain c.args.graph.now) (Some (NoSuchProperty c.args.key)) c.in-Ok.ensures.ok
    (key-unknown c.args.key c.args.graph.now.columns c.in_default.ensures.values)

pub returns-clause-ok : goal.returns-clause-ok
returns-clause-ok c =
    c.in_ok-chosen_rows.ensures ∙ kept-rows c.args.key c.args.labels.now c.args.graph.now c.in-Some.values.now c.in-Some.ensures.values

pub returns-clause-allowed : goal.returns-clause-allowed
returns-clause-allowed c =
    then-key c.args.key c.args.labels.now (plain c.args.graph.now) None c.in-Ok.ensures.ok
    (key-known c.args.key c.args.graph.now.columns c.in-Some.values.now c.in-Some.ensures.values)
