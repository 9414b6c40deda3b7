use Rattle.projected_nodes.proofs.ColumnLemmas.{columns-made}
use Rattle.projected_nodes.proofs.NodeLemmas.{shown}
use Rattle.std.proofs.Common.{refl, ◌∙◌}
use Rattle.projected_nodes.proofs.columns.in_columns.Goals as goal

pub returns : goal.returns
returns c =
    columns-made c.args.entries.now c.args.nodes.now (shown c.args.nodes.now) c.as_slice.result.now
    c.in_ok-ids_of.field-0 c.in_ok-labels_of.field-0 c.in_ok-columns_of.field-0
    refl (c.as_slice.ensures.value ∙ c.in_ok-keys.ensures) c.in_ok-ids_of.ensures c.in_ok-labels_of.ensures c.in_ok-columns_of.ensures
