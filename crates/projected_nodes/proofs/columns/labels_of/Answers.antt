use Rattle.std.proofs.Common.{◌≡◌, refl}
use Rattle.projected_nodes.specs.Columns.{label_column}
use Rattle.projected_nodes.proofs.NodeLemmas.{shown}
use Rattle.projected_nodes.proofs.ColumnLemmas.{made-next, label-made}
use Rattle.projected_nodes.proofs.columns.labels_of.Goals as goal

pub loop-entry-preserved : goal.loop-entry-preserved
loop-entry-preserved c =
    made-next (label_column (shown c.args.nodes.now)) c.args.entries.now c.loop-entry.entry-index c.entry-item.result c.loop-entry.labels.items c.push.new.self.items
    (c.in_ok-try_clone.field-0, c.in_ok-flags_of.field-0) c.loop-entry-test.true c.entry-item.is c.loop-entry.invariant c.in_ok-push.ensures.items
    (label-made c.args.nodes.now c.entry-item.result c.in_ok-try_clone.field-0 c.in_ok-flags_of.field-0 c.in_ok-try_clone.ensures c.in_ok-flags_of.ensures)
