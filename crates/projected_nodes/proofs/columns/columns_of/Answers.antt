use Rattle.std.proofs.Common.{◌≡◌, refl}
use Rattle.projected_nodes.specs.Columns.{key_column}
use Rattle.projected_nodes.proofs.NodeLemmas.{shown}
use Rattle.projected_nodes.proofs.ColumnLemmas.{made-next, key-made}
use Rattle.projected_nodes.proofs.columns.columns_of.Goals as goal

pub loop-key-preserved : goal.loop-key-preserved
loop-key-preserved c =
    made-next (key_column c.args.entries.now (shown c.args.nodes.now)) c.args.keys.now c.loop-key.key-index c.key-item.result c.loop-key.columns.items c.push.new.self.items
    (c.in_ok-try_clone.field-0, c.in_ok-values_of.field-0) c.loop-key-test.true c.key-item.is c.loop-key.invariant c.in_ok-push.ensures.items
    (key-made c.args.entries.now c.args.nodes.now c.key-item.result c.in_ok-try_clone.field-0 c.in_ok-values_of.field-0 c.in_ok-try_clone.ensures c.in_ok-values_of.ensures)
