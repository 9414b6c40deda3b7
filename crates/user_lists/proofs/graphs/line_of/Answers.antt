use Rattle.std.proofs.Common.{length, ap, ◌∙◌}
use Rattle.user_lists.proofs.Told.{line-is}
use Rattle.user_lists.proofs.graphs.line_of.Goals as goal

pub returns : goal.returns
returns c =
    line-is c.args.job c.args.name c.args.version (length c.ids.result.now) c.arc_count.result c.in_ok-keys_of.field-0 c.args.graph.now
    (ap length c.ids.ensures.ids) c.arc_count.ensures c.in_ok-keys_of.ensures
