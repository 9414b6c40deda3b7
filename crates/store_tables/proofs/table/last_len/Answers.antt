use Rattle.std.proofs.Common.{◌-◌, length, sym, ◌∙◌, arith}
use Rattle.store_tables.proofs.Joining.{last_length-at}
use Rattle.store_tables.proofs.table.last_len.Goals as goal

pub returns : goal.returns
returns g c =
    c.len.ensures ∙ sym (last_length-at 1048576 c.args.branches.now (length c.args.branches.now - 1) c.index-branches-count.result (omega (arith, c.if-count-eq0.false)) c.index-branches-count.is)
