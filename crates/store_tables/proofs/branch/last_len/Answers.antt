use Rattle.std.proofs.Common.{◌-◌, length, sym, ◌∙◌, arith}
use Rattle.store_tables.proofs.Joining.{last_length-at}
use Rattle.store_tables.proofs.branch.last_len.Goals as goal

pub returns : goal.returns
returns g c =
    c.len.ensures ∙ sym (last_length-at 1024 c.args.leaves.now (length c.args.leaves.now - 1) c.index-leaves-count.result (omega (arith, c.if-count-eq0.false)) c.index-leaves-count.is)
