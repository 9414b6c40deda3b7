use Rattle.std.proofs.Common.{map, take, length, ap, ◌∙◌, arith, take_all}
use Rattle.user_lists.proofs.Told.{told_line, lines-told}
use Rattle.user_lists.proofs.graphs.lines_of.Goals as goal

pub returns : goal.returns
returns c =
    c.loop-name.invariant ∙ ap (map told_line) (take_all c.loop-name.name-index c.args.entries.now (omega arith)) ∙ lines-told c.args.entries.now
