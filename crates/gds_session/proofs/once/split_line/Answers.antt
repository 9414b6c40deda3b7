use Rattle.gds_session.proofs.FirstLine.{split_lines}
use Rattle.gds_session.proofs.once.split_line.Goals as goal

pub returns-clause-lines : goal.returns-clause-lines
returns-clause-lines c = let e = split_lines c.args.text.now c.requires in cc
