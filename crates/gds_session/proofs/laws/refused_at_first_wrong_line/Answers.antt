use Rattle.gds_session.proofs.Acceptance.{refused_at_first_wrong_line}
use Rattle.gds_session.proofs.laws.refused_at_first_wrong_line.Goals as goal

pub returns : goal.returns
returns c = refused_at_first_wrong_line
