use Rattle.gds_session.proofs.Acceptance.{printing_is_accepted}
use Rattle.gds_session.proofs.laws.printing_is_accepted.Goals as goal

pub returns : goal.returns
returns c = printing_is_accepted
