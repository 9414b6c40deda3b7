use Rattle.gds_session.proofs.Acceptance.{accepted_is_printing}
use Rattle.gds_session.proofs.laws.accepted_is_printing.Goals as goal

pub returns : goal.returns
returns c = accepted_is_printing
