use Rattle.std.proofs.Common.{refl}
use Rattle.std.specs.Fmt.{digits}
use Rattle.gds_session.proofs.laws.worked_rows.Goals as goal

pub returns-clause-six : goal.returns-clause-six
unfolding digits
returns-clause-six c = refl
