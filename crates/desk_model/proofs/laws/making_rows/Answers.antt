use Rattle.std.proofs.Common.{refl}
use Rattle.std.specs.Fmt.{digits}
use Rattle.desk_model.proofs.laws.making_rows.Goals as goal

pub returns-clause-begun : goal.returns-clause-begun
unfolding digits
returns-clause-begun c = refl

pub returns-clause-jobs : goal.returns-clause-jobs
unfolding digits
returns-clause-jobs c = refl

pub returns-clause-taken : goal.returns-clause-taken
unfolding digits
returns-clause-taken c = refl

pub returns-clause-asked : goal.returns-clause-asked
unfolding digits
returns-clause-asked c = refl

pub returns-clause-terminated : goal.returns-clause-terminated
unfolding digits
returns-clause-terminated c = λ built. refl
