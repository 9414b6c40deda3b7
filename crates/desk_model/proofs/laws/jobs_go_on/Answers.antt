use Rattle.desk_model.proofs.Going.{begun_is_going, going_goes_on}
use Rattle.desk_model.proofs.laws.jobs_go_on.Goals as goal

pub returns-clause-begun : goal.returns-clause-begun
returns-clause-begun c = begun_is_going

pub returns-clause-goes_on : goal.returns-clause-goes_on
returns-clause-goes_on c = going_goes_on
