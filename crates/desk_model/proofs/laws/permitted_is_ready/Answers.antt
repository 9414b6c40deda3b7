use Rattle.desk_model.proofs.Ready.{permitted_is_ready}
use Rattle.desk_model.proofs.Valid.{steps_keep_valid}
use Rattle.desk_model.proofs.laws.permitted_is_ready.Goals as goal

pub returns-clause-valid : goal.returns-clause-valid
returns-clause-valid c = steps_keep_valid

pub returns-clause-ready : goal.returns-clause-ready
returns-clause-ready c = permitted_is_ready
