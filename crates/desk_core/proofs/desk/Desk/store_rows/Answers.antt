use Rattle.desk_model.specs.State.{State}
use Rattle.user_lists.specs.Users.{lists_of}
use Rattle.desk_core.proofs.ChangeSteps.{stored_step}
use Rattle.desk_core.proofs.desk.Desk.store_rows.Goals as goal

pub returns-clause-step : goal.returns-clause-step
returns-clause-step g c user =
    let s : State = record { graph = c.self.inside.store; admin = c.self.inside.admin; lists = lists_of c.self.inside.users } in
    rw (c.stored.ensures, ← c.self.view_is) (stored_step s user c.args.key.now c.args.labels.now c.stored_rows.result c.stored_rows.ensures)
