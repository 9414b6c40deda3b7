use Rattle.std.proofs.Common.{Some, None, refl}
use Rattle.graph_model.specs.declared.refusal.Refusal.TheVariants.{StoreFault}
use Rattle.desk_model.specs.declared.asked.Event.TheVariants as event
use Rattle.desk_model.specs.State.{Part, State, part_of}
use Rattle.desk_model.proofs.States.{step_is}
use Rattle.user_lists.specs.Users.{lists_of}
use Rattle.desk_core.specs.Answered.{change_reply}
use Rattle.desk_core.proofs.ChangeSteps.{calm_of, change_step, faulted}
use Rattle.desk_core.proofs.desk.Desk.change.Goals as goal
use Rattle.desk_core.proofs.desk.Desk.change.Goals.{in-Some, in-None}

pub returns-clause-step : goal.returns-clause-step
returns-clause-step g c =
    let inside = c.self.inside in
    let user = c.args.user.now in
    let change = c.args.change.now in
    let old : State = record { graph = inside.store; admin = inside.admin; lists = lists_of inside.users } in
    rw (c.changed.ensures, ← c.self.view_is)
    (elim c.match-import.branch [
      | in-Some w ↦
          let made = w.import_change-made in
          let new : State = record { graph = made.new.store; admin = inside.admin; lists = lists_of made.new.users } in
          rw (w.made-is, w.self-inside-is, w.in-Some.is)
          (step_is old new user user (event.Change (Some w.in-Some.id) change) (change_reply made.result) refl refl made.ensures.others (made.ensures.step inside.admin))
      | in-None w ↦
          let made = w.make_change-made in
          let new : State = record { graph = made.new.store; admin = inside.admin; lists = lists_of inside.users } in
          rw (w.made-is, w.self-inside-is, w.in-None.is)
          (step_is old new user user (event.Change None change) (change_reply made.result) refl refl (λ other apart. refl)
          (change_step user change (part_of old user) made.new.store made.result made.ensures.ok made.ensures.made made.ensures.allowed made.ensures.err made.ensures.refused))
    ])

pub returns-clause-fault : goal.returns-clause-fault
returns-clause-fault g c =
    let inside = c.self.inside in
    let user = c.args.user.now in
    let change = c.args.change.now in
    let old : State = record { graph = inside.store; admin = inside.admin; lists = lists_of inside.users } in
    rw (c.changed.ensures, ← c.self.view_is)
    (elim c.match-import.branch [
      | in-Some w ↦
          let made = w.import_change-made in
          rw (w.made-is, w.self-inside-is)
          (λ fault. made.ensures.fault (faulted user (Some w.in-Some.id) change (part_of old user) _ made.result (made.ensures.step inside.admin) fault))
      | in-None w ↦
          let made = w.make_change-made in
          rw (w.made-is, w.self-inside-is)
          (λ fault.
          made.ensures.fault
          (faulted user None change (part_of old user) (record (part_of old user) { graph = made.new.store }) made.result
          (change_step user change (part_of old user) made.new.store made.result made.ensures.ok made.ensures.made made.ensures.allowed made.ensures.err made.ensures.refused) fault))
    ])

pub returns-clause-calm : goal.returns-clause-calm
returns-clause-calm g c =
    rw (c.changed.ensures, ← c.self.view_is)
    (elim c.match-import.branch [
      | in-Some w ↦ rw (w.made-is, w.self-inside-is) (calm_of w.import_change-made.result _ w.import_change-made.ensures.calm)
      | in-None w ↦ rw (w.made-is, w.self-inside-is) (calm_of w.make_change-made.result _ w.make_change-made.ensures.calm)
    ])
