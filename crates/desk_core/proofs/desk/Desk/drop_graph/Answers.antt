use Rattle.std.proofs.Common.{Some, None, refl}
use Rattle.desk_model.specs.declared.asked.Event.TheVariants as event
use Rattle.desk_model.specs.Replies.{plain_reply}
use Rattle.desk_core.proofs.StateSteps.{list_step, drop_denied}
use Rattle.desk_core.proofs.desk.Desk.drop_graph.Goals as goal

pub returns-then-may_name-clause-step : goal.returns-then-may_name-clause-step
returns-then-may_name-clause-step g c =
    rw c.in-Some.is
    (list_step c.args.self.now c.perform.new.self c.args.caller.now c.in-Some.user (event.Drop c.args.graph c.args.must (Some c.in-Some.user)) (plain_reply c.perform.result) refl
    (c.may_name.ensures.yes c.if-may_name.true) c.perform.ensures.kept c.perform.ensures.others (c.perform.ensures.step (Some c.in-Some.user)))

pub returns-else-may_name-clause-step : goal.returns-else-may_name-clause-step
returns-else-may_name-clause-step g c =
    rw c.in-Some.is (drop_denied c.args.self.now c.args.caller.now c.in-Some.user c.args.graph c.args.must (c.may_name.ensures.no c.if-may_name.false))

pub returns-in-None-clause-step : goal.returns-in-None-clause-step
returns-in-None-clause-step g c =
    rw c.in-None.is
    (list_step c.args.self.now c.perform-in-None.new.self c.args.caller.now c.args.caller.now (event.Drop c.args.graph c.args.must None) (plain_reply c.perform-in-None.result) refl refl
    c.perform-in-None.ensures.kept c.perform-in-None.ensures.others (c.perform-in-None.ensures.step None))
