use Rattle.std.proofs.Common.{ap, ◌∙◌}
use Rattle.graph_making.specs.Making.{plain_capture}
use Rattle.desk_model.specs.Replies.{plain_reply}
use Rattle.desk_model.specs.Step.{captured_for}
use Rattle.desk_core.proofs.StateSteps.{begin_memory, begin_step}
use Rattle.desk_core.proofs.desk.Desk.project_begin.Goals as goal

pub returns-in-Err-clause-step : goal.returns-in-Err-clause-step
returns-in-Err-clause-step g c = begin_memory c.args.self.now c.args.user.now c.args.graph c.args.name c.args.spec

pub returns-clause-step : goal.returns-clause-step
returns-clause-step g c =
    begin_step c.args.self.now c.perform.new.self c.args.user.now c.args.graph c.args.name c.args.spec (plain_capture c.in-Ok.captured) (plain_reply c.perform.result)
    (c.in-Ok.ensures ∙ ap (λ desk. captured_for c.args.spec desk.graph) c.self.view_is) c.perform.ensures.kept c.perform.ensures.others c.perform.ensures.step
