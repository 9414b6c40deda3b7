use Rattle.std.proofs.Common.{refl}
use Rattle.desk_model.specs.declared.asked.Event.TheVariants as event
use Rattle.desk_model.specs.Replies.{plain_reply}
use Rattle.desk_core.specs.Fields.{state_of}
use Rattle.desk_core.proofs.StateSteps.{calm_fault, list_step}
use Rattle.desk_core.proofs.desk.Desk.apply.Goals as goal

pub returns-in-ProjectEnd-clause-step : goal.returns-in-ProjectEnd-clause-step
returns-in-ProjectEnd-clause-step g c =
    rw c.in-ProjectEnd.is
    (list_step c.args.self.now c.perform.new.self c.args.asked.user c.args.asked.user (event.ProjectEnd c.in-ProjectEnd.job c.in-ProjectEnd.built) (plain_reply c.perform.result) refl refl c.perform.ensures.kept c.perform.ensures.others c.perform.ensures.step)

pub returns-in-ProjectEnd-clause-fault : goal.returns-in-ProjectEnd-clause-fault
returns-in-ProjectEnd-clause-fault g c =
    calm_fault c.args.asked.user (event.ProjectEnd c.in-ProjectEnd.job c.in-ProjectEnd.built) (state_of c.args.self.now) (state_of c.perform.new.self) (plain_reply c.perform.result) _ _
    (list_step c.args.self.now c.perform.new.self c.args.asked.user c.args.asked.user (event.ProjectEnd c.in-ProjectEnd.job c.in-ProjectEnd.built) (plain_reply c.perform.result) refl refl c.perform.ensures.kept c.perform.ensures.others c.perform.ensures.step) refl

pub returns-in-Abandon-clause-step : goal.returns-in-Abandon-clause-step
returns-in-Abandon-clause-step g c =
    rw c.in-Abandon.is
    (list_step c.args.self.now c.perform-in-Abandon.new.self c.args.asked.user c.args.asked.user (event.Abandon c.in-Abandon.job) (plain_reply c.perform-in-Abandon.result) refl refl c.perform-in-Abandon.ensures.kept c.perform-in-Abandon.ensures.others c.perform-in-Abandon.ensures.step)

pub returns-in-Abandon-clause-fault : goal.returns-in-Abandon-clause-fault
returns-in-Abandon-clause-fault g c =
    calm_fault c.args.asked.user (event.Abandon c.in-Abandon.job) (state_of c.args.self.now) (state_of c.perform-in-Abandon.new.self) (plain_reply c.perform-in-Abandon.result) _ _
    (list_step c.args.self.now c.perform-in-Abandon.new.self c.args.asked.user c.args.asked.user (event.Abandon c.in-Abandon.job) (plain_reply c.perform-in-Abandon.result) refl refl c.perform-in-Abandon.ensures.kept c.perform-in-Abandon.ensures.others c.perform-in-Abandon.ensures.step) refl

pub returns-in-Terminate-clause-step : goal.returns-in-Terminate-clause-step
returns-in-Terminate-clause-step g c =
    rw c.in-Terminate.is
    (list_step c.args.self.now c.perform-in-Terminate.new.self c.args.asked.user c.args.asked.user (event.Terminate c.in-Terminate.job) (plain_reply c.perform-in-Terminate.result) refl refl c.perform-in-Terminate.ensures.kept c.perform-in-Terminate.ensures.others c.perform-in-Terminate.ensures.step)

pub returns-in-Terminate-clause-fault : goal.returns-in-Terminate-clause-fault
returns-in-Terminate-clause-fault g c =
    calm_fault c.args.asked.user (event.Terminate c.in-Terminate.job) (state_of c.args.self.now) (state_of c.perform-in-Terminate.new.self) (plain_reply c.perform-in-Terminate.result) _ _
    (list_step c.args.self.now c.perform-in-Terminate.new.self c.args.asked.user c.args.asked.user (event.Terminate c.in-Terminate.job) (plain_reply c.perform-in-Terminate.result) refl refl c.perform-in-Terminate.ensures.kept c.perform-in-Terminate.ensures.others c.perform-in-Terminate.ensures.step) refl

pub returns-in-Exists-clause-step : goal.returns-in-Exists-clause-step
returns-in-Exists-clause-step g c =
    rw c.in-Exists.is
    (list_step c.args.self.now c.perform-in-Exists.new.self c.args.asked.user c.args.asked.user (event.Exists c.in-Exists.graph) (plain_reply c.perform-in-Exists.result) refl refl c.perform-in-Exists.ensures.kept c.perform-in-Exists.ensures.others c.perform-in-Exists.ensures.step)

pub returns-in-Exists-clause-fault : goal.returns-in-Exists-clause-fault
returns-in-Exists-clause-fault g c =
    calm_fault c.args.asked.user (event.Exists c.in-Exists.graph) (state_of c.args.self.now) (state_of c.perform-in-Exists.new.self) (plain_reply c.perform-in-Exists.result) _ _
    (list_step c.args.self.now c.perform-in-Exists.new.self c.args.asked.user c.args.asked.user (event.Exists c.in-Exists.graph) (plain_reply c.perform-in-Exists.result) refl refl c.perform-in-Exists.ensures.kept c.perform-in-Exists.ensures.others c.perform-in-Exists.ensures.step) refl

pub returns-clause-step : goal.returns-clause-step
returns-clause-step g c =
    rw c.in-Jobs.is
    (list_step c.args.self.now c.perform-in-Jobs.new.self c.args.asked.user c.args.asked.user (event.Jobs) (plain_reply c.perform-in-Jobs.result) refl refl c.perform-in-Jobs.ensures.kept c.perform-in-Jobs.ensures.others c.perform-in-Jobs.ensures.step)

pub returns-clause-fault : goal.returns-clause-fault
returns-clause-fault g c =
    calm_fault c.args.asked.user (event.Jobs) (state_of c.args.self.now) (state_of c.perform-in-Jobs.new.self) (plain_reply c.perform-in-Jobs.result) _ _
    (list_step c.args.self.now c.perform-in-Jobs.new.self c.args.asked.user c.args.asked.user (event.Jobs) (plain_reply c.perform-in-Jobs.result) refl refl c.perform-in-Jobs.ensures.kept c.perform-in-Jobs.ensures.others c.perform-in-Jobs.ensures.step) refl
