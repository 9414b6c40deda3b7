use Rattle.std.proofs.Common.{refl, sym, ap, ◌∙◌}
use Rattle.graph_model.specs.Projection.{under}
use Rattle.desk_model.specs.declared.asked.Event.TheVariants.{GraphRows}
use Rattle.desk_model.specs.State.{part_of}
use Rattle.desk_core.specs.Answered.{told_reply}
use Rattle.desk_core.specs.Fields.{state_of}
use Rattle.user_lists.specs.Lists.{named}
use Rattle.user_lists.specs.Users.{lists_of}
use Rattle.desk_core.proofs.GraphSteps.{rows-step, still-step}
use Rattle.desk_core.proofs.desk.Desk.graph_rows.Goals as goal

pub returns-in-Some-clause-step : goal.returns-in-Some-clause-step
returns-in-Some-clause-step g c =
    let there = ap (λ desk. under c.args.graph (lists_of desk.users c.args.user.now).graphs) (sym c.self.view_is) ∙ c.in-Some.ensures in
    let s = state_of c.args.self.now in
    rw c.told.ensures
    (still-step s c.args.user.now (GraphRows c.args.graph c.args.key c.args.labels) (told_reply c.projected_rows.result) refl
    (rows-step c.args.user.now (part_of s c.args.user.now) c.args.graph c.args.key c.args.labels (named c.in-Some.entry.now) c.projected_rows.result there
    (rw c.get.ensures at c.projected_rows.ensures.ok) (rw c.get.ensures at c.projected_rows.ensures.allowed) (rw c.get.ensures at c.projected_rows.ensures.refused)))
