use Rattle.std.proofs.Common.{List, ℕ, Option, Some, None, option_copied, map, sym, ap, ◌∙◌, subst}
use Rattle.user_lists.specs.declared.event.ListEvent.TheVariants as list
use Rattle.desk_model.specs.Graphs.{entry_line, found_lines}
use Rattle.desk_model.specs.Replies.{PlainReply, plain_reply}
use Rattle.desk_model.specs.State.{UserLists}
use Rattle.user_lists.specs.Lists.{named_graphs}
use Rattle.user_lists.specs.Steps.{IsEventStep, lines_reply}
use Rattle.user_lists.proofs.Listed.{graph-shown}
use Rattle.user_lists.proofs.Told.{list-step, if-ok-as}
use Rattle.user_lists.proofs.lists.UserLists.list.Goals as goal

pub returns-in-Some : goal.returns-in-Some
returns-in-Some c =
    let lists = c.args.self.now in
    let name = c.in-Some.name in
    let there = graph-shown c.self.inside.graphs c.self.inside.jobs.items c.self.inside.imports.entries c.self.inside.last_job lists name
    (option_copied c.get.result) c.self.view_is c.get.ensures in
    let step : IsEventStep (list.List (Some name)) lists (lines_reply c.found_lines.result) lists =
    list-step lists (Some name) c.found_lines.result (if-ok-as c.found_lines.result _ _ (ap (found_lines name) (sym there)) c.found_lines.ensures) in
    subst (λ (n : Option (List ℕ)). IsEventStep (list.List n) lists (plain_reply c.told.result) lists) (sym c.in-Some.is)
    (subst (λ (r : PlainReply). IsEventStep (list.List (Some name)) lists r lists) (sym c.told.ensures) step)

pub returns-in-None : goal.returns-in-None
returns-in-None c =
    let lists = c.args.self.now in
    let step : IsEventStep (list.List None) lists (lines_reply c.lines_of.result) lists =
    list-step lists None c.lines_of.result
    (if-ok-as c.lines_of.result _ _
    (ap (λ entries. map entry_line (named_graphs entries)) c.list.ensures.entries ∙ ap (λ (l : UserLists). map entry_line l.graphs) c.self.view_is)
    c.lines_of.ensures) in
    subst (λ (n : Option (List ℕ)). IsEventStep (list.List n) lists (plain_reply c.told-in-None.result) lists) (sym c.in-None.is)
    (subst (λ (r : PlainReply). IsEventStep (list.List None) lists r lists) (sym c.told-in-None.ensures) step)
