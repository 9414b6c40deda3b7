use Rattle.std.proofs.Common.{position, get_or, sym, ap, ◌∙◌}
use Rattle.std.specs.List.{slice_set}
use Rattle.desk_model.specs.State.{Job, UserLists}
use Rattle.desk_model.specs.Jobs.{is_job_named, asked_to_end}
use Rattle.user_lists.specs.Lists.{shown}
use Rattle.user_lists.proofs.Listed.{terminate-step, no_job-step}
use Rattle.user_lists.proofs.lists.UserLists.terminate.Goals as goal

pub returns-in-Some : goal.returns-in-Some
returns-in-Some c =
    let jobs = c.self.inside.jobs.items in
    let place = c.in-Some.place in
    let found = ap (position (is_job_named c.args.name)) (sym c.as_slice.ensures.value) ∙ sym c.place_named.ensures ∙ c.in-Some.is in
    terminate-step c.args.self.now _ c.args.name jobs place c.index_mut.result.now (ap (λ (l : UserLists). l.jobs) (sym c.self.view_is)) found
    (ap (λ (job : Job). shown c.self.inside.graphs (slice_set jobs place (asked_to_end job)) c.self.inside.imports.entries c.self.inside.last_job)
    (c.behind-self.view_is ∙ c.index_mut.ensures.value)
    ∙ ap (λ (l : UserLists). record l { jobs = slice_set jobs place (asked_to_end (get_or jobs place c.index_mut.result.now)) }) c.self.view_is)

pub returns-in-None : goal.returns-in-None
returns-in-None c =
    no_job-step c.args.self.now c.args.name c.self.inside.jobs.items (ap (λ (l : UserLists). l.jobs) (sym c.self.view_is))
    (ap (position (is_job_named c.args.name)) (sym c.as_slice.ensures.value) ∙ sym c.place_named.ensures ∙ c.in-None.is)
