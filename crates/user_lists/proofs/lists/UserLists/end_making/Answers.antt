use Rattle.std.proofs.Common.{◌≡◌, ℕ, Some, position, sym, ap, ◌∙◌}
use Rattle.graph_model.specs.declared.refusal.Refusal.TheVariants.{Terminated}
use Rattle.desk_model.specs.State.{Job, UserLists}
use Rattle.desk_model.specs.Jobs.{is_numbered, job_of}
use Rattle.user_lists.proofs.Ended.{job-there, no-job, built-nowhere, built-there, comes-built, asked-there, refused-asked, refused-making, end-refused, jobs-shown, left-at}
use Rattle.user_lists.proofs.lists.UserLists.end_making.Goals as goal

pub returns-in_default : goal.returns-in_default
returns-in_default c =
    let jobs = c.self.inside.jobs.items in
    let are = ap (λ (l : UserLists). l.jobs) (sym c.self.view_is) in
    let none = ap (position (is_numbered c.args.number)) (sym c.as_slice.ensures.value) ∙ sym c.place_of.ensures ∙ c.in_default.is in
    absurd (built-nowhere c.args.built (job_of c.args.number c.args.self.now) (no-job c.args.self.now c.args.number jobs are none) c.requires)

pub returns-then-index : goal.returns-then-index
returns-then-index c =
    let inside = c.self.inside in
    let jobs = inside.jobs.items in
    let lists = c.args.self.now in
    let are = ap (λ (l : UserLists). l.jobs) (sym c.self.view_is) in
    let found = ap (position (is_numbered c.args.number)) (sym c.as_slice.ensures.value) ∙ sym c.place_of.ensures ∙ c.in-Some.is in
    let job = c.index.result.now in
    let there = job-there lists c.args.number jobs c.in-Some.place job are found ∙ ap (λ (j : Job). Some j) (sym c.index.ensures) in
    let asked = ap (λ (j : Job). j.asked) (sym c.behind-self.view_is) ∙ c.if-index.true in
    end-refused lists _ c.args.number c.args.built job (Terminated 0) there
    (refused-asked lists job asked ∙ ap (λ (j : Job). Some (Terminated j.batches)) (sym c.behind-self.view_is))
    (jobs-shown inside.graphs jobs inside.imports.entries inside.last_job lists c.args.number c.remove.new.self.items c.self.view_is
    (c.remove.ensures.items ∙ left-at c.args.number jobs c.in-Some.place c.remove.result found))

pub keep_made-requires-clause-open : goal.keep_made-requires-clause-open
keep_made-requires-clause-open c =
    let jobs = c.self.inside.jobs.items in
    let lists = c.args.self.now in
    let are = ap (λ (l : UserLists). l.jobs) (sym c.self.view_is) in
    let found = ap (position (is_numbered c.args.number)) (sym c.as_slice.ensures.value) ∙ sym c.place_of.ensures ∙ c.in-Some.is in
    let job = c.index.result.now in
    let there = job-there lists c.args.number jobs c.in-Some.place job are found ∙ ap (λ (j : Job). Some j) (sym c.index.ensures) in
    asked-there lists c.args.number job there ∙ ap (λ (j : Job). j.asked) (sym c.behind-self.view_is) ∙ c.if-index.false

pub returns-in-Err : goal.returns-in-Err
returns-in-Err c =
    let inside = c.self.inside in
    let jobs = inside.jobs.items in
    let lists = c.args.self.now in
    let are = ap (λ (l : UserLists). l.jobs) (sym c.self.view_is) in
    let found = ap (position (is_numbered c.args.number)) (sym c.as_slice.ensures.value) ∙ sym c.place_of.ensures ∙ c.in-Some.is in
    let job = c.index.result.now in
    let there = job-there lists c.args.number jobs c.in-Some.place job are found ∙ ap (λ (j : Job). Some j) (sym c.index.ensures) in
    let going = ap (λ (j : Job). j.asked) (sym c.behind-self.view_is) ∙ c.if-index.false in
    let is = built-there c.args.built (job_of c.args.number lists) job there c.requires in
    end-refused lists _ c.args.number c.args.built job c.in-Err.why there
    (refused-making lists job c.in-Err.why going (comes-built c.args.built job is ∙ sym c.in-Err.ensures))
    (jobs-shown inside.graphs jobs inside.imports.entries inside.last_job lists c.args.number c.remove-in-Err.new.self.items c.self.view_is
    (c.remove-in-Err.ensures.items ∙ left-at c.args.number jobs c.in-Some.place c.remove-in-Err.result found))
