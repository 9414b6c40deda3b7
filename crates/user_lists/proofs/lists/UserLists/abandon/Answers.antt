use Rattle.std.proofs.Common.{List, position, sym, ap, ◌∙◌}
use Rattle.desk_model.specs.State.{Job, UserLists}
use Rattle.desk_model.specs.Jobs.{is_numbered, jobs_without}
use Rattle.user_lists.proofs.JobPlaces.{nowhere, without-nowhere}
use Rattle.user_lists.proofs.Listed.{abandon-step, without-there}
use Rattle.user_lists.proofs.lists.UserLists.abandon.Goals as goal
use Rattle.user_lists.proofs.lists.UserLists.abandon.Goals.{in-Some, in_default}

pub returns : goal.returns
returns c =
    let jobs = c.self.inside.jobs.items in
    let are = ap (λ (l : UserLists). l.jobs) (sym c.self.view_is) in
    abandon-step c.args.self.now c.match-place_of.self c.args.number
    (elim c.match-place_of.branch [
      | in-Some w ↦
          let found = ap (position (is_numbered c.args.number)) (sym c.as_slice.ensures.value) ∙ sym c.place_of.ensures ∙ w.in-Some.is in
          w.self-is
          ∙ ap (λ (l : UserLists). record l { jobs = w.remove.new.self.items }) c.self.view_is
          ∙ ap (λ (js : List Job). record c.args.self.now { jobs = js }) (w.remove.ensures.items ∙ without-there c.args.self.now c.args.number jobs w.in-Some.place w.remove.result are found)
      | in_default w ↦
          let none = ap (position (is_numbered c.args.number)) (sym c.as_slice.ensures.value) ∙ sym c.place_of.ensures ∙ w.in_default.is in
          w.self-is
          ∙ ap (λ (js : List Job). record c.args.self.now { jobs = js }) (are ∙ sym (without-nowhere c.args.number jobs (nowhere (is_numbered c.args.number) jobs none)) ∙ ap (jobs_without c.args.number) (sym are))
    ])
