use Rattle.std.proofs.Common.{◌≡◌, Some, length, sym, ap, ◌∙◌}
use Rattle.graph_model.specs.Lists.{first_there}
use Rattle.graph_model.specs.Projection.{under}
use Rattle.user_catalog.specs.Catalog.{name_taken, graphs_spent}
use Rattle.desk_model.specs.Jobs.{refused_job, job_taken, jobs_spent, numbers_spent}
use Rattle.desk_model.specs.Step.{refused_begin}
use Rattle.user_lists.proofs.Steps.{unless-mem}
use Rattle.user_lists.proofs.Listed.{first-of-three, behind-two}
use Rattle.user_lists.proofs.lists.UserLists.begin.Goals as goal

pub returns-in-Err-clause-refused : goal.returns-in-Err-clause-refused
returns-in-Err-clause-refused c =
    let lists = c.args.self.now in
    unless-mem c.in-Err.why (refused_begin c.args.graph c.args.name lists ≡ Some c.in-Err.why)
    (first-of-three (name_taken c.args.graph (under c.args.graph lists.graphs)) (graphs_spent (length lists.graphs)) (refused_job c.args.name lists) c.in-Err.why c.in-Err.ensures.refused)

pub returns-in-Err-free_name-clause-refused : goal.returns-in-Err-free_name-clause-refused
returns-in-Err-free_name-clause-refused c =
    let lists = c.args.self.now in
    let why = c.in-Err-free_name.why in
    unless-mem why (refused_begin c.args.graph c.args.name lists ≡ Some why)
    (behind-two (name_taken c.args.graph (under c.args.graph lists.graphs)) (graphs_spent (length lists.graphs)) (refused_job c.args.name lists) c.in-Ok.ensures.free
    ∙ ap (λ taken. first_there taken (first_there (jobs_spent lists.jobs) (numbers_spent lists.last_job))) c.in-Err-free_name.ensures.refused)

pub returns-in-Err-next_number-clause-refused : goal.returns-in-Err-next_number-clause-refused
returns-in-Err-next_number-clause-refused c =
    let lists = c.args.self.now in
    let why = c.in-Err-next_number.why in
    unless-mem why (refused_begin c.args.graph c.args.name lists ≡ Some why)
    (behind-two (name_taken c.args.graph (under c.args.graph lists.graphs)) (graphs_spent (length lists.graphs)) (refused_job c.args.name lists) c.in-Ok.ensures.free
    ∙ ap (λ taken. first_there taken (first_there (jobs_spent lists.jobs) (numbers_spent lists.last_job))) c.in-Ok-free_name.ensures.free
    ∙ c.in-Err-next_number.ensures.refused)
