use Rattle.std.proofs.Common.{◌≡◌, ℕ, ◌+◌, List, None, Some, Ok, position, sym, ap, ◌∙◌}
use Rattle.csr_columns.specs.Plain.{plain}
use Rattle.user_catalog.specs.Catalog.{NamedGraphs, after_insert, refused_insert}
use Rattle.desk_model.specs.State.{Job, UserLists}
use Rattle.desk_model.specs.Jobs.{is_numbered, job_of, graph_name}
use Rattle.desk_model.specs.Graphs.{graph_line}
use Rattle.user_lists.specs.Lists.{shown}
use Rattle.user_lists.proofs.Told.{line-version}
use Rattle.user_lists.proofs.Ended.{job-there, comes-there, asked-there, refused-name, end-refused, end-made, made-shown, refused-shown, jobs-shown, left-at, not-memory}
use Rattle.user_lists.proofs.lists.UserLists.keep_made.Goals as goal
use Rattle.user_lists.proofs.lists.UserLists.keep_made.Goals.{in-Some-2, in-None-2}

pub returns-in-Ok-insert : goal.returns-in-Ok-insert
returns-in-Ok-insert c built =
    let inside = c.self.inside in
    let jobs = inside.jobs.items in
    let lists = c.args.self.now in
    let are = ap (λ (l : UserLists). l.jobs) (sym c.self.view_is) in
    let found = ap (λ (l : UserLists). position (is_numbered c.args.number) l.jobs) c.self.view_is ∙ c.requires.found in
    let job = c.index.result.now in
    let there = job-there lists c.args.number jobs c.args.place job are found ∙ ap (λ (j : Job). Some j) (sym c.index.ensures) in
    let comes = comes-there (job_of c.args.number lists) job (Ok (plain c.args.graph)) there c.requires.made in
    let going = sym (asked-there lists c.args.number job there) ∙ c.requires.open in
    let name = c.in-Ok.ensures.name in
    let version = c.in-Ok-insert.ensures.version ∙ ap (λ (l : UserLists). l.last_version + 1) c.self.view_is in
    end-made lists _ c.args.number built job (plain c.args.graph) _ there going comes
    (refused-shown inside.graphs jobs inside.imports.entries inside.last_job lists (graph_name job.spec) None c.self.view_is
    (ap (refused_insert inside.graphs) (sym name) ∙ c.in-Ok-insert.ensures.allowed))
    (line-version (Some job.name) (graph_name job.spec) c.in-Ok-insert.version 0 c.args.graph c.in-Ok.told.0 c.in-Ok.ensures.line
    ∙ ap (λ (v : ℕ). graph_line (Some job.name) (graph_name job.spec) (record { version = v; graph = plain c.args.graph })) version)
    (ap (λ (catalog : NamedGraphs). shown catalog c.remove.new.self.items inside.imports.entries inside.last_job)
    (c.in-Ok-insert.ensures.ok ∙ ap (λ (n : List ℕ). after_insert inside.graphs n c.args.graph) name)
    ∙ made-shown inside.graphs jobs inside.imports.entries inside.last_job lists c.args.number (graph_name job.spec) c.args.graph c.remove.new.self.items c.self.view_is
    (c.remove.ensures.items ∙ left-at c.args.number jobs c.args.place c.remove.result found))

pub returns-else-wants_memory : goal.returns-else-wants_memory
returns-else-wants_memory c built =
    let inside = c.self.inside in
    let jobs = inside.jobs.items in
    let lists = c.args.self.now in
    let are = ap (λ (l : UserLists). l.jobs) (sym c.self.view_is) in
    let found = ap (λ (l : UserLists). position (is_numbered c.args.number) l.jobs) c.self.view_is ∙ c.requires.found in
    let job = c.index.result.now in
    let there = job-there lists c.args.number jobs c.args.place job are found ∙ ap (λ (j : Job). Some j) (sym c.index.ensures) in
    let comes = comes-there (job_of c.args.number lists) job (Ok (plain c.args.graph)) there c.requires.made in
    let going = sym (asked-there lists c.args.number job there) ∙ c.requires.open in
    let name = c.in-Ok.ensures.name in
    let why = c.in-Err-insert.why in
    let refused = not-memory why (refused_insert inside.graphs c.in-Ok.told.1 ≡ Some why) (sym c.wants_memory.ensures ∙ c.if-wants_memory.false) c.in-Err-insert.ensures.refused in
    let self_is : c.match-line-2.self ≡ shown c.insert.new.self c.remove-in-Err-insert.new.self.items inside.imports.entries inside.last_job =
    elim c.match-line-2.branch [
      | in-Some-2 w ↦ w.self-is
      | in-None-2 w ↦ w.self-is
    ] in
    end-refused lists c.match-line-2.self c.args.number built job why there
    (refused-name lists job (plain c.args.graph) (Some why) going comes
    (refused-shown inside.graphs jobs inside.imports.entries inside.last_job lists (graph_name job.spec) (Some why) c.self.view_is
    (ap (refused_insert inside.graphs) (sym name) ∙ refused)))
    (self_is
    ∙ ap (λ (catalog : NamedGraphs). shown catalog c.remove-in-Err-insert.new.self.items inside.imports.entries inside.last_job) c.in-Err-insert.ensures.err
    ∙ jobs-shown inside.graphs jobs inside.imports.entries inside.last_job lists c.args.number c.remove-in-Err-insert.new.self.items c.self.view_is
    (c.remove-in-Err-insert.ensures.items ∙ left-at c.args.number jobs c.args.place c.remove-in-Err-insert.result found))
