use Rattle.std.proofs.Common.{◌≡◌, Bool, true, false, not, None, option_copied, sym, ap, ◌∙◌}
use Rattle.graph_model.specs.Projection.{under}
use Rattle.user_catalog.specs.Catalog.{NamedGraphs}
use Rattle.desk_model.specs.Graphs.{found_lines, has_graph, refused_drop}
use Rattle.user_lists.specs.Lists.{shown}
use Rattle.user_lists.proofs.Listed.{graph-shown, has-shown}
use Rattle.user_lists.proofs.Told.{drop-refused, drop-step, may-go, is-there, without-shown}
use Rattle.user_lists.proofs.lists.UserLists.drop_graph.Goals as goal
use Rattle.user_lists.proofs.lists.UserLists.drop_graph.Goals.{else-must-via-then-must+else-is_none, else-must-via-else-must}

pub returns-then-is_none : goal.returns-then-is_none
returns-then-is_none c =
    let there = graph-shown c.self.inside.graphs c.self.inside.jobs.items c.self.inside.imports.entries c.self.inside.last_job c.args.self.now c.args.name
    (option_copied c.get-found.result) c.self.view_is c.get-found.ensures in
    let has = has-shown c.args.self.now c.args.name c.get-found.result there in
    drop-refused c.args.self.now c.args.name c.args.must c.if-must.true
    (sym has ∙ c.is_none.ensures ∙ ap not c.if-is_none.true)

pub returns-in-Ok : goal.returns-in-Ok
returns-in-Ok c =
    let there = graph-shown c.self.inside.graphs c.self.inside.jobs.items c.self.inside.imports.entries c.self.inside.last_job c.args.self.now c.args.name
    (option_copied c.get-found.result) c.self.view_is c.get-found.ensures in
    let has = has-shown c.args.self.now c.args.name c.get-found.result there in
    let allowed : refused_drop c.args.name c.args.must c.args.self.now ≡ None =
    elim c.else-must.branch [
      | else-must-via-then-must+else-is_none w ↦
          is-there c.args.self.now c.args.name c.args.must (ap not (sym has ∙ w.is_none.ensures ∙ ap not w.if-is_none.false))
      | else-must-via-else-must w ↦ may-go c.args.self.now c.args.name c.args.must w.if-must.false
    ] in
    drop-step c.args.self.now _ c.args.name c.args.must c.in-Ok.lines allowed
    (c.in-Ok.ensures ∙ ap (found_lines c.args.name) (sym there))
    (ap (λ (catalog : NamedGraphs). shown catalog c.self.inside.jobs.items c.self.inside.imports.entries c.self.inside.last_job) c.remove.ensures.ok
    ∙ without-shown c.self.inside.graphs c.self.inside.jobs.items c.self.inside.imports.entries c.self.inside.last_job c.args.self.now c.args.name c.self.view_is)
