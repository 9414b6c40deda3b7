use Rattle.std.proofs.Common.{option_copied, ◌∙◌}
use Rattle.user_lists.proofs.Listed.{graph-shown, has-shown, exists-step}
use Rattle.user_lists.proofs.lists.UserLists.exists.Goals as goal

pub returns : goal.returns
returns c =
    let there = graph-shown c.self.inside.graphs c.self.inside.jobs.items c.self.inside.imports.entries c.self.inside.last_job c.args.self.now c.args.name
    (option_copied c.get.result) c.self.view_is c.get.ensures in
    exists-step c.args.self.now c.args.name c.is_some-found.result (c.is_some-found.ensures ∙ has-shown c.args.self.now c.args.name c.get.result there)
