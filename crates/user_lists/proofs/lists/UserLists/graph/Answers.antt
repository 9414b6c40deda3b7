use Rattle.std.proofs.Common.{option_copied}
use Rattle.user_lists.proofs.Listed.{graph-shown}
use Rattle.user_lists.proofs.lists.UserLists.graph.Goals as goal

pub returns : goal.returns
returns c =
    graph-shown c.self.inside.graphs c.self.inside.jobs.items c.self.inside.imports.entries c.self.inside.last_job c.args.self.now c.args.name.now
    (option_copied c.get.result) c.self.view_is c.get.ensures
