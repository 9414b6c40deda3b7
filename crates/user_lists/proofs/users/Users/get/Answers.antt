use Rattle.std.proofs.Common.{ap, ◌∙◌}
use Rattle.graph_model.specs.Projection.{under}
use Rattle.user_lists.proofs.Kept.{lookup-under}
use Rattle.user_lists.proofs.users.Users.get.Goals as goal

pub returns : goal.returns
returns c = c.get.ensures.value ∙ lookup-under c.args.user.now c.self.inside.lists.entries ∙ ap (under c.args.user.now) c.self.view_is
