use Rattle.std.proofs.Common.{ap, ◌∙◌}
use Rattle.graph_model.specs.Projection.{under}
use Rattle.user_lists.proofs.Kept.{lookup-under}
use Rattle.user_lists.proofs.lists.UserLists.kept_answer.Goals as goal

pub returns : goal.returns
returns c =
    c.copied.ensures
    ∙ c.get.ensures.value
    ∙ lookup-under c.args.id.now c.self.inside.imports.entries
    ∙ ap (λ lists. under c.args.id.now lists.imports) c.self.view_is
