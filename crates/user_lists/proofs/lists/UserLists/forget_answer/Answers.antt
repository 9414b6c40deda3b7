use Rattle.std.proofs.Common.{ap, ◌∙◌}
use Rattle.std.specs.Ordering.{nat_cmp}
use Rattle.std.specs.Cmp.Lexicographic.{slice_cmp, nat_list_cmp_total}
use Rattle.graph_model.proofs.OrderLemmas.{exact}
use Rattle.graph_model.proofs.Placed.{ascending_keys}
use Rattle.desk_model.specs.State.{UserLists}
use Rattle.user_lists.specs.Imports.{without_answer}
use Rattle.user_lists.specs.Lists.{shown}
use Rattle.user_lists.proofs.Kept.{with_entries, remove-without}
use Rattle.user_lists.proofs.lists.UserLists.forget_answer.Goals as goal

pub returns : goal.returns
returns c =
    ap (λ imports. shown c.self.inside.graphs c.self.inside.jobs.items imports c.self.inside.last_job) (c.remove.ensures.entries ∙ remove-without c.args.id.now c.self.inside.imports.entries c.self.invariant)
    ∙ ap (λ (lists : UserLists). with_entries lists (without_answer c.args.id.now lists.imports)) c.self.view_is

pub invariant_of-self : goal.invariant_of-self
invariant_of-self c = ascending_keys (slice_cmp nat_cmp) nat_list_cmp_total exact c.remove.new.self.entries c.remove.ensures.ordered
