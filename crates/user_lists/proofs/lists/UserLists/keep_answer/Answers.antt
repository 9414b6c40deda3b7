use Rattle.std.proofs.Common.{ap, subst, ◌∙◌}
use Rattle.std.specs.Ordering.{nat_cmp}
use Rattle.std.specs.Cmp.Lexicographic.{slice_cmp, nat_list_cmp_total}
use Rattle.std.specs.BTreeMap.{insert_entry}
use Rattle.graph_model.specs.Kept.{entry_order}
use Rattle.graph_model.specs.Lists.{placed}
use Rattle.graph_model.proofs.OrderLemmas.{exact}
use Rattle.graph_model.proofs.Placed.{ascending_keys, inserted-placed}
use Rattle.desk_model.specs.State.{UserLists}
use Rattle.user_lists.specs.Imports.{AnswersAscend}
use Rattle.user_lists.specs.Lists.{shown}
use Rattle.user_lists.proofs.Kept.{with_entries}
use Rattle.user_lists.proofs.lists.UserLists.keep_answer.Goals as goal

pub returns-clause-ok : goal.returns-clause-ok
returns-clause-ok c =
    let entries = c.self.inside.imports.entries in
    ap (λ imports. shown c.self.inside.graphs c.self.inside.jobs.items imports c.self.inside.last_job)
    (c.in_ok-insert.ensures.entries
    ∙ ap (λ id. insert_entry (slice_cmp nat_cmp) entries id c.args.answer) c.in_ok-id.ensures
    ∙ inserted-placed (slice_cmp nat_cmp) nat_list_cmp_total exact entries c.args.id.now c.args.answer (ascending_keys (slice_cmp nat_cmp) nat_list_cmp_total exact entries c.in_ok-insert.ensures.was_ordered))
    ∙ ap (λ (lists : UserLists). with_entries lists (placed entry_order (c.args.id.now, c.args.answer) lists.imports)) c.self.view_is

pub returns-clause-ascend : goal.returns-clause-ascend
returns-clause-ascend c =
    subst (λ (lists : UserLists). AnswersAscend lists.imports) c.self.view_is
    (ascending_keys (slice_cmp nat_cmp) nat_list_cmp_total exact c.self.inside.imports.entries c.in_ok-insert.ensures.was_ordered)

pub invariant_of-self-2 : goal.invariant_of-self-2
invariant_of-self-2 c = ascending_keys (slice_cmp nat_cmp) nat_list_cmp_total exact c.insert.new.self.entries c.in_ok-insert.ensures.ordered
