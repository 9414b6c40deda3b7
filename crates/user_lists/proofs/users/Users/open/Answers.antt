use Rattle.std.proofs.Common.{◌≡◌, Bool, List, ℕ, Some, Option, true, false, sym, ap, ◌∙◌, IsSome, subst}
use Rattle.desk_model.specs.State.{UserLists}
use Rattle.graph_model.specs.Projection.{under}
use Rattle.user_lists.specs.Users.{lists_of}
use Rattle.user_lists.proofs.Entries.{is_at, there, there_by_test, not_there_by_test, new_user}
use Rattle.user_lists.proofs.users.Users.open.Goals as goal

pub returns-then-contains_key-clause-open : goal.returns-then-contains_key-clause-open
returns-then-contains_key-clause-open c =
    let P : List (List ℕ × UserLists) → Type 0 = λ users. IsSome (under c.args.user.now users) in
    subst P c.self.view_is (there_by_test c.args.user.now c.self.inside.lists.entries (sym c.if-contains_key.true ∙ c.contains_key.ensures))

pub returns-clause-open : goal.returns-clause-open
returns-clause-open c =
    there c.args.user.now c.new.result c.insert.new.self.entries
    (sym (rw c.in_ok-try_clone.ensures at c.in_ok-insert.ensures.updates.1))

pub returns-clause-kept : goal.returns-clause-kept
returns-clause-kept c other =
    let updates = c.in_ok-insert.ensures.updates in
    new_user c.args.user.now other c.self.inside.lists.entries c.insert.new.self.entries
    (not_there_by_test c.args.user.now c.self.inside.lists.entries (sym c.if-contains_key.false ∙ c.contains_key.ensures))
    (rw c.in_ok-try_clone.ensures at updates.1 ∙ ap Some c.new.ensures)
    (λ q apart. updates.2 q (ap (λ key. is_at key q) c.in_ok-try_clone.ensures ∙ apart))
    ∙ ap (λ users. lists_of users other) c.self.view_is
