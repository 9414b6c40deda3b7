use Rattle.std.proofs.Common.{List, ℕ, sym, ap, ◌∙◌, IsSome, subst}
use Rattle.desk_model.specs.State.{UserLists}
use Rattle.graph_model.specs.Projection.{under}
use Rattle.user_lists.specs.Users.{lists_of}
use Rattle.user_lists.proofs.Entries.{own_written, others_written, there_or_not}
use Rattle.user_lists.proofs.users.Users.put.Goals as goal
use Rattle.user_lists.proofs.users.Users.put.Goals.{in-Some, in_default}

pub returns-clause-own : goal.returns-clause-own
returns-clause-own c =
    let P : List (List ℕ × UserLists) → Type 0 = λ users. IsSome (under c.args.user.now users) in
    let there = subst P (sym c.self.view_is) c.requires in
    elim c.match-get_mut.branch [
      | in-Some w ↦ rw (w.self-inside-is, (c.get_mut.follows.holds c.args.lists).0) (own_written c.args.user.now c.args.lists c.self.inside.lists.entries there)
      | in_default w ↦ absurd (there_or_not c.args.user.now c.self.inside.lists.entries w.in_default.ensures.value there)
    ]

pub returns-clause-others : goal.returns-clause-others
returns-clause-others c other apart =
    let P : List (List ℕ × UserLists) → Type 0 = λ users. IsSome (under c.args.user.now users) in
    let there = subst P (sym c.self.view_is) c.requires in
    elim c.match-get_mut.branch [
      | in-Some w ↦ rw (w.self-inside-is, (c.get_mut.follows.holds c.args.lists).0) (others_written c.args.user.now c.args.lists c.self.inside.lists.entries other apart ∙ ap (λ users. lists_of users other) c.self.view_is)
      | in_default w ↦ absurd (there_or_not c.args.user.now c.self.inside.lists.entries w.in_default.ensures.value there)
    ]
