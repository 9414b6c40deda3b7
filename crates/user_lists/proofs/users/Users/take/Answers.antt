use Rattle.std.proofs.Common.{Some, sym, ap, ◌∙◌}
use Rattle.std.proofs.lemmas.Bool.{true≢false}
use Rattle.graph_model.specs.Projection.{under}
use Rattle.user_lists.specs.Users.{lists_of}
use Rattle.user_lists.proofs.Kept.{lookup-under}
use Rattle.user_lists.proofs.Entries.{others_written, there_written, there}
use Rattle.user_lists.proofs.users.Users.take.Goals as goal
use Rattle.user_lists.proofs.users.Users.take.Goals.{in-Some, in-None}

pub returns-clause-value : goal.returns-clause-value
returns-clause-value c =
    let found = lookup-under c.args.user.now c.self.inside.lists.entries ∙ ap (under c.args.user.now) c.self.view_is in
    elim c.match-get_mut.branch [
      | in-Some w ↦ w.result-is ∙ ap Some w.replace.ensures.value ∙ w.in-Some.ensures.value ∙ found
      | in-None w ↦ w.result-is ∙ w.in-None.ensures.value ∙ found
    ]

pub returns-clause-others : goal.returns-clause-others
returns-clause-others c other apart =
    elim c.match-get_mut.branch [
      | in-Some w ↦ rw (w.self-inside-is, (c.get_mut.follows.holds w.replace.new.dest).0) (others_written c.args.user.now w.replace.new.dest c.self.inside.lists.entries other apart ∙ ap (λ users. lists_of users other) c.self.view_is)
      | in-None w ↦ let h = c.get_mut.follows.holds-at-none in rw (w.self-inside-is, h) (ap (λ users. lists_of users other) c.self.view_is)
    ]

pub returns-clause-open : goal.returns-clause-open
returns-clause-open c some =
    elim c.match-get_mut.branch [
      | in-Some w ↦ rw (w.self-inside-is, (c.get_mut.follows.holds w.replace.new.dest).0) (there_written c.args.user.now w.replace.new.dest c.self.inside.lists.entries (there c.args.user.now w.in-Some.lists.now c.self.inside.lists.entries w.in-Some.ensures.value))
      | in-None w ↦ absurd (true≢false (sym (rw w.result-is at some)))
    ]

pub returns-clause-none : goal.returns-clause-none
returns-clause-none c =
    elim c.match-get_mut.branch [
      | in-Some w ↦ rw w.result-is tt
      | in-None w ↦ rw w.result-is (rw (w.self-inside-is, c.get_mut.follows.holds-at-none) c.self.view_is)
    ]
