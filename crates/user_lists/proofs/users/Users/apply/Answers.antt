use Rattle.std.proofs.Common.{sym, ap, ◌∙◌, true, false}
use Rattle.desk_model.specs.Replies.{plain_reply}
use Rattle.user_lists.specs.Users.{IsOpenFor, lists_of}
use Rattle.user_lists.specs.Steps.{begins_job}
use Rattle.user_lists.proofs.EventLemmas.{memory_step, none_step, on_err, on_ok}
use Rattle.user_lists.proofs.users.Users.apply.Goals as goal

pub returns-then-is_err-clause-step : goal.returns-then-is_err-clause-step
returns-then-is_err-clause-step c =
    memory_step c.args.event (lists_of c.args.self.now c.args.user.now) (lists_of c.open_for.new.self c.args.user.now)
    (on_err c.open_for.result _ (sym c.is_err.ensures.value ∙ c.if-is_err.true) c.open_for.ensures.begins) (c.open_for.ensures.kept c.args.user.now)

pub returns-in-None-clause-step : goal.returns-in-None-clause-step
returns-in-None-clause-step c =
    none_step c.args.event c.args.user.now c.args.self.now c.open_for.new.self c.take.new.self (plain_reply c.apply.result) c.apply.new.self
    c.open_for.ensures.kept (sym c.take.ensures.value ∙ c.in-None.is) c.in-None.ensures.none
    (on_ok c.open_for.result _ (sym c.is_err.ensures.value ∙ c.if-is_err.false) c.open_for.ensures.open) c.requires
    (rw c.new.ensures at c.apply.ensures)
