use Rattle.std.proofs.Common.{sym, subst}
use Rattle.desk_model.specs.Replies.{plain_reply}
use Rattle.user_lists.specs.Steps.{IsReadyOn}
use Rattle.user_lists.specs.Users.{lists_of}
use Rattle.desk_core.proofs.ToldLemmas.{event_told}
use Rattle.desk_core.proofs.desk.Desk.perform.Goals as goal

pub invariant_of-self : goal.invariant_of-self
invariant_of-self g c =
    event_told _ _ c.args.event c.args.user.now c.self.inside.users c.apply.new.self (plain_reply c.apply.result) c.self.invariant
    (subst (λ desk. IsReadyOn c.args.event (lists_of desk.users c.args.user.now)) (sym c.self.view_is) c.requires) c.apply.ensures.step c.apply.ensures.others

pub returns-clause-told : goal.returns-clause-told
returns-clause-told g c =
    event_told _ _ c.args.event c.args.user.now c.self.inside.users c.apply.new.self (plain_reply c.apply.result) c.self.invariant
    (subst (λ desk. IsReadyOn c.args.event (lists_of desk.users c.args.user.now)) (sym c.self.view_is) c.requires) c.apply.ensures.step c.apply.ensures.others
