use Rattle.std.proofs.Common.{None, Option, sym, ap, ◌∙◌, subst}
use Rattle.gds_events.specs.declared.session.Begun.{Begun}
use Rattle.gds_events.specs.Going.{IsGoingOn}
use Rattle.gds_events.proofs.GoingLemmas.{none-goes-on}
use Rattle.gds_events.proofs.session.Session.begin_making.Goals as goal

pub invariant_of-self-in-Err-1 : goal.invariant_of-self-in-Err-1
invariant_of-self-in-Err-1 g c =
    let none = ap (λ session. session.last) c.self.view_is ∙ c.forget.ensures in
    subst (λ (last : Option Begun). IsGoingOn c.begin_job.new.desk last) (sym none) (none-goes-on c.begin_job.new.desk c.begin_job.ensures.valid)
