use Rattle.desk_model.specs.Replies.{plain_reply}
use Rattle.gds_events.proofs.GoingLemmas.{asked-goes-on}
use Rattle.gds_events.proofs.session.Session.ask.Goals as goal

pub invariant_of-self : goal.invariant_of-self
invariant_of-self g c =
    asked-goes-on c.jobs_go_on.ensures.goes_on c.self.inside.desk c.apply.new.self c.self.inside.last c.args.asked.user c.args.asked.event (plain_reply c.apply.result)
    c.requires c.apply.ensures.step c.apply.ensures.valid c.self.invariant
