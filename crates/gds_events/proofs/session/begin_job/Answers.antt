use Rattle.graph_making.specs.Making.{plain_capture}
use Rattle.desk_core.specs.Fields.{state_of}
use Rattle.gds_events.proofs.session.begin_job.Goals as goal

pub returns-in-Making-clause-begun : goal.returns-in-Making-clause-begun
returns-in-Making-clause-begun g c =
    c.jobs_go_on.ensures.begun (state_of c.args.desk.now) (state_of c.apply.new.self) c.args.user c.args.graph c.args.job c.args.spec c.in-Making.job c.in-Making.name
    (plain_capture c.in-Making.from) c.requires.valid c.in-Making.ensures.step
