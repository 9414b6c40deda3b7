use Rattle.desk_model.specs.Replies.{plain_reply}
use Rattle.desk_core.specs.Fields.{state_of}
use Rattle.call_codec.specs.Lines.{line_item}
use Rattle.gds_session.proofs.ServingLemmas.{performs_call, performs_refusal}
use Rattle.gds_session.proofs.performing.perform.Goals as goal

pub returns-in-Ok-clause-performs : goal.returns-in-Ok-clause-performs
returns-in-Ok-clause-performs g c =
    performs_call (line_item c.args.line.now) c.in-Ok.user c.in-Ok.call c.asked_by.result.event (plain_reply c.apply.result)
    (state_of c.args.desk.now) (state_of c.apply.new.self) (g.K.Keeper.faults c.args.desk.now.keeper) (g.K.Keeper.faults c.apply.new.self.keeper)
    c.in-Ok.ensures.ok c.asked_by.ensures.event c.in-Ok.ensures.formed (rw c.asked_by.ensures.user at c.apply.ensures.step) c.apply.ensures.fault c.apply.ensures.later

pub returns-in-Err-clause-performs : goal.returns-in-Err-clause-performs
returns-in-Err-clause-performs g c =
    performs_refusal c.in-Err.why (line_item c.args.line.now) (state_of c.args.desk.now) (g.K.Keeper.faults c.args.desk.now.keeper) c.in-Err.ensures.refused
