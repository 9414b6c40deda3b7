-- The job that was begun last goes on, and its end is ready.
use Rattle.std.proofs.Common.{◌≡◌, ℕ, Bool, true, false, List, Option, Some, None, IsSome, refl, sym, ap, ◌∙◌, subst}
use Rattle.graph_making.specs.declared.capture.MakeSpec.{MakeSpec}
use Rattle.graph_making.specs.Making.{PlainCapture, BuiltGraph, plain_capture}
use Rattle.desk_model.specs.declared.asked.Event.{Event}
use Rattle.desk_model.specs.declared.asked.Event.TheVariants as event
use Rattle.desk_model.specs.declared.asked.Event.TheVariants.{Change, StoreRows, ProjectBegin, ProjectEnd, Abandon, Terminate, Exists, GraphRows, Jobs}
use Rattle.desk_model.specs.Replies.{PlainReply, Making}
use Rattle.desk_model.specs.State.{Job, Part, State, part_of}
use Rattle.desk_model.specs.Jobs.{job_of}
use Rattle.desk_model.specs.Step.{IsReady, IsSomeMaking, IsStep}
use Rattle.desk_model.specs.Valid.{IsValidState}
use Rattle.desk_model.specs.Going.{IsGoingJob, ends_job, BegunIsGoing, GoingGoesOn}
use Rattle.desk_core.specs.Fields.{DeskFields, state_of}
use Rattle.gds_events.specs.declared.session.Begun.{Begun}
use Rattle.gds_events.specs.Going.{IsSimple, GoesOn, IsGoingOn}

-- an event that begins and ends no job is ready in every part, and ends none
pub simple-ready : (asked : Event) (part : Part) → IsSimple asked → IsReady asked part
simple-ready (Change import change) part simple = simple
simple-ready (StoreRows key labels) part simple = tt
simple-ready (ProjectBegin graph name spec) part simple = absurd simple
simple-ready (ProjectEnd number built) part simple = absurd simple
simple-ready (Abandon number) part simple = absurd simple
simple-ready (Terminate name) part simple = tt
simple-ready (Exists graph) part simple = tt
simple-ready (event.List graph of) part simple = tt
simple-ready (event.Drop graph must of) part simple = tt
simple-ready (GraphRows graph key labels) part simple = tt
simple-ready Jobs part simple = tt

simple-ends : (number : ℕ) (asked : Event) (reply : PlainReply) → IsSimple asked → ends_job number asked reply ≡ false
simple-ends number (Change import change) reply simple = refl
simple-ends number (StoreRows key labels) reply simple = refl
simple-ends number (ProjectBegin graph name spec) reply simple = absurd simple
simple-ends number (ProjectEnd job built) reply simple = absurd simple
simple-ends number (Abandon job) reply simple = absurd simple
simple-ends number (Terminate name) reply simple = refl
simple-ends number (Exists graph) reply simple = refl
simple-ends number (event.List graph of) reply simple = refl
simple-ends number (event.Drop graph must of) reply simple = refl
simple-ends number (GraphRows graph key labels) reply simple = refl
simple-ends number Jobs reply simple = refl

-- no job that a row began goes on where none is noted
pub none-goes-on : {K : Type 0} (desk : DeskFields K) → IsValidState (state_of desk) → IsGoingOn desk None
none-goes-on desk valid = record { valid = valid; goes_on = tt }

-- the job that was begun last goes on after an event that ends none
pub asked-goes-on : {K : Type 0} (goes : GoingGoesOn) (old new : DeskFields K) (last : Option Begun) (user : List ℕ) (asked : Event) (reply : PlainReply) → IsSimple asked → IsStep user asked (state_of old) reply (state_of new) → IsValidState (state_of new) → IsGoingOn old last → IsGoingOn new last
asked-goes-on goes old new None user asked reply simple step valid going = record { valid = valid; goes_on = tt }
asked-goes-on goes old new (Some begun) user asked reply simple step valid going = record {
  valid = valid;
  goes_on =
      goes (state_of old) (state_of new) begun.user user asked reply begun.job (plain_capture begun.from) begun.spec going.goes_on step
      (λ own. simple-ends begun.job asked reply simple);
}

-- a job that begins is the one that goes on
pub begun-goes-on : {K : Type 0} (begins : BegunIsGoing) (old new : DeskFields K) (begun : Begun) (user graph : List ℕ) (name : Option (List ℕ)) (spec : MakeSpec) (given : List ℕ) (captured : PlainCapture) → IsValidState (state_of old) → IsStep user (ProjectBegin graph name spec) (state_of old) (Making begun.job given captured) (state_of new) → IsValidState (state_of new) → begun.user ≡ user → plain_capture begun.from ≡ captured → begun.spec ≡ spec → IsGoingOn new (Some begun)
begun-goes-on begins old new begun user graph name spec given captured was step valid user_is from_is spec_is = record {
  valid = valid;
  goes_on =
      let going = begins (state_of old) (state_of new) user graph name spec begun.job given captured was step in
      let mine = subst (λ (u : List ℕ). IsGoingJob begun.job captured spec ((state_of new).lists u)) (sym user_is) going in
      let of_it = subst (λ (c : PlainCapture). IsGoingJob begun.job c spec ((state_of new).lists begun.user)) (sym from_is) mine in
      subst (λ (s : MakeSpec). IsGoingJob begun.job (plain_capture begun.from) s ((state_of new).lists begun.user)) (sym spec_is) of_it;
}

-- its end is ready with what was built for it, and for nothing
pub end-ready : {K : Type 0} (desk : DeskFields K) (begun : Begun) (user : List ℕ) (built : BuiltGraph) → IsGoingOn desk (Some begun) → begun.user ≡ user → built.from ≡ plain_capture begun.from → built.spec ≡ begun.spec → IsReady (ProjectEnd begun.job built) (part_of (state_of desk) user)
end-ready desk begun user built going user_is from_is spec_is =
    let mine = subst (λ (u : List ℕ). IsGoingJob begun.job (plain_capture begun.from) begun.spec ((state_of desk).lists u)) user_is going.goes_on in
    let of_it = subst (λ (c : PlainCapture). IsGoingJob begun.job c begun.spec ((state_of desk).lists user)) (sym from_is) mine in
    subst (λ (s : MakeSpec). IsGoingJob begun.job built.from s ((state_of desk).lists user)) (sym spec_is) of_it

some-job : (captured : PlainCapture) (spec : MakeSpec) (found : Option Job) → IsSomeMaking captured spec found → IsSome found
some-job captured spec None has = absurd has
some-job captured spec (Some job) has = refl

pub abandon-ready : {K : Type 0} (desk : DeskFields K) (begun : Begun) (user : List ℕ) → IsGoingOn desk (Some begun) → begun.user ≡ user → IsReady (Abandon begun.job) (part_of (state_of desk) user)
abandon-ready desk begun user going user_is =
    some-job (plain_capture begun.from) begun.spec (job_of begun.job ((state_of desk).lists user))
    (subst (λ (u : List ℕ). IsGoingJob begun.job (plain_capture begun.from) begun.spec ((state_of desk).lists u)) user_is going.goes_on)
