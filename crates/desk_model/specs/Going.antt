-- A job that is going on: it was begun, and no event since has ended it. What a program needs to hand in what it made.
--   IsGoingJob number captured spec lists   the job of a number makes a graph of this capture, as this was asked for
--   ends_job number event reply             an event with this reply ends the job of a number
use Rattle.std.specs.Prelude.{◌≡◌, ◌≢◌, ℕ, ◌==◌, Bool, true, false, ◌&&◌, not, List, Option}
use Rattle.graph_making.specs.declared.capture.MakeSpec.{MakeSpec}
use Rattle.graph_making.specs.Making.{PlainCapture}
use Rattle.desk_model.specs.declared.asked.Event.{Event}
use Rattle.desk_model.specs.declared.asked.Event.TheVariants as event
use Rattle.desk_model.specs.declared.asked.Event.TheVariants.{Change, StoreRows, ProjectBegin, ProjectEnd, Abandon, Terminate, Exists, GraphRows, Jobs}
use Rattle.desk_model.specs.State.{UserLists, State, part_of}
use Rattle.desk_model.specs.Replies.{PlainReply, Making}
use Rattle.desk_model.specs.Jobs.{job_of}
use Rattle.desk_model.specs.Step.{IsSomeMaking, IsStep}
use Rattle.desk_model.specs.History.{wants_memory}
use Rattle.desk_model.specs.Valid.{IsValidState}

-- the job of a number makes a graph of this capture, as this was asked for
abbrev pub IsGoingJob : ℕ → PlainCapture → MakeSpec → UserLists → Type 0
IsGoingJob number captured spec lists = IsSomeMaking captured spec (job_of number lists)

-- whether an event with this reply ends the job of a number
abbrev pub ends_job : ℕ → Event → PlainReply → Bool
ends_job number (Change import change) reply = false
ends_job number (StoreRows key labels) reply = false
ends_job number (ProjectBegin graph name spec) reply = false
ends_job number (ProjectEnd job built) reply = job == number && not (wants_memory reply)
ends_job number (Abandon job) reply = job == number
ends_job number (Terminate name) reply = false
ends_job number (Exists graph) reply = false
ends_job number (event.List graph of) reply = false
ends_job number (event.Drop graph must of) reply = false
ends_job number (GraphRows graph key labels) reply = false
ends_job number Jobs reply = false

-- a job that begins is going on, with what it was asked for and what its reply hands out
abbrev pub BegunIsGoing : Type 0
BegunIsGoing = (old new : State) (user graph : List ℕ) (name : Option (List ℕ)) (spec : MakeSpec) (number : ℕ) (given : List ℕ) (captured : PlainCapture) →
    IsValidState old → IsStep user (ProjectBegin graph name spec) old (Making number given captured) new →
    IsGoingJob number captured spec (new.lists user)

-- a job that is going on goes on after every step that doesn't end it, whoever's it is
abbrev pub GoingGoesOn : Type 0
GoingGoesOn = (old new : State) (user other : List ℕ) (asked : Event) (reply : PlainReply) (number : ℕ) (captured : PlainCapture) (spec : MakeSpec) →
    IsGoingJob number captured spec (old.lists user) → IsStep other asked old reply new →
    (other ≡ user → ends_job number asked reply ≡ false) → IsGoingJob number captured spec (new.lists user)
