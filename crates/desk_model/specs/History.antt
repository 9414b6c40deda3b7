-- Histories of the machine.
--   HistoryEntry                an event that a pass performed for a user, and its reply
--   state_after opening history the state after a history
--   own_entries pass history    the entries of one pass
--   Shown                       what entries show of a job: its stage
--   shown_of user number own    what the entries of a pass show of the job of a number of a user
--   Permits own user event      what a pass's own entries permit
--   IsLegal opening history     each entry is permitted, and its reply is the step's
use Rattle.std.specs.Prelude.{◌≡◌, ◌≢◌, ℕ, ◌==◌, Bool, true, false, ◌&&◌, if◌then◌else◌, List, [], ◌∷◌, ◌++◌, filter}
use Rattle.std.specs.Str.{bytes_eq}
use Rattle.desk_model.specs.declared.asked.Event.{Event}
use Rattle.desk_model.specs.declared.asked.Event.TheVariants as event
use Rattle.desk_model.specs.declared.asked.Event.TheVariants.{Change, StoreRows, ProjectBegin, ProjectEnd, Abandon, Terminate, Exists, GraphRows, Jobs}
use Rattle.graph_model.specs.declared.refusal.Refusal.{Refusal}
use Rattle.graph_model.specs.declared.refusal.Refusal.TheVariants.{Mem}
use Rattle.graph_making.specs.declared.capture.MakeSpec.{MakeSpec}
use Rattle.graph_making.specs.Making.{PlainCapture}
use Rattle.desk_model.specs.State.{State, part_of}
use Rattle.desk_model.specs.Replies.{PlainReply, Making, Refused}
use Rattle.desk_model.specs.Step.{step, subject_of, mark_of, is_fault, MayStand, IsWellFormed, IsReady, IsStep}
use Rattle.desk_model.specs.Valid.{IsValidState}

-- an event that a pass performed for a user, whether it was refused for a fault of the keeper, and its reply
pub record HistoryEntry : Type 0 where
  pub pass : ℕ
  pub user : List ℕ
  pub event : Event
  pub refused : Bool
  pub reply : PlainReply

-- the state after an entry
abbrev pub state_after_entry : State → HistoryEntry → State
state_after_entry state entry = (step (mark_of entry.reply) entry.user entry.event state).state

-- the state after a history
abbrev pub state_after : State → List HistoryEntry → State
state_after state [] = state
state_after state (entry ∷ entries) = state_after (state_after_entry state entry) entries

-- whether an entry is of a pass
abbrev pub is_of_pass : ℕ → HistoryEntry → Bool
is_of_pass pass entry = entry.pass == pass

-- the entries of one pass
abbrev pub own_entries : ℕ → List HistoryEntry → List HistoryEntry
own_entries pass history = filter (is_of_pass pass) history

-- ---- jobs, as the entries of a pass show them

-- what entries show of a job: nothing; that it was begun to make a graph, as was asked for and of what was captured; or that
-- it ended. Each stage that entries can show has a variant.
pub data Shown : Type 0 where
  NotBegun : Shown
  BegunToMake : MakeSpec → PlainCapture → Shown
  Over : Shown

-- whether a reply is want of memory
abbrev pub is_memory : Refusal → Bool
is_memory Mem = true
is_memory other = false

abbrev pub wants_memory : PlainReply → Bool
wants_memory (Refused why) = is_memory why
wants_memory other = false

-- what a reply to the beginning of a projection shows of the job of a number, of which this was shown before
abbrev pub shown_begun : ℕ → MakeSpec → PlainReply → Shown → Shown
shown_begun number spec (Making job name captured) before = if job == number then BegunToMake spec captured else before
shown_begun number spec other before = before

-- what an event with this reply shows of the job of a number, of which this was shown before: want of memory ends no job
abbrev pub shown_after : ℕ → Event → PlainReply → Shown → Shown
shown_after number (Change import change) reply before = before
shown_after number (StoreRows key labels) reply before = before
shown_after number (ProjectBegin graph name spec) reply before = shown_begun number spec reply before
shown_after number (ProjectEnd job built) reply before = if job == number then (if wants_memory reply then before else Over) else before
shown_after number (Abandon job) reply before = if job == number then Over else before
shown_after number (Terminate name) reply before = before
shown_after number (Exists graph) reply before = before
shown_after number (event.List graph of) reply before = before
shown_after number (event.Drop graph must of) reply before = before
shown_after number (GraphRows graph key labels) reply before = before
shown_after number Jobs reply before = before

-- what an entry shows of the job of a number of a user
abbrev pub shown_by : List ℕ → ℕ → HistoryEntry → Shown → Shown
shown_by user number entry before = if bytes_eq entry.user user then shown_after number entry.event entry.reply before else before

-- what entries show of it, of which this was shown before
abbrev pub shown_from : List ℕ → ℕ → Shown → List HistoryEntry → Shown
shown_from user number before [] = before
shown_from user number before (entry ∷ entries) = shown_from user number (shown_by user number entry before) entries

-- what the entries of a pass show of the job of a number of a user
abbrev pub shown_of : List ℕ → ℕ → List HistoryEntry → Shown
shown_of user number own = shown_from user number NotBegun own

-- a job is shown that was begun and hasn't ended
abbrev pub IsGoing : Shown → Type 0
IsGoing NotBegun = ⊥
IsGoing (BegunToMake spec captured) = Unit {0}
IsGoing Over = ⊥

-- what a pass's own entries permit: an event that is well formed; of a job only what the entries show
abbrev pub Permits : List HistoryEntry → List ℕ → Event → Type 0
Permits own user (Change import change) = IsWellFormed (Change import change)
Permits own user (StoreRows key labels) = Unit {0}
Permits own user (ProjectBegin graph name spec) = IsWellFormed (ProjectBegin graph name spec)
Permits own user (ProjectEnd number built) = shown_of user number own ≡ BegunToMake built.spec built.from
Permits own user (Abandon number) = IsGoing (shown_of user number own)
Permits own user (Terminate name) = Unit {0}
Permits own user (Exists graph) = Unit {0}
Permits own user (event.List graph of) = Unit {0}
Permits own user (event.Drop graph must of) = Unit {0}
Permits own user (GraphRows graph key labels) = Unit {0}
Permits own user Jobs = Unit {0}

-- an entry after earlier ones: it is permitted, its mark may stand, and its flag and its reply are the step's
pub record IsLegalEntry (state : State) (earlier : List HistoryEntry) (entry : HistoryEntry) : Type 0 where
  pub permitted : Permits (own_entries entry.pass earlier) entry.user entry.event
  pub mark : MayStand (mark_of entry.reply) entry.user entry.event (part_of state (subject_of entry.user entry.event))
  pub reply : entry.reply ≡ (step (mark_of entry.reply) entry.user entry.event state).reply
  pub flag : entry.refused ≡ is_fault (mark_of entry.reply)

-- each entry is legal after those before it
abbrev pub AreLegal : State → List HistoryEntry → List HistoryEntry → Type 0
AreLegal state earlier [] = Unit {0}
AreLegal state earlier (entry ∷ entries) =
    IsLegalEntry state earlier entry × AreLegal (state_after_entry state entry) (earlier ++ entry ∷ []) entries

-- a history is legal from an opening state
abbrev pub IsLegal : State → List HistoryEntry → Type 0
IsLegal opening history = AreLegal opening [] history

-- each step of an event that is ready keeps states valid
abbrev pub StepsKeepValid : Type 0
StepsKeepValid = (old new : State) (caller : List ℕ) (asked : Event) (reply : PlainReply) →
    IsReady asked (part_of old caller) → IsStep caller asked old reply new → IsValidState old → IsValidState new

-- what a pass's own entries permit is ready after every legal history, whatever jobs stand in the state that it begins from
abbrev pub PermittedIsReady : Type 0
PermittedIsReady = (opening : State) (history : List HistoryEntry) (pass : ℕ) (user : List ℕ) (event : Event) →
    IsValidState opening → IsLegal opening history → Permits (own_entries pass history) user event →
    IsReady event (part_of (state_after opening history) user)
