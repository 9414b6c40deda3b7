-- Which entries perform a call.
--   IsOneEvent user event entries reply    one event, or none where no memory was to be had for it
--   IsScript user call entries reply       the entries that perform a call, and what it answers
--   IsFormedCall call                      what must hold of a call alone
use Rattle.std.specs.Prelude.{◌≡◌, ℕ, List, [], ◌∷◌, None}
use Rattle.graph_model.specs.declared.refusal.Refusal.TheVariants.{Mem}
use Rattle.graph_model.specs.Change.{IsWellFormedChange}
use Rattle.desk_model.specs.declared.asked.Event.{Event}
use Rattle.desk_model.specs.declared.asked.Event.TheVariants as event
use Rattle.desk_model.specs.declared.call.Call.{Call}
use Rattle.desk_model.specs.declared.call.Call.TheVariants.{Create, Alter, StoreRows}
use Rattle.desk_model.specs.Replies.{PlainReply, Refused}
use Rattle.desk_model.specs.History.{HistoryEntry}

-- an entry performs an event for a user, with this reply
pub record Performs (user : List ℕ) (event : Event) (reply : PlainReply) (entry : HistoryEntry) : Type 0 where
  pub user_is : entry.user ≡ user
  pub event_is : entry.event ≡ event
  pub reply_is : entry.reply ≡ reply

-- one event, or none where no memory was to be had for it
abbrev pub IsOneEvent : List ℕ → Event → List HistoryEntry → PlainReply → Type 0
IsOneEvent user event [] reply = reply ≡ Refused Mem
IsOneEvent user event (entry ∷ []) reply = Performs user event reply entry
IsOneEvent user event (entry ∷ next ∷ entries) reply = ⊥

-- the entries that perform a call, and what it answers
abbrev pub IsScript : List ℕ → Call → List HistoryEntry → PlainReply → Type 0
IsScript user (Create import change) entries reply = IsOneEvent user (event.Change import change) entries reply
IsScript user (Alter change) entries reply = IsOneEvent user (event.Change None change) entries reply
IsScript user (StoreRows key labels) entries reply = IsOneEvent user (event.StoreRows key labels) entries reply

-- what must hold of a call alone: a change is well formed
abbrev pub IsFormedCall : Call → Type 0
IsFormedCall (Create import change) = IsWellFormedChange change
IsFormedCall (Alter change) = IsWellFormedChange change
IsFormedCall (StoreRows key labels) = Unit {0}
