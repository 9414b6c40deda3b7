-- What of a history bears on one user.
--   Apart                         an event of the user with its mark, a change that another committed, or a drop of a graph of
--                                 the user by another
--   committed mark caller e part  the change that a step makes of the graph, where it makes one
--   dropped mark caller e part    the name of the graph that a step drops, where it drops one
--   apart_for opening history u   all that bears on a user, in the history's order
--   replay user part list         the replies of a user, from the user's part and what bears on the user
--   replies_of user history       the replies of a user
use Rattle.std.specs.Prelude.{◌≡◌, ◌≢◌, ℕ, Bool, if◌then◌else◌, List, [], ◌∷◌, ◌++◌, Option, Some, None}
use Rattle.std.specs.Str.{bytes_eq}
use Rattle.graph_model.specs.declared.change.Change as model
use Rattle.graph_model.specs.declared.refusal.Refusal.{Refusal}
use Rattle.graph_model.specs.Change.{after_change}
use Rattle.desk_model.specs.declared.asked.Event.{Event}
use Rattle.desk_model.specs.declared.asked.Event.TheVariants as event
use Rattle.desk_model.specs.declared.asked.Event.TheVariants.{Change, StoreRows, ProjectBegin, ProjectEnd, Abandon, Terminate, Exists, GraphRows, Jobs}
use Rattle.desk_model.specs.State.{Part, State, part_of}
use Rattle.desk_model.specs.Graphs.{without_graph}
use Rattle.desk_model.specs.Replies.{PlainReply}
use Rattle.desk_model.specs.Step.{Mark, Plain, OutOfMemory, Fault, named_by, subject_of, refusal_of, change_of, part_step, step, mark_of, with_lists}
use Rattle.desk_model.specs.History.{HistoryEntry, state_after_entry, IsLegal, IsLegalEntry}

-- what bears on a user: an event of the user with its mark, a change that another committed, or a drop of the graph of a name
-- by another
pub data Apart : Type 0 where
  Own : Event → Mark → Apart
  Committed : model.Change → Apart
  Dropped : List ℕ → Apart

-- something, where an event isn't refused
abbrev pub unless_why : {A : Type 0} → Option Refusal → Option A → Option A
unless_why None found = found
unless_why (Some why) found = None

-- the change that a step makes of the graph, where it makes one
abbrev pub committed : Mark → List ℕ → Event → Part → Option model.Change
committed Plain caller asked part = unless_why (refusal_of caller asked part) (change_of asked part)
committed OutOfMemory caller asked part = None
committed Fault caller asked part = None

-- the name of the graph that an event asks to be dropped
abbrev pub drop_of : Event → Option (List ℕ)
drop_of (Change import change) = None
drop_of (StoreRows key labels) = None
drop_of (ProjectBegin graph name spec) = None
drop_of (ProjectEnd number built) = None
drop_of (Abandon number) = None
drop_of (Terminate name) = None
drop_of (Exists graph) = None
drop_of (event.List graph of) = None
drop_of (event.Drop graph must of) = Some graph
drop_of (GraphRows graph key labels) = None
drop_of Jobs = None

-- the name of the graph that a step drops, where it drops one
abbrev pub dropped : Mark → List ℕ → Event → Part → Option (List ℕ)
dropped Plain caller asked part = unless_why (refusal_of caller asked part) (drop_of asked)
dropped OutOfMemory caller asked part = None
dropped Fault caller asked part = None

-- ---- what bears on a user

-- a change that was committed, where one was
abbrev pub of_change : Option model.Change → List Apart
of_change None = []
of_change (Some change) = Committed change ∷ []

-- a drop of a graph of a user, where there was one and it was of this user
abbrev pub of_drop : Bool → Option (List ℕ) → List Apart
of_drop own None = []
of_drop own (Some graph) = if own then Dropped graph ∷ [] else []

-- what an entry of another bears on a user
abbrev pub of_other : State → HistoryEntry → List ℕ → List Apart
of_other state entry user =
    of_change (committed (mark_of entry.reply) entry.user entry.event (part_of state (subject_of entry.user entry.event)))
    ++ of_drop (bytes_eq (subject_of entry.user entry.event) user) (dropped (mark_of entry.reply) entry.user entry.event (part_of state (subject_of entry.user entry.event)))

-- what an entry bears on a user
abbrev pub of_entry : State → HistoryEntry → List ℕ → List Apart
of_entry state entry user =
    if bytes_eq entry.user user then Own entry.event (mark_of entry.reply) ∷ [] else of_other state entry user

-- all that bears on a user, in the history's order
abbrev pub apart_for : State → List HistoryEntry → List ℕ → List Apart
apart_for opening [] user = []
apart_for opening (entry ∷ entries) user = of_entry opening entry user ++ apart_for (state_after_entry opening entry) entries user

-- ---- the replies of a user

-- the replies of a user, from the user's part and what bears on the user
abbrev pub replay : List ℕ → Part → List Apart → List PlainReply
replay user part [] = []
replay user part (Own asked mark ∷ rest) =
    (part_step mark user asked part).reply ∷ replay user (part_step mark user asked part).part rest
replay user part (Committed change ∷ rest) = replay user (record part { graph = after_change part.graph change }) rest
replay user part (Dropped graph ∷ rest) = replay user (with_lists part (without_graph graph part.lists)) rest

-- the replies of a user in a history
abbrev pub replies_of : List ℕ → List HistoryEntry → List PlainReply
replies_of user [] = []
replies_of user (entry ∷ entries) = if bytes_eq entry.user user then entry.reply ∷ replies_of user entries else replies_of user entries

-- the replies of a user who isn't the administrator are those that are replayed from the user's opening part and what bears on
-- the user: no other user's catalog or jobs have a part in them
abbrev pub RepliesAreReplayed : Type 0
RepliesAreReplayed = (opening : State) (history : List HistoryEntry) (user : List ℕ) →
    opening.admin ≢ Some user → IsLegal opening history →
    replies_of user history ≡ replay user (part_of opening user) (apart_for opening history user)

-- the reply to an event that names no other user is made of the caller's part, the event and the mark, for the administrator too
abbrev pub RepliesAreOwn : Type 0
RepliesAreOwn = (state : State) (mark : Mark) (caller : List ℕ) (asked : Event) → subject_of caller asked ≡ caller →
    (step mark caller asked state).reply ≡ (part_step mark caller asked (part_of state caller)).reply

-- an entry leaves the lists of all users but its subject
abbrev pub OthersStay : Type 0
OthersStay = (state : State) (entry : HistoryEntry) (user : List ℕ) → user ≢ subject_of entry.user entry.event →
    (state_after_entry state entry).lists user ≡ state.lists user
