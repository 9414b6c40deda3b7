-- The table of steps: what an event answers, and what it leaves.
--   Mark                          what befell an event: nothing, want of memory, or a fault of the keeper
--   subject_of caller event       the user on whose lists an event works: the one that it names, else the caller
--   refusal_of caller event part  why an event is refused but for want of memory and a fault: the first cause in order
--   commits event part            whether an event that isn't refused hands a change to the keeper
--   may_want_memory event part    whether want of memory may be answered
--   accepted event part           what an event does that isn't refused
--   refused_part event part       what a refused event leaves
--   part_step mark caller event p one step on the part of its subject
--   step mark caller event state  one step of the machine
--   mark_of reply                 the mark that a reply shows
--   MayStand mark caller event p  which marks may stand on an event
--   IsWellFormed event            what must hold of an event alone
--   IsReady event part            what must hold of an event in the part of its caller
--   IsPartStep, IsStep            a reply and what is left are a step's, with the mark that the reply shows
-- Each function of events has an equation for each event, so that a new one can't fall into another's.
use Rattle.std.specs.Prelude.{◌≡◌, ℕ, ℤ, nat_lt, ◌==◌, Bool, true, false, ◌||◌, not, if◌then◌else◌, IsTrue, List, [], ◌∷◌, length, codes, Option, Some, None, IsSome, Result, Ok, Err}
use Rattle.std.specs.Str.{bytes_eq}
use Rattle.std.specs.Option.{option_map, option_and_then, is_some, unwrap_or}
use Rattle.std.specs.List.{list_any, filter_map, starts_with}
use Rattle.graph_model.specs.declared.graph.Node.{Node}
use Rattle.graph_model.specs.declared.graph.PropertyGraph.{PropertyGraph}
use Rattle.graph_model.specs.declared.graph.Choice.{Choice}
use Rattle.graph_model.specs.declared.graph.Choice.TheVariants.{All, Of}
use Rattle.graph_model.specs.declared.change.Change as model
use Rattle.graph_model.specs.declared.change.ChangeReply.{ChangeReply}
use Rattle.graph_model.specs.declared.refusal.Refusal.{Refusal}
use Rattle.graph_model.specs.declared.refusal.Refusal.TheVariants.{CounterSpent, NotAdmin, StoreFault, Mem}
use Rattle.graph_model.specs.declared.refusal.Counter.TheVariants.{Imports}
use Rattle.graph_model.specs.Change.{after_change, refused_change, change_answer, IsWellFormedChange}
use Rattle.graph_model.specs.Kept.{most_imports, entry_order}
use Rattle.graph_model.specs.Lists.{first_there, placed}
use Rattle.graph_model.specs.Projection.{PlainProjection, is_among, under}
use Rattle.user_catalog.specs.Catalog.{name_taken, graphs_spent}
use Rattle.projection_spec.specs.RawArcs.{stored_value}
use Rattle.graph_making.specs.declared.capture.MakeSpec.{MakeSpec}
use Rattle.graph_making.specs.declared.capture.MakeSpec.TheVariants.{Native}
use Rattle.graph_making.specs.Making.{PlainCapture, Store, BuiltGraph}
use Rattle.desk_model.specs.declared.job.JobKind.TheVariants as kind
use Rattle.desk_model.specs.declared.asked.Event.{Event}
use Rattle.desk_model.specs.declared.asked.Event.TheVariants as event
use Rattle.desk_model.specs.declared.asked.Event.TheVariants.{Change, StoreRows, ProjectBegin, ProjectEnd, Abandon, Terminate, Exists, GraphRows, Jobs}
use Rattle.desk_model.specs.State.{Make, Job, UserLists, Part, State, part_of, with_part}
use Rattle.desk_model.specs.Jobs.{job_of, refused_job, next_job, with_job, without_job, with_asked, unknown_job, is_asked, graph_name, comes_of, refused_making, job_lines}
use Rattle.desk_model.specs.Graphs.{graph_line, chosen_lines, found_lines, next_graph, with_graph, without_graph, has_graph, refused_drop, refused_rows, graph_rows}
use Rattle.desk_model.specs.Replies as reply
use Rattle.desk_model.specs.Replies.{PlainReply, Changed, Refused}

-- what befell an event
pub data Mark : Type 0 where
  Plain : Mark
  OutOfMemory : Mark
  Fault : Mark

-- what an event answers, and the part of its subject afterwards
pub record Outcome : Type 0 where
  pub reply : PlainReply
  pub part : Part

-- ---- changes

-- the answer that is kept under an import id, where one is given
abbrev pub kept_answer : Option (List ℕ) → UserLists → Option ChangeReply
kept_answer None lists = None
kept_answer (Some id) lists = under id lists.imports

-- why no answer can be kept under an import id
abbrev pub imports_spent : Option (List ℕ) → UserLists → Option Refusal
imports_spent None lists = None
imports_spent (Some id) lists = if nat_lt (length lists.imports) most_imports then None else Some (CounterSpent Imports most_imports)

-- the lists with an answer kept under an import id, where one is given
abbrev pub with_answer : Option (List ℕ) → ChangeReply → UserLists → UserLists
with_answer None answer lists = lists
with_answer (Some id) answer lists = record lists { imports = placed entry_order (id, answer) lists.imports }

-- a change that isn't kept yet, made
abbrev pub changed : Option (List ℕ) → model.Change → Part → Outcome
changed import change part = record {
  reply = Changed (change_answer part.graph change);
  part = record part { graph = after_change part.graph change; lists = with_answer import (change_answer part.graph change) part.lists };
}

-- a change with its kept answer, or made
abbrev pub unless_kept : Option ChangeReply → Option (List ℕ) → model.Change → Part → Outcome
unless_kept None import change part = changed import change part
unless_kept (Some answer) import change part = record { reply = Changed answer; part = part }

-- why a change is refused that isn't kept
abbrev pub refusal_unless_kept : Option ChangeReply → Option (List ℕ) → model.Change → Part → Option Refusal
refusal_unless_kept None import change part = first_there (imports_spent import part.lists) (refused_change part.graph change)
refusal_unless_kept (Some answer) import change part = None

-- ---- rows of the store

-- whether a node has a chosen label; a choice of all chooses each node, also one without a label
abbrev pub chooses : Choice → Node → Bool
chooses All node = true
chooses (Of names) node = list_any (is_among names) node.labels

-- the row of a node: its id and its value, where it stores one
abbrev pub row_of : List ℕ → Node → Option (ℕ × ℤ)
row_of key node = option_map (λ value. (node.id, value)) (stored_value node.props key)

-- the row of a chosen node
abbrev pub chosen_row : List ℕ → Choice → Node → Option (ℕ × ℤ)
chosen_row key labels node = if chooses labels node then row_of key node else None

-- the rows of the chosen nodes that store a key
abbrev pub stored_rows : List ℕ → Choice → PropertyGraph → List (ℕ × ℤ)
stored_rows key labels g = filter_map (chosen_row key labels) g.nodes

-- ---- jobs that make graphs

-- a part with other lists
abbrev pub with_lists : Part → UserLists → Part
with_lists part lists = record part { lists = lists }

-- what is captured for a job that makes a graph: entries project the store's graph as it is now
abbrev pub captured_for : MakeSpec → PropertyGraph → PlainCapture
captured_for (Native spec) g = Store g

-- why no job begins that makes a graph of this name: there is one, or no room for one, or no job can begin
abbrev pub refused_begin : List ℕ → Option (List ℕ) → UserLists → Option Refusal
refused_begin graph name lists =
    first_there (name_taken graph (under graph lists.graphs)) (first_there (graphs_spent (length lists.graphs)) (refused_job name lists))

-- a job begins
abbrev pub begun : Job → Part → Outcome
begun job part = record { reply = reply.Making job.number job.name job.captured; part = with_lists part (with_job job part.lists) }

-- the job of a number ends with the graph that it makes, which stands under the job's graph name and the next version, or with
-- the refusal
abbrev pub ended_with : Result PlainProjection Refusal → ℕ → Job → Part → Outcome
ended_with (Ok graph) number job part = record {
  reply = reply.Made (graph_line (Some job.name) (graph_name job.spec) (next_graph graph part.lists));
  part = with_lists part (without_job number (with_graph (graph_name job.spec) graph part.lists));
}
ended_with (Err why) number job part = record { reply = Refused why; part = with_lists part (without_job number part.lists) }

-- the job of a number ends with what comes of it; where an event is ready there is that job
abbrev pub made_by : ℕ → Option Job → Part → Outcome
made_by number None part = record { reply = reply.Ended; part = with_lists part (without_job number part.lists) }
made_by number (Some job) part = ended_with (comes_of job) number job part

-- a job makes a graph of this capture, as this was asked for
pub record IsMaking (captured : PlainCapture) (spec : MakeSpec) (job : Job) : Type 0 where
  pub stage : job.stage ≡ kind.Making
  pub capture : job.captured ≡ captured
  pub asked_for : job.spec ≡ Make (graph_name job.spec) spec

-- there is such a job
abbrev pub IsSomeMaking : PlainCapture → MakeSpec → Option Job → Type 0
IsSomeMaking captured spec None = ⊥
IsSomeMaking captured spec (Some job) = IsMaking captured spec job

-- a name that is given to a job doesn't look like one that the machine gives
abbrev pub IsGivenName : Option (List ℕ) → Type 0
IsGivenName None = Unit {0}
IsGivenName (Some name) = starts_with ◌==◌ name (codes "job-") ≡ false

-- ---- whose lists an event works on

-- the user whom an event names, where it can name one and does
abbrev pub named_by : Event → Option (List ℕ)
named_by (Change import change) = None
named_by (StoreRows key labels) = None
named_by (ProjectBegin graph name spec) = None
named_by (ProjectEnd number built) = None
named_by (Abandon number) = None
named_by (Terminate name) = None
named_by (Exists graph) = None
named_by (event.List graph of) = of
named_by (event.Drop graph must of) = of
named_by (GraphRows graph key labels) = None
named_by Jobs = None

-- the user on whose lists an event works: the one that it names, else the caller
abbrev pub subject_of : List ℕ → Event → List ℕ
subject_of caller asked = unwrap_or (named_by asked) caller

-- whether a user is the administrator
abbrev pub is_admin : List ℕ → Option (List ℕ) → Bool
is_admin user None = false
is_admin user (Some admin) = bytes_eq user admin

-- why a caller may not name a user: it is another, and the caller isn't the administrator
abbrev pub refused_naming : List ℕ → Option (List ℕ) → Option (List ℕ) → Option Refusal
refused_naming caller admin None = None
refused_naming caller admin (Some user) = if bytes_eq user caller || is_admin caller admin then None else Some (NotAdmin user)

-- ---- the table, event by event

-- why an event is refused but for want of memory and a fault of the keeper: the first cause in order
abbrev pub refusal_of : List ℕ → Event → Part → Option Refusal
refusal_of caller (Change import change) part = refusal_unless_kept (kept_answer import part.lists) import change part
refusal_of caller (StoreRows key labels) part = None
refusal_of caller (ProjectBegin graph name spec) part = refused_begin graph name part.lists
refusal_of caller (ProjectEnd number built) part = option_and_then (refused_making part.lists) (job_of number part.lists)
refusal_of caller (Abandon number) part = None
refusal_of caller (Terminate name) part = unknown_job name part.lists
refusal_of caller (Exists graph) part = None
refusal_of caller (event.List graph of) part = refused_naming caller part.admin of
refusal_of caller (event.Drop graph must of) part = first_there (refused_naming caller part.admin of) (refused_drop graph must part.lists)
refusal_of caller (GraphRows graph key labels) part = refused_rows graph key labels (under graph part.lists.graphs)
refusal_of caller Jobs part = None

-- what an event does that isn't refused
abbrev pub accepted : Event → Part → Outcome
accepted (Change import change) part = unless_kept (kept_answer import part.lists) import change part
accepted (StoreRows key labels) part = record { reply = reply.Stored (stored_rows key labels part.graph); part = part }
accepted (ProjectBegin graph name spec) part = begun (next_job name (captured_for spec part.graph) (Make graph spec) part.lists) part
accepted (ProjectEnd number built) part = made_by number (job_of number part.lists) part
accepted (Abandon number) part = record { reply = reply.Ended; part = with_lists part (without_job number part.lists) }
accepted (Terminate name) part = record { reply = reply.Asked name; part = with_lists part (with_asked name part.lists) }
accepted (Exists graph) part = record { reply = reply.There graph (has_graph graph part.lists); part = part }
accepted (event.List graph of) part = record { reply = reply.Graphs (chosen_lines graph part.lists); part = part }
accepted (event.Drop graph must of) part =
    record { reply = reply.Graphs (found_lines graph (under graph part.lists.graphs)); part = with_lists part (without_graph graph part.lists) }
accepted (GraphRows graph key labels) part =
    record { reply = reply.Rows (graph_rows key labels (under graph part.lists.graphs)); part = part }
accepted Jobs part = record { reply = reply.JobLines (job_lines part.lists); part = part }

-- the change that an event hands to the keeper where it isn't refused: a change whose answer isn't kept
abbrev pub change_of : Event → Part → Option model.Change
change_of (Change import change) part = if is_some (kept_answer import part.lists) then None else Some change
change_of (StoreRows key labels) part = None
change_of (ProjectBegin graph name spec) part = None
change_of (ProjectEnd number built) part = None
change_of (Abandon number) part = None
change_of (Terminate name) part = None
change_of (Exists graph) part = None
change_of (event.List graph of) part = None
change_of (event.Drop graph must of) part = None
change_of (GraphRows graph key labels) part = None
change_of Jobs part = None

-- whether an event that isn't refused hands a change to the keeper
abbrev pub commits : Event → Part → Bool
commits asked part = is_some (change_of asked part)

-- whether want of memory may be answered: neither where a job ends for nothing or is asked to end, nor where an asked job ends
abbrev pub may_want_memory : Event → Part → Bool
may_want_memory (Change import change) part = true
may_want_memory (StoreRows key labels) part = true
may_want_memory (ProjectBegin graph name spec) part = true
may_want_memory (ProjectEnd number built) part = not (is_asked number part.lists)
may_want_memory (Abandon number) part = false
may_want_memory (Terminate name) part = false
may_want_memory (Exists graph) part = true
may_want_memory (event.List graph of) part = true
may_want_memory (event.Drop graph must of) part = true
may_want_memory (GraphRows graph key labels) part = true
may_want_memory Jobs part = true

-- the batches that the event's job has done: none but in a job that writes
abbrev pub batches_of : Event → Part → ℕ
batches_of (Change import change) part = 0
batches_of (StoreRows key labels) part = 0
batches_of (ProjectBegin graph name spec) part = 0
batches_of (ProjectEnd number built) part = 0
batches_of (Abandon number) part = 0
batches_of (Terminate name) part = 0
batches_of (Exists graph) part = 0
batches_of (event.List graph of) part = 0
batches_of (event.Drop graph must of) part = 0
batches_of (GraphRows graph key labels) part = 0
batches_of Jobs part = 0

-- what a refused event leaves: all as it was, but a job ends whose end is refused
abbrev pub refused_part : Event → Part → Part
refused_part (Change import change) part = part
refused_part (StoreRows key labels) part = part
refused_part (ProjectBegin graph name spec) part = part
refused_part (ProjectEnd number built) part = with_lists part (without_job number part.lists)
refused_part (Abandon number) part = part
refused_part (Terminate name) part = part
refused_part (Exists graph) part = part
refused_part (event.List graph of) part = part
refused_part (event.Drop graph must of) part = part
refused_part (GraphRows graph key labels) part = part
refused_part Jobs part = part

-- what must hold of an event alone
abbrev pub IsWellFormed : Event → Type 0
IsWellFormed (Change import change) = IsWellFormedChange change
IsWellFormed (StoreRows key labels) = Unit {0}
IsWellFormed (ProjectBegin graph name spec) = IsGivenName name
IsWellFormed (ProjectEnd number built) = Unit {0}
IsWellFormed (Abandon number) = Unit {0}
IsWellFormed (Terminate name) = Unit {0}
IsWellFormed (Exists graph) = Unit {0}
IsWellFormed (event.List graph of) = Unit {0}
IsWellFormed (event.Drop graph must of) = Unit {0}
IsWellFormed (GraphRows graph key labels) = Unit {0}
IsWellFormed Jobs = Unit {0}

-- what must hold of an event in the part of its caller: it is well formed, and a job that it names is there and in the needed
-- stage, with a graph that was made of what the job captured
abbrev pub IsReady : Event → Part → Type 0
IsReady (Change import change) part = IsWellFormed (Change import change)
IsReady (StoreRows key labels) part = Unit {0}
IsReady (ProjectBegin graph name spec) part = IsWellFormed (ProjectBegin graph name spec)
IsReady (ProjectEnd number built) part = IsSomeMaking built.from built.spec (job_of number part.lists)
IsReady (Abandon number) part = IsSome (job_of number part.lists)
IsReady (Terminate name) part = Unit {0}
IsReady (Exists graph) part = Unit {0}
IsReady (event.List graph of) part = Unit {0}
IsReady (event.Drop graph must of) part = Unit {0}
IsReady (GraphRows graph key labels) part = Unit {0}
IsReady Jobs part = Unit {0}

-- ---- one step

-- an event that no mark stands on, refused or done
abbrev pub unless_refused : Option Refusal → Event → Part → Outcome
unless_refused None asked part = accepted asked part
unless_refused (Some why) asked part = record { reply = Refused why; part = refused_part asked part }

-- one step on the part of the event's subject: want of memory leaves all as it was
abbrev pub part_step : Mark → List ℕ → Event → Part → Outcome
part_step Plain caller asked part = unless_refused (refusal_of caller asked part) asked part
part_step OutOfMemory caller asked part = record { reply = Refused Mem; part = part }
part_step Fault caller asked part = record { reply = Refused (StoreFault (batches_of asked part)); part = refused_part asked part }

-- what an event answers, and the state afterwards
pub record Answered : Type 0 where
  pub reply : PlainReply
  pub state : State

-- a state of which the part of a user came out like this
abbrev pub answered_in : State → List ℕ → Outcome → Answered
answered_in state user outcome = record { reply = outcome.reply; state = with_part state user outcome.part }

-- one step of the machine
abbrev pub step : Mark → List ℕ → Event → State → Answered
step mark caller asked state =
    answered_in state (subject_of caller asked) (part_step mark caller asked (part_of state (subject_of caller asked)))

-- which marks may stand on an event: want of memory where it may be answered, and a fault where a change is handed over
abbrev pub MayStand : Mark → List ℕ → Event → Part → Type 0
MayStand Plain caller asked part = Unit {0}
MayStand OutOfMemory caller asked part = IsTrue (may_want_memory asked part)
MayStand Fault caller asked part = IsTrue (commits asked part) × (refusal_of caller asked part ≡ None)

-- the mark that a refusal shows
abbrev pub mark_of_refusal : Refusal → Mark
mark_of_refusal Mem = OutOfMemory
mark_of_refusal (StoreFault batches) = Fault
mark_of_refusal why = Plain

-- the mark that a reply shows
abbrev pub mark_of : PlainReply → Mark
mark_of (Refused why) = mark_of_refusal why
mark_of other = Plain

-- whether a mark is a fault
abbrev pub is_fault : Mark → Bool
is_fault Plain = false
is_fault OutOfMemory = false
is_fault Fault = true

-- an event that is answered like this in one part leaves this other part: a step with the mark that the reply shows, which
-- may stand
pub record IsPartStep (caller : List ℕ) (asked : Event) (old : Part) (reply : PlainReply) (new : Part) : Type 0 where
  pub mark : MayStand (mark_of reply) caller asked old
  pub answer : reply ≡ (part_step (mark_of reply) caller asked old).reply
  pub left : new ≡ (part_step (mark_of reply) caller asked old).part

-- the same of whole states
pub record IsStep (caller : List ℕ) (asked : Event) (old : State) (reply : PlainReply) (new : State) : Type 0 where
  pub mark : MayStand (mark_of reply) caller asked (part_of old (subject_of caller asked))
  pub answer : reply ≡ (step (mark_of reply) caller asked old).reply
  pub left : new ≡ (step (mark_of reply) caller asked old).state
