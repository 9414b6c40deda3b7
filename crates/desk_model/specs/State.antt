-- The state of the machine: one graph, an administrator or none, and lists of each user.
--   NamedGraph              a graph of a user, which stands under a name
--   JobSpec                 what a job was asked for
--   Job                     a job of a user
--   UserLists               what is kept for a user
--   Part                    the part of a user in a state: the graph, the administrator, and the user's lists
--   State                   one graph, the administrator or none, and for each user their lists
--   IsNewUser lists         nothing is kept for a user but answers of imports
--   loaded_state admin kept the state of a machine that begins with what is kept
--   part_of state user      the part of a user
--   with_part state user p  a state with another part for a user
use Rattle.std.specs.Prelude.{◌≡◌, ℕ, ℤ, Bool, if◌then◌else◌, List, [], Option}
use Rattle.std.specs.Str.{bytes_eq}
use Rattle.graph_model.specs.declared.graph.PropertyGraph.{PropertyGraph}
use Rattle.graph_model.specs.declared.change.ChangeReply.{ChangeReply}
use Rattle.graph_model.specs.declared.kept.ImportNote.{ImportNote}
use Rattle.graph_model.specs.declared.kept.Kept.{Kept}
use Rattle.graph_model.specs.Kept.{answers_of}
use Rattle.graph_model.specs.Projection.{PlainProjection}
use Rattle.graph_making.specs.declared.capture.MakeSpec.{MakeSpec}
use Rattle.graph_making.specs.Making.{PlainCapture}
use Rattle.desk_model.specs.declared.job.JobKind.{JobKind}

-- a graph that stands under a name: its version and its projection
pub record NamedGraph : Type 0 where
  pub version : ℕ
  pub graph : PlainProjection

-- what a job was asked for: to make a graph of this name. Each kind of work that jobs do has a variant.
pub data JobSpec : Type 0 where
  Make : List ℕ → MakeSpec → JobSpec

-- a job: its number, its name, its stage, what it captured when it began and what it was asked for; whether it was asked to
-- end, how many batches it has done and how many values they set, and the rows that it writes: none but while it is writing
pub record Job : Type 0 where
  pub number : ℕ
  pub name : List ℕ
  pub stage : JobKind
  pub captured : PlainCapture
  pub spec : JobSpec
  pub asked : Bool
  pub batches : ℕ
  pub count : ℕ
  pub rows : List (ℕ × ℤ)

-- what is kept for a user: named graphs by ascending name, jobs by ascending number, the answers of imports by ascending
-- id, the number of the last job and the version of the last graph
pub record UserLists : Type 0 where
  pub graphs : List (List ℕ × NamedGraph)
  pub jobs : List Job
  pub imports : List (List ℕ × ChangeReply)
  pub last_job : ℕ
  pub last_version : ℕ

-- nothing is kept yet
abbrev pub no_lists : UserLists
no_lists = record { graphs = []; jobs = []; imports = []; last_job = 0; last_version = 0 }

-- the lists of a user of whom nothing is kept but the answers of imports among these notes
abbrev pub loaded_lists : List ImportNote → List ℕ → UserLists
loaded_lists notes user = record no_lists { imports = answers_of user notes }

-- nothing is kept for a user but answers of imports
abbrev pub IsNewUser : UserLists → Type 0
IsNewUser lists = lists ≡ record no_lists { imports = lists.imports }

-- the part of a user: the graph, the administrator or none, and the user's lists
pub record Part : Type 0 where
  pub graph : PropertyGraph
  pub admin : Option (List ℕ)
  pub lists : UserLists

-- one graph, the administrator or none, and for each user their lists
pub record State : Type 0 where
  pub graph : PropertyGraph
  pub admin : Option (List ℕ)
  pub lists : List ℕ → UserLists

-- the state of a machine that begins with an administrator or none and with what is kept: its graph, and each user's answers
-- of imports
abbrev pub loaded_state : Option (List ℕ) → Kept → State
loaded_state admin kept = record { graph = kept.graph; admin = admin; lists = loaded_lists kept.imports }

-- the part of a user
abbrev pub part_of : State → List ℕ → Part
part_of state user = record { graph = state.graph; admin = state.admin; lists = state.lists user }

-- lists of users, of which one user's are others
abbrev pub lists_with : (List ℕ → UserLists) → List ℕ → UserLists → List ℕ → UserLists
lists_with all user lists other = if bytes_eq other user then lists else all other

-- a state with another part for a user; the administrator never changes
abbrev pub with_part : State → List ℕ → Part → State
with_part state user part = record state { graph = part.graph; lists = lists_with state.lists user part.lists }
