-- What every machine keeps of the lists of each user.
--   IsValidLists lists    numbers and versions are those that were given, and all that is listed stands in its order
--   IsValidState state    the lists of every user are valid
use Rattle.std.specs.Prelude.{◌≡◌, ◌≢◌, ◌⊎◌, ℕ, ◌<◌, ◌≤◌, List, length, Some, None}
use Rattle.std.specs.List.{AllByRecursion}
use Rattle.std.specs.declared.cmp.Ordering.TheVariants.{Less}
use Rattle.graph_model.specs.declared.change.ChangeReply.{ChangeReply}
use Rattle.graph_model.specs.Kept.{most_imports, entry_order}
use Rattle.graph_model.specs.Lists.{Pairwise}
use Rattle.user_catalog.specs.Catalog.{ComesBefore}
use Rattle.desk_model.specs.State.{NamedGraph, Job, UserLists, State}
use Rattle.desk_model.specs.Jobs.{next_job_name}
use Rattle.desk_model.specs.Step.{IsGivenName}

-- a job has a lesser number than another
abbrev pub HasLesserNumber : Job → Job → Type 0
HasLesserNumber a b = a.number < b.number

-- two jobs have different names
abbrev pub HasOtherName : Job → Job → Type 0
HasOtherName a b = a.name ≢ b.name

-- a job has a name that was given, which doesn't look like one that the machine gives, or the one that the machine gave
abbrev pub HasOwnName : Job → Type 0
HasOwnName job = IsGivenName (Some job.name) ⊎ (job.name ≡ next_job_name None job.number)

-- the number of a job was given: it is at most the last one
abbrev pub IsNumberGiven : ℕ → Job → Type 0
IsNumberGiven last job = job.number ≤ last

-- two graphs have different versions
abbrev pub HasOtherVersion : List ℕ × NamedGraph → List ℕ × NamedGraph → Type 0
HasOtherVersion a b = a.1.version ≢ b.1.version

-- the version of a graph was given: it is at most the last one
abbrev pub IsVersionGiven : ℕ → List ℕ × NamedGraph → Type 0
IsVersionGiven last entry = entry.1.version ≤ last

-- an answer stands under a lesser import id than another
abbrev pub HasLesserId : List ℕ × ChangeReply → List ℕ × ChangeReply → Type 0
HasLesserId a b = entry_order a b ≡ Less

-- job numbers ascend and are at most the last one given, and job names differ, each given or made of its number; graphs ascend by name, under distinct versions
-- at most the last one given; answers of imports ascend by id, and are no more than may be kept
pub record IsValidLists (lists : UserLists) : Type 0 where
  pub numbers : Pairwise HasLesserNumber lists.jobs
  pub given : AllByRecursion (IsNumberGiven lists.last_job) lists.jobs
  pub names : Pairwise HasOtherName lists.jobs
  pub own_names : AllByRecursion HasOwnName lists.jobs
  pub graphs : Pairwise ComesBefore lists.graphs
  pub versions : Pairwise HasOtherVersion lists.graphs
  pub issued : AllByRecursion (IsVersionGiven lists.last_version) lists.graphs
  pub imports : Pairwise HasLesserId lists.imports
  pub few : length lists.imports ≤ most_imports

-- the lists of every user are valid
abbrev pub IsValidState : State → Type 0
IsValidState state = (user : List ℕ) → IsValidLists (state.lists user)
