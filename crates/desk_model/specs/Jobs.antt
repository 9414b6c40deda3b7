-- Jobs of a user: how they begin, are asked to end, and end.
--   job_of number jobs              the job of a number
--   refused_job name lists          why no job can begin: the first cause in order
--   next_job_name name number       the name of a job
--   with_job name job lists         the lists with one more job, under the next number
--   without_job number lists        the lists without the job of a number
--   with_asked name lists           the lists with a job that is asked to end
--   comes_of job                    the graph that a job makes, or why there is none
--   refused_making job lists        why a job's graph isn't kept: the first cause in order
--   job_lines lists                 what is told of each job
use Rattle.std.specs.Prelude.{ℕ, ◌+◌, ◌==◌, nat_lt, Bool, true, false, if◌then◌else◌, List, [], ◌∷◌, ◌++◌, length, map, find, Option, Some, None, Result, Ok, Err, codes, decimal}
use Rattle.std.specs.Str.{bytes_eq}
use Rattle.std.specs.Option.{option_map_or}
use Rattle.std.specs.List.{list_any}
use Rattle.graph_model.specs.declared.refusal.Refusal.{Refusal}
use Rattle.graph_model.specs.declared.refusal.Refusal.TheVariants.{JobExists, NoSuchJob, TooManyJobs, CounterSpent, Terminated}
use Rattle.graph_model.specs.declared.refusal.Counter.TheVariants.{Jobs}
use Rattle.graph_model.specs.Lists.{first_there}
use Rattle.graph_model.specs.Projection.{PlainProjection}
use Rattle.user_catalog.specs.Catalog.{refused_graph}
use Rattle.graph_making.specs.Making.{PlainCapture, made_of}
use Rattle.desk_model.specs.declared.job.JobKind.TheVariants.{Making}
use Rattle.desk_model.specs.declared.lines.JobLine.{JobLine}
use Rattle.desk_model.specs.State.{JobSpec, Make, Job, UserLists}

-- the most jobs of a user at one time
abbrev pub most_jobs : ℕ
most_jobs = 16

-- the greatest number of a job
abbrev pub greatest_job : ℕ
greatest_job = 4294967295

-- ---- finding

-- whether a job has a number, and whether it has a name
abbrev pub is_numbered : ℕ → Job → Bool
is_numbered number job = job.number == number

abbrev pub is_job_named : List ℕ → Job → Bool
is_job_named name job = bytes_eq job.name name

-- the job of a number
abbrev pub job_of : ℕ → UserLists → Option Job
job_of number lists = find (is_numbered number) lists.jobs

-- ---- beginning

-- why a name can't be given to a job: there is a job of it
abbrev pub job_taken : Option (List ℕ) → List Job → Option Refusal
job_taken None jobs = None
job_taken (Some name) jobs = if list_any (is_job_named name) jobs then Some (JobExists name) else None

-- why there is no room for a job: there are as many as a user may have
abbrev pub jobs_spent : List Job → Option Refusal
jobs_spent jobs = if nat_lt (length jobs) most_jobs then None else Some (TooManyJobs most_jobs)

-- why there is no number for a job: the greatest one was given
abbrev pub numbers_spent : ℕ → Option Refusal
numbers_spent last = if nat_lt last greatest_job then None else Some (CounterSpent Jobs greatest_job)

-- why no job can begin, with this name where one is given: the first cause in order
abbrev pub refused_job : Option (List ℕ) → UserLists → Option Refusal
refused_job name lists = first_there (job_taken name lists.jobs) (first_there (jobs_spent lists.jobs) (numbers_spent lists.last_job))

-- the name of a job: the one that is given, else job- and its number
abbrev pub next_job_name : Option (List ℕ) → ℕ → List ℕ
next_job_name None number = codes "job-" ++ decimal number
next_job_name (Some name) number = name

-- a job that makes a graph, as it begins
abbrev pub new_job : ℕ → List ℕ → PlainCapture → JobSpec → Job
new_job number name captured spec = record {
  number = number;
  name = name;
  stage = Making;
  captured = captured;
  spec = spec;
  asked = false;
  batches = 0;
  count = 0;
  rows = [];
}

-- the next job that makes a graph
abbrev pub next_job : Option (List ℕ) → PlainCapture → JobSpec → UserLists → Job
next_job name captured spec lists = new_job (lists.last_job + 1) (next_job_name name (lists.last_job + 1)) captured spec

-- the lists with one more job, under the next number
abbrev pub with_job : Job → UserLists → UserLists
with_job job lists = record lists { jobs = lists.jobs ++ job ∷ []; last_job = lists.last_job + 1 }

-- ---- ending

-- jobs without the one of a number
abbrev pub jobs_without : ℕ → List Job → List Job
jobs_without number [] = []
jobs_without number (job ∷ jobs) = if is_numbered number job then jobs else job ∷ jobs_without number jobs

-- the lists without the job of a number
abbrev pub without_job : ℕ → UserLists → UserLists
without_job number lists = record lists { jobs = jobs_without number lists.jobs }

-- a job that is asked to end
abbrev pub asked_to_end : Job → Job
asked_to_end job = record job { asked = true }

-- jobs of which the one of a name is asked to end
abbrev pub jobs_asked : List ℕ → List Job → List Job
jobs_asked name [] = []
jobs_asked name (job ∷ jobs) = if is_job_named name job then asked_to_end job ∷ jobs else job ∷ jobs_asked name jobs

-- the lists with the job of a name asked to end
abbrev pub with_asked : List ℕ → UserLists → UserLists
with_asked name lists = record lists { jobs = jobs_asked name lists.jobs }

-- why no job of a name can be asked to end: there is none
abbrev pub unknown_job : List ℕ → UserLists → Option Refusal
unknown_job name lists = if list_any (is_job_named name) lists.jobs then None else Some (NoSuchJob name)

-- whether a job was asked to end
abbrev pub was_asked : Job → Bool
was_asked job = job.asked

-- whether the job of a number was asked to end
abbrev pub is_asked : ℕ → UserLists → Bool
is_asked number lists = option_map_or was_asked (job_of number lists) false

-- ---- the graph that a job makes

-- the name of the graph that a job makes
abbrev pub graph_name : JobSpec → List ℕ
graph_name (Make name spec) = name

-- what comes of a capture and what a job was asked for
abbrev pub made_for : PlainCapture → JobSpec → Result PlainProjection Refusal
made_for captured (Make name spec) = made_of captured spec

-- the graph that a job makes of what it captured, or why there is none
abbrev pub comes_of : Job → Result PlainProjection Refusal
comes_of job = made_for job.captured job.spec

-- why a job came to nothing
abbrev pub refusal_in : Result PlainProjection Refusal → Option Refusal
refusal_in (Ok graph) = None
refusal_in (Err why) = Some why

-- why a job does no more: it was asked to end
abbrev pub termination : Job → Option Refusal
termination job = if job.asked then Some (Terminated job.batches) else None

-- why the graph that a job makes isn't kept: the job was asked to end, there is no such graph, or it can't be kept now under
-- its name; the first cause in order
abbrev pub refused_making : UserLists → Job → Option Refusal
refused_making lists job =
    first_there (termination job) (first_there (refusal_in (comes_of job)) (refused_graph (graph_name job.spec) lists.graphs lists.last_version))

-- ---- telling

-- what is told of a job
abbrev pub job_line : Job → JobLine
job_line job = record { name = job.name; kind = job.stage; asked = job.asked; batches = job.batches }

-- what is told of each job
abbrev pub job_lines : UserLists → List JobLine
job_lines lists = map job_line lists.jobs
