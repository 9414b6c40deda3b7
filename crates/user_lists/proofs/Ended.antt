-- How jobs end that make graphs.
use Rattle.std.proofs.Common.{◌≡◌, ℕ, ◌+◌, Bool, true, false, cond, not, List, [], ◌∷◌, length, get_or, Option, Some, None, Result, Ok, Err, refl, sym, ap, ◌∙◌, subst}
use Rattle.std.specs.List.{find, position, remove}
use Rattle.std.specs.Option.{option_map, option_map_or, option_and_then}
use Rattle.std.proofs.lemmas.Bool.{cond-true, cond-false, true≢false}
use Rattle.graph_model.specs.declared.change.ChangeReply.{ChangeReply}
use Rattle.graph_model.specs.declared.refusal.Refusal.{Refusal}
use Rattle.graph_model.specs.declared.refusal.Refusal.TheVariants.{Mem, Terminated}
use Rattle.graph_model.specs.Lists.{first_there}
use Rattle.graph_model.specs.Projection.{PlainProjection, under}
use Rattle.graph_model.specs.Refusals.{UnlessMem}
use Rattle.csr_columns.specs.declared.parts.Parts.{Parts}
use Rattle.csr_columns.specs.Plain.{plain}
use Rattle.user_catalog.specs.declared.entry.Entry.{Entry}
use Rattle.user_catalog.specs.Catalog.{NamedGraphs, inserted, refused_graph, refused_insert, after_insert, next_entry}
use Rattle.user_catalog.proofs.Mapped.{inserted-mapped, refused_graph-mapped}
use Rattle.graph_making.specs.Making.{BuiltGraph, PlainCapture, made_of}
use Rattle.desk_model.specs.declared.asked.Event.TheVariants.{ProjectEnd}
use Rattle.desk_model.specs.declared.lines.GraphLine.{GraphLine}
use Rattle.desk_model.specs.Replies.{Made, Refused}
use Rattle.desk_model.specs.State.{Job, JobSpec, Make, NamedGraph, UserLists}
use Rattle.desk_model.specs.Jobs.{is_numbered, job_of, jobs_without, without_job, is_asked, was_asked, graph_name, comes_of, made_for, refusal_in, termination, refused_making}
use Rattle.desk_model.specs.Graphs.{graph_line, next_graph, with_graph}
use Rattle.desk_model.specs.History.{is_memory}
use Rattle.desk_model.specs.Step.{IsMaking, IsSomeMaking, refusal_of, ended_with, made_by}
use Rattle.user_lists.specs.Lists.{named, shown}
use Rattle.user_lists.specs.Steps.{IsListStep, part_with}
use Rattle.user_lists.proofs.Steps.{IsPlain, step-done, step-refused, step-memory}
use Rattle.user_lists.proofs.Refusals.{making-plain}
use Rattle.user_lists.proofs.JobPlaces.{first_of, find-at, without-at, nowhere}

-- the job of a number is the one at its place
pub job-there : (lists : UserLists) (number : ℕ) (jobs : List Job) (place : ℕ) (d : Job) → lists.jobs ≡ jobs → position (is_numbered number) jobs ≡ Some place → job_of number lists ≡ Some (get_or jobs place d)
job-there lists number jobs place d are found =
    ap (find (is_numbered number)) are ∙ find-at (is_numbered number) jobs place d (first_of (is_numbered number) jobs place d found)

pub no-job : (lists : UserLists) (number : ℕ) (jobs : List Job) → lists.jobs ≡ jobs → position (is_numbered number) jobs ≡ None → job_of number lists ≡ None
no-job lists number jobs are none = ap (find (is_numbered number)) are ∙ nowhere (is_numbered number) jobs none

pub built-nowhere : (built : BuiltGraph) (found : Option Job) → found ≡ None → IsSomeMaking built.from built.spec found → ⊥
built-nowhere built found none is = subst (IsSomeMaking built.from built.spec) none is

pub built-there : (built : BuiltGraph) (found : Option Job) (job : Job) → found ≡ Some job → IsSomeMaking built.from built.spec found → IsMaking built.from built.spec job
built-there built found job there is = subst (IsSomeMaking built.from built.spec) there is

-- what comes of a job is what was made of its capture
pub comes-built : (built : BuiltGraph) (job : Job) → IsMaking built.from built.spec job → comes_of job ≡ made_of built.from built.spec
comes-built built job is =
    ap (made_for job.captured) is.asked_for ∙ ap (λ captured. made_for captured (Make (graph_name job.spec) built.spec)) is.capture

pub asked-there : (lists : UserLists) (number : ℕ) (job : Job) → job_of number lists ≡ Some job → is_asked number lists ≡ job.asked
asked-there lists number job there = ap (λ (found : Option Job). option_map_or was_asked found false) there

-- ---- refusals

found-plain : (lists : UserLists) (found : Option Job) → IsPlain (option_and_then (refused_making lists) found)
found-plain lists None = tt
found-plain lists (Some job) = making-plain lists job

-- the end of a job is refused
pub end-refused : (lists new : UserLists) (number : ℕ) (built : BuiltGraph) (job : Job) (why : Refusal) → job_of number lists ≡ Some job → refused_making lists job ≡ Some why → new ≡ without_job number lists → IsListStep (ProjectEnd number built) lists (Refused why) new
end-refused lists new number built job why there refused left s free =
    step-refused s.caller (ProjectEnd number built) (part_with s lists) (part_with s new) why (found-plain lists (job_of number lists))
    (ap (option_and_then (refused_making lists)) there ∙ refused) (ap (part_with s) left)

termination-asked : (job : Job) → job.asked ≡ true → termination job ≡ Some (Terminated job.batches)
termination-asked job asked = cond-true job.asked (Some (Terminated job.batches)) None asked

termination-going : (job : Job) → job.asked ≡ false → termination job ≡ None
termination-going job going = cond-false job.asked (Some (Terminated job.batches)) None going

pub refused-asked : (lists : UserLists) (job : Job) → job.asked ≡ true → refused_making lists job ≡ Some (Terminated job.batches)
refused-asked lists job asked =
    ap (λ (t : Option Refusal). first_there t (first_there (refusal_in (comes_of job)) (refused_graph (graph_name job.spec) lists.graphs lists.last_version))) (termination-asked job asked)

pub refused-making : (lists : UserLists) (job : Job) (why : Refusal) → job.asked ≡ false → comes_of job ≡ Err why → refused_making lists job ≡ Some why
refused-making lists job why going made =
    let graph = refused_graph (graph_name job.spec) lists.graphs lists.last_version in
    ap (λ (t : Option Refusal). first_there t (first_there (refusal_in (comes_of job)) graph)) (termination-going job going)
    ∙ ap (λ (m : Result PlainProjection Refusal). first_there (refusal_in m) graph) made

pub refused-name : (lists : UserLists) (job : Job) (made : PlainProjection) (why : Option Refusal) → job.asked ≡ false → comes_of job ≡ Ok made → refused_graph (graph_name job.spec) lists.graphs lists.last_version ≡ why → refused_making lists job ≡ why
refused-name lists job made why going comes refused =
    let graph = refused_graph (graph_name job.spec) lists.graphs lists.last_version in
    ap (λ (t : Option Refusal). first_there t (first_there (refusal_in (comes_of job)) graph)) (termination-going job going)
    ∙ ap (λ (m : Result PlainProjection Refusal). first_there (refusal_in m) graph) comes
    ∙ refused

-- memory was wanting for the end of a job that wasn't asked to end
pub end-memory : (lists : UserLists) (number : ℕ) (built : BuiltGraph) → is_asked number lists ≡ false → IsListStep (ProjectEnd number built) lists (Refused Mem) lists
end-memory lists number built going s free = step-memory s.caller (ProjectEnd number built) (part_with s lists) (ap not going)

-- a refusal is want of memory, or it isn't
pub memory-is : (why : Refusal) → is_memory why ≡ true → why ≡ Mem
memory-is Mem is = refl
memory-is other is = absurd (true≢false (sym is))

pub not-memory : (why : Refusal) (P : Type 0) → is_memory why ≡ false → UnlessMem why P → P
not-memory Mem P not holds = absurd (true≢false not)
not-memory other P not holds = holds

-- ---- graphs that are kept

-- a job ends with its graph
pub end-made : (lists new : UserLists) (number : ℕ) (built : BuiltGraph) (job : Job) (made : PlainProjection) (line : GraphLine) → job_of number lists ≡ Some job → job.asked ≡ false → comes_of job ≡ Ok made → refused_graph (graph_name job.spec) lists.graphs lists.last_version ≡ None → line ≡ graph_line (Some job.name) (graph_name job.spec) (next_graph made lists) → new ≡ without_job number (with_graph (graph_name job.spec) made lists) → IsListStep (ProjectEnd number built) lists (Made line) new
end-made lists new number built job made line there going comes allowed told left s free =
    let old = part_with s lists in
    let there_of = ap (λ (found : Option Job). (made_by number found old)) there ∙ ap (λ (m : Result PlainProjection Refusal). ended_with m number job old) comes in
    step-done s.caller (ProjectEnd number built) old (part_with s new) (Made line)
    (ap (option_and_then (refused_making lists)) there ∙ refused-name lists job made None going comes allowed) refl
    (ap Made told ∙ sym (ap (λ outcome. outcome.reply) there_of))
    (ap (part_with s) left ∙ sym (ap (λ outcome. outcome.part) there_of))

-- the lists afterwards, by what is kept
pub made-shown : (catalog : NamedGraphs) (jobs : List Job) (imports : List (List ℕ × ChangeReply)) (last : ℕ) (lists : UserLists) (number : ℕ) (name : List ℕ) (parts : Parts) (left : List Job) → shown catalog jobs imports last ≡ lists → left ≡ jobs_without number jobs → shown (after_insert catalog name parts) left imports last ≡ without_job number (with_graph name (plain parts) lists)
made-shown catalog jobs imports last lists number name parts left is goes =
    ap (λ (js : List Job). shown (after_insert catalog name parts) js imports last) goes
    ∙ ap (λ (graphs : List (List ℕ × NamedGraph)). record (shown (after_insert catalog name parts) (jobs_without number jobs) imports last) { graphs = graphs })
    (inserted-mapped named name (next_entry catalog parts) catalog.entries)
    ∙ ap (λ (l : UserLists). without_job number (with_graph name (plain parts) l)) is

-- why a graph can't be kept, by what is kept
pub refused-shown : (catalog : NamedGraphs) (jobs : List Job) (imports : List (List ℕ × ChangeReply)) (last : ℕ) (lists : UserLists) (name : List ℕ) (why : Option Refusal) → shown catalog jobs imports last ≡ lists → refused_insert catalog name ≡ why → refused_graph name lists.graphs lists.last_version ≡ why
refused-shown catalog jobs imports last lists name why is refused =
    ap (λ (l : UserLists). refused_graph name l.graphs l.last_version) (sym is) ∙ refused_graph-mapped named name catalog.entries catalog.last ∙ refused

-- jobs without one, by what is kept
pub jobs-shown : (catalog : NamedGraphs) (jobs : List Job) (imports : List (List ℕ × ChangeReply)) (last : ℕ) (lists : UserLists) (number : ℕ) (left : List Job) → shown catalog jobs imports last ≡ lists → left ≡ jobs_without number jobs → shown catalog left imports last ≡ without_job number lists
jobs-shown catalog jobs imports last lists number left is goes =
    ap (λ (js : List Job). shown catalog js imports last) goes ∙ ap (without_job number) is

-- the jobs that are left at a place
pub left-at : (number : ℕ) (jobs : List Job) (place : ℕ) (d : Job) → position (is_numbered number) jobs ≡ Some place → remove jobs place ≡ jobs_without number jobs
left-at number jobs place d found = sym (without-at number jobs place d (first_of (is_numbered number) jobs place d found))

pub comes-there : (found : Option Job) (job : Job) (made : Result PlainProjection Refusal) → found ≡ Some job → option_map comes_of found ≡ Some made → comes_of job ≡ made
comes-there found job made there comes = let same : Some (comes_of job) ≡ Some made = sym (ap (option_map comes_of) there) ∙ comes in cc
