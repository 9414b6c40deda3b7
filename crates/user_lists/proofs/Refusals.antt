-- What the beginning and the end of a job that makes a graph are refused for shows no mark.
use Rattle.std.proofs.Common.{◌≡◌, ℕ, ℤ, Bool, true, false, cond, nat_lt, nat_le, List, [], ◌∷◌, length, map, sum_by, Option, Some, None, Result, Ok, Err, refl, sym, ap, ◌∙◌}
use Rattle.std.specs.List.{list_any}
use Rattle.graph_model.specs.declared.refusal.Refusal.{Refusal}
use Rattle.graph_model.specs.declared.refusal.Refusal.TheVariants.{NoSuchLabel, NoSuchType, NoSuchProperty, Full, TooManyGraphs, TooManyJobs, CounterSpent, JobExists, Terminated}
use Rattle.graph_model.specs.declared.refusal.Quantity.TheVariants.{Arcs}
use Rattle.graph_model.specs.declared.refusal.Counter.TheVariants.{Jobs, Versions}
use Rattle.graph_model.specs.declared.graph.PropertyGraph.{PropertyGraph}
use Rattle.graph_model.specs.Known.{knows_label, knows_type, knows_node_key, knows_rel_key}
use Rattle.graph_model.specs.Lists.{first_there}
use Rattle.graph_model.specs.Projection.{PlainProjection, ProjectedType, most_arcs, type_arc_count, under}
use Rattle.projection_spec.specs.declared.arcs.Grouped.{Grouped}
use Rattle.projection_spec.specs.declared.entries.NodeEntry.{NodeEntry}
use Rattle.projection_spec.specs.declared.entries.NodeProp.{NodeProp}
use Rattle.projection_spec.specs.declared.entries.RelProp.{RelProp}
use Rattle.projection_spec.specs.Fields.{RelFields, SpecFields}
use Rattle.projection_spec.specs.RawArcs.{raw_arcs}
use Rattle.projection_spec.specs.KeptArcs.{SumOut, kept_arcs}
use Rattle.projection_spec.specs.NativeProjection.{first_refused, unknown_label, unknown_type, unknown_key, unknown_node_key, unknown_rel_key, refused_label, refused_type, refused_node_keys, refused_rel_prop, refused_rel_keys, refused_names, type_of, before_types, projected_types, within_limit, unless_refused, projection_with, projected}
use Rattle.user_catalog.specs.Catalog.{name_taken, graphs_spent, versions_spent, refused_graph, most_graphs, greatest_version}
use Rattle.graph_making.specs.declared.capture.MakeSpec.{MakeSpec}
use Rattle.graph_making.specs.declared.capture.MakeSpec.TheVariants.{Native}
use Rattle.graph_making.specs.Making.{PlainCapture, Store, made_of}
use Rattle.desk_model.specs.State.{Job, JobSpec, Make, UserLists, NamedGraph}
use Rattle.desk_model.specs.Jobs.{job_taken, jobs_spent, numbers_spent, refused_job, is_job_named, most_jobs, greatest_job, made_for, comes_of, refusal_in, termination, refused_making, graph_name}
use Rattle.desk_model.specs.Step.{Plain, mark_of_refusal, refused_begin}
use Rattle.user_lists.proofs.Steps.{IsPlain, first-plain, plain-if, plain-unless}

-- ---- what a specification is refused for

first_refused-plain : {A : Type 0} (refused : A → Option Refusal) → ((x : A) → IsPlain (refused x)) → (xs : List A) → IsPlain (first_refused refused xs)
first_refused-plain refused plain [] = tt
first_refused-plain refused plain (x ∷ xs) = first-plain (refused x) (first_refused refused xs) (plain x) (first_refused-plain refused plain xs)

label-plain : (g : PropertyGraph) (label : Option (List ℕ)) → IsPlain (unknown_label g label)
label-plain g None = tt
label-plain g (Some label) = plain-if (knows_label g label) (NoSuchLabel label) refl

type-plain : (g : PropertyGraph) (type : Option (List ℕ)) → IsPlain (unknown_type g type)
type-plain g None = tt
type-plain g (Some type) = plain-if (knows_type g type) (NoSuchType type) refl

key-plain : (known : Bool) (default : Option ℤ) (key : List ℕ) → IsPlain (unknown_key known default key)
key-plain known None key = plain-if known (NoSuchProperty key) refl
key-plain known (Some default) key = tt

rel_key-plain : (g : PropertyGraph) (key : Option (List ℕ)) (default : Option ℤ) → IsPlain (unknown_rel_key g key default)
rel_key-plain g None default = tt
rel_key-plain g (Some key) default = key-plain (knows_rel_key g key) default key

names-plain : (spec : SpecFields) (g : PropertyGraph) → IsPlain (refused_names spec g)
names-plain spec g =
    let labels = first_refused-plain (refused_label g) (λ (entry : NodeEntry). label-plain g entry.store) spec.nodes in
    let types = first_refused-plain (refused_type g) (λ (entry : RelFields). type-plain g entry.store) spec.rels in
    let node_keys = first_refused-plain (refused_node_keys g) (λ (entry : NodeEntry). first_refused-plain (unknown_node_key g) (λ (prop : NodeProp). key-plain (knows_node_key g prop.store) prop.default prop.store) entry.props) spec.nodes in
    let rel_keys = first_refused-plain (refused_rel_keys g) (λ (entry : RelFields). first_refused-plain (refused_rel_prop g) (λ (prop : RelProp). rel_key-plain g prop.store prop.default) entry.props) spec.rels in
    first-plain (first_refused (refused_label g) spec.nodes)
    (first_there (first_refused (refused_type g) spec.rels) (first_there (first_refused (refused_node_keys g) spec.nodes) (first_refused (refused_rel_keys g) spec.rels)))
    labels
    (first-plain (first_refused (refused_type g) spec.rels) (first_there (first_refused (refused_node_keys g) spec.nodes) (first_refused (refused_rel_keys g) spec.rels))
    types
    (first-plain (first_refused (refused_node_keys g) spec.nodes) (first_refused (refused_rel_keys g) spec.rels) node_keys rel_keys))

-- what there is, or a refusal that shows no mark
abbrev IsPlainResult : {A : Type 0} → Result A Refusal → Type 0
IsPlainResult (Ok x) = Unit {0}
IsPlainResult (Err why) = mark_of_refusal why ≡ Plain

type_of-plain : (entry : RelFields) (arcs : Result (List Grouped) SumOut) → IsPlainResult (type_of entry arcs)
type_of-plain entry (Ok arcs) = tt
type_of-plain entry (Err out) = refl

before-plain : (type : Result ProjectedType Refusal) (types : Result (List ProjectedType) Refusal) → IsPlainResult type → IsPlainResult types → IsPlainResult (before_types type types)
before-plain (Err why) types p ps = p
before-plain (Ok type) (Ok types) p ps = tt
before-plain (Ok type) (Err why) p ps = ps

types-plain : (g : PropertyGraph) (nodes : List NodeEntry) (entries : List RelFields) → IsPlainResult (projected_types g nodes entries)
types-plain g nodes [] = tt
types-plain g nodes (entry ∷ entries) =
    before-plain (type_of entry (kept_arcs entry (raw_arcs g nodes entry))) (projected_types g nodes entries)
    (type_of-plain entry (kept_arcs entry (raw_arcs g nodes entry))) (types-plain g nodes entries)

limit-plain : (spec : SpecFields) (g : PropertyGraph) (types : Result (List ProjectedType) Refusal) → IsPlainResult types → IsPlainResult (within_limit spec g types)
limit-plain spec g (Err why) plain = plain
limit-plain spec g (Ok types) plain =
    elim (nat_le (sum_by type_arc_count types) most_arcs) as (λ b. IsPlainResult (cond b (Ok (projection_with spec g types)) (Err (Full Arcs most_arcs 0)))) [
      | true ↦ tt
      | false ↦ refl
    ]

unless-plain : (spec : SpecFields) (g : PropertyGraph) (why : Option Refusal) → IsPlain why → IsPlainResult (unless_refused why spec g)
unless-plain spec g (Some why) plain = plain
unless-plain spec g None plain = limit-plain spec g (projected_types g spec.nodes spec.rels) (types-plain g spec.nodes spec.rels)

made-plain : (captured : PlainCapture) (spec : MakeSpec) → IsPlainResult (made_of captured spec)
made-plain (Store g) (Native spec) = unless-plain spec g (refused_names spec g) (names-plain spec g)

made_for-plain : (captured : PlainCapture) (spec : JobSpec) → IsPlain (refusal_in (made_for captured spec))
made_for-plain captured (Make name spec) = in-plain (made_of captured spec) (made-plain captured spec)
  where
    in-plain : (made : Result PlainProjection Refusal) → IsPlainResult made → IsPlain (refusal_in made)
    in-plain (Ok graph) plain = tt
    in-plain (Err why) plain = plain

-- ---- beginnings and ends

taken-plain : {A : Type 0} (name : List ℕ) (found : Option A) → IsPlain (name_taken name found)
taken-plain name None = tt
taken-plain name (Some entry) = refl

graphs-plain : (count : ℕ) → IsPlain (graphs_spent count)
graphs-plain count = plain-if (nat_lt count most_graphs) (TooManyGraphs most_graphs) refl

versions-plain : (last : ℕ) → IsPlain (versions_spent last)
versions-plain last = plain-if (nat_lt last greatest_version) (CounterSpent Versions greatest_version) refl

graph-plain : {A : Type 0} (name : List ℕ) (entries : List (List ℕ × A)) (last : ℕ) → IsPlain (refused_graph name entries last)
graph-plain name entries last =
    first-plain (name_taken name (under name entries)) (first_there (graphs_spent (length entries)) (versions_spent last)) (taken-plain name (under name entries))
    (first-plain (graphs_spent (length entries)) (versions_spent last) (graphs-plain (length entries)) (versions-plain last))

job_taken-plain : (name : Option (List ℕ)) (jobs : List Job) → IsPlain (job_taken name jobs)
job_taken-plain None jobs = tt
job_taken-plain (Some name) jobs = plain-unless (list_any (is_job_named name) jobs) (JobExists name) refl

job-plain : (name : Option (List ℕ)) (lists : UserLists) → IsPlain (refused_job name lists)
job-plain name lists =
    first-plain (job_taken name lists.jobs) (first_there (jobs_spent lists.jobs) (numbers_spent lists.last_job)) (job_taken-plain name lists.jobs)
    (first-plain (jobs_spent lists.jobs) (numbers_spent lists.last_job)
    (plain-if (nat_lt (length lists.jobs) most_jobs) (TooManyJobs most_jobs) refl)
    (plain-if (nat_lt lists.last_job greatest_job) (CounterSpent Jobs greatest_job) refl))

pub begin-plain : (graph : List ℕ) (name : Option (List ℕ)) (lists : UserLists) → IsPlain (refused_begin graph name lists)
begin-plain graph name lists =
    first-plain (name_taken graph (under graph lists.graphs)) (first_there (graphs_spent (length lists.graphs)) (refused_job name lists))
    (taken-plain graph (under graph lists.graphs))
    (first-plain (graphs_spent (length lists.graphs)) (refused_job name lists) (graphs-plain (length lists.graphs)) (job-plain name lists))

pub making-plain : (lists : UserLists) (job : Job) → IsPlain (refused_making lists job)
making-plain lists job =
    first-plain (termination job) (first_there (refusal_in (comes_of job)) (refused_graph (graph_name job.spec) lists.graphs lists.last_version))
    (plain-unless job.asked (Terminated job.batches) refl)
    (first-plain (refusal_in (comes_of job)) (refused_graph (graph_name job.spec) lists.graphs lists.last_version)
    (made_for-plain job.captured job.spec) (graph-plain (graph_name job.spec) lists.graphs lists.last_version))
