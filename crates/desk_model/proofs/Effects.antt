-- What a step leaves of the part on which it works.
use Rattle.std.proofs.Common.{◌≡◌, ℕ, ◌+◌, ◌&&◌, not, Bool, true, false, cond, eqb, is_some, List, [], ◌∷◌, ◌++◌, Option, Some, None, Result, Ok, Err, refl, sym, ap, ◌∙◌, subst, true≢false}
use Rattle.std.specs.Option.{option_and_then}
use Rattle.std.proofs.lemmas.Bool.{eq-eqb}
use Rattle.graph_model.specs.declared.change.Change as model
use Rattle.graph_model.specs.declared.change.ChangeReply.{ChangeReply}
use Rattle.graph_model.specs.declared.graph.Choice.{Choice}
use Rattle.graph_model.specs.declared.refusal.Refusal.{Refusal}
use Rattle.graph_model.specs.declared.refusal.Refusal.TheVariants.{Mem, StoreFault}
use Rattle.graph_model.specs.Change.{after_change, refused_change, change_answer}
use Rattle.graph_model.specs.Lists.{first_there}
use Rattle.graph_model.specs.Projection.{PlainProjection}
use Rattle.graph_model.proofs.ListLemmas.{first_there-none}
use Rattle.user_catalog.specs.Catalog.{refused_graph}
use Rattle.graph_making.specs.declared.capture.MakeSpec.{MakeSpec}
use Rattle.graph_making.specs.Making.{PlainCapture, BuiltGraph}
use Rattle.desk_model.specs.declared.asked.Event.{Event}
use Rattle.desk_model.specs.declared.asked.Event.TheVariants as event
use Rattle.desk_model.specs.declared.asked.Event.TheVariants.{Change, StoreRows, ProjectBegin, ProjectEnd, Abandon, Terminate, Exists, GraphRows, Jobs}
use Rattle.desk_model.specs.Replies.{PlainReply, Making, Refused}
use Rattle.desk_model.specs.State.{Job, Make, UserLists, Part}
use Rattle.desk_model.specs.Jobs.{job_of, next_job, next_job_name, with_job, without_job, with_asked, comes_of, graph_name, termination, refusal_in, refused_making}
use Rattle.desk_model.specs.Graphs.{with_graph, without_graph}
use Rattle.desk_model.specs.Step.{Mark, Plain, OutOfMemory, Fault, named_by, refusal_of, accepted, change_of, refused_part, unless_refused, unless_kept, refusal_unless_kept, changed, with_answer, kept_answer, imports_spent, captured_for, refused_begin, ended_with, made_by, with_lists, part_step, MayStand, mark_of, mark_of_refusal}
use Rattle.desk_model.specs.History.{Shown, BegunToMake, Over, shown_after, is_memory, wants_memory}
use Rattle.desk_model.specs.Isolation.{committed, dropped, unless_why}
use Rattle.desk_model.specs.Going.{ends_job}

-- an event with this reply shows nothing of any job
abbrev pub ShowsNothing : Event → PlainReply → Type 0
ShowsNothing asked reply = (number : ℕ) (before : Shown) → shown_after number asked reply before ≡ before

-- all stays
pub record Stays (mark : Mark) (caller : List ℕ) (asked : Event) (reply : PlainReply) (old new : Part) : Type 0 where
  pub left : new ≡ old
  pub shown : ShowsNothing asked reply
  pub commits : committed mark caller asked old ≡ None
  pub drops : dropped mark caller asked old ≡ None

-- a change is made, and its answer kept where it came with an import id
pub record Changes (mark : Mark) (caller : List ℕ) (asked : Event) (reply : PlainReply) (old new : Part) : Type 0 where
  pub change : model.Change
  pub import : Option (List ℕ)
  pub left : new ≡ record old { graph = after_change old.graph change; lists = with_answer import (change_answer old.graph change) old.lists }
  pub room : imports_spent import old.lists ≡ None
  pub shown : ShowsNothing asked reply
  pub commits : committed mark caller asked old ≡ Some change
  pub drops : dropped mark caller asked old ≡ None
  pub unnamed : named_by asked ≡ None

-- a job begins
pub record Begins (mark : Mark) (caller : List ℕ) (asked : Event) (reply : PlainReply) (old new : Part) : Type 0 where
  pub graph : List ℕ
  pub name : Option (List ℕ)
  pub spec : MakeSpec
  pub captured : PlainCapture
  pub left : new ≡ with_lists old (with_job (next_job name captured (Make graph spec) old.lists) old.lists)
  pub free : refused_begin graph name old.lists ≡ None
  pub asked_is : asked ≡ ProjectBegin graph name spec
  pub shown : (number : ℕ) (before : Shown) → shown_after number asked reply before ≡ cond (eqb (old.lists.last_job + 1) number) (BegunToMake spec captured) before
  pub commits : committed mark caller asked old ≡ None
  pub drops : dropped mark caller asked old ≡ None
  pub unnamed : named_by asked ≡ None

-- a job ends
pub record Ends (mark : Mark) (caller : List ℕ) (asked : Event) (reply : PlainReply) (old new : Part) : Type 0 where
  pub job : ℕ
  pub left : new ≡ with_lists old (without_job job old.lists)
  pub ending : ends_job job asked reply ≡ true
  pub shown : (number : ℕ) (before : Shown) → shown_after number asked reply before ≡ cond (eqb job number) Over before
  pub commits : committed mark caller asked old ≡ None
  pub drops : dropped mark caller asked old ≡ None
  pub unnamed : named_by asked ≡ None

-- a job ends, and leaves a graph
pub record Makes (mark : Mark) (caller : List ℕ) (asked : Event) (reply : PlainReply) (old new : Part) : Type 0 where
  pub job : ℕ
  pub graph : List ℕ
  pub projection : PlainProjection
  pub left : new ≡ with_lists old (without_job job (with_graph graph projection old.lists))
  pub free : refused_graph graph old.lists.graphs old.lists.last_version ≡ None
  pub ending : ends_job job asked reply ≡ true
  pub shown : (number : ℕ) (before : Shown) → shown_after number asked reply before ≡ cond (eqb job number) Over before
  pub commits : committed mark caller asked old ≡ None
  pub drops : dropped mark caller asked old ≡ None
  pub unnamed : named_by asked ≡ None

-- a job is asked to end
pub record Asks (mark : Mark) (caller : List ℕ) (asked : Event) (reply : PlainReply) (old new : Part) : Type 0 where
  pub name : List ℕ
  pub left : new ≡ with_lists old (with_asked name old.lists)
  pub shown : ShowsNothing asked reply
  pub commits : committed mark caller asked old ≡ None
  pub drops : dropped mark caller asked old ≡ None
  pub unnamed : named_by asked ≡ None

-- a graph is dropped
pub record Drops (mark : Mark) (caller : List ℕ) (asked : Event) (reply : PlainReply) (old new : Part) : Type 0 where
  pub graph : List ℕ
  pub left : new ≡ with_lists old (without_graph graph old.lists)
  pub shown : ShowsNothing asked reply
  pub commits : committed mark caller asked old ≡ None
  pub drops : dropped mark caller asked old ≡ Some graph

pub data Effect (mark : Mark) (caller : List ℕ) (asked : Event) (reply : PlainReply) (old new : Part) : Type 0 where
  Stayed : Stays mark caller asked reply old new → Effect mark caller asked reply old new
  Changed : Changes mark caller asked reply old new → Effect mark caller asked reply old new
  Begun : Begins mark caller asked reply old new → Effect mark caller asked reply old new
  Ended : Ends mark caller asked reply old new → Effect mark caller asked reply old new
  Made : Makes mark caller asked reply old new → Effect mark caller asked reply old new
  Asked : Asks mark caller asked reply old new → Effect mark caller asked reply old new
  Dropped : Drops mark caller asked reply old new → Effect mark caller asked reply old new

-- nothing comes of nothing, refused or not
nothing : {A : Type 0} (why : Option Refusal) → unless_why {A = A} why None ≡ None
nothing None = refl
nothing (Some why) = refl

refused-none : {A : Type 0} (found : Option A) (why : Refusal) (refused : Option Refusal) → refused ≡ Some why → unless_why refused found ≡ None
refused-none found why refused is = ap (λ r. unless_why r found) is

pub same-number : (number : ℕ) → eqb number number ≡ true
same-number number = eq-eqb number number refl

-- a refusal that shows no mark isn't want of memory
pub no-memory : (why : Refusal) → mark_of_refusal why ≡ Plain → is_memory why ≡ false
no-memory Mem shows = absurd (let clash : OutOfMemory ≡ Plain = shows in cc)
no-memory other shows = refl

pub plain-reply : (reply : PlainReply) → mark_of reply ≡ Plain → wants_memory reply ≡ false
plain-reply (Refused why) shows = no-memory why shows
plain-reply other shows = refl

-- ---- what is refused

-- a refused event that ends no job leaves all as it was
refused-stays : (caller : List ℕ) (asked : Event) (why : Refusal) (old : Part) → refusal_of caller asked old ≡ Some why → refused_part asked old ≡ old → ShowsNothing asked (Refused why) → Effect Plain caller asked (Refused why) old (refused_part asked old)
refused-stays caller asked why old refused same shown = Stayed (record {
  left = same;
  shown = shown;
  commits = refused-none (change_of asked old) why (refusal_of caller asked old) refused;
  drops = refused-none _ why (refusal_of caller asked old) refused;
})

refused-effect : (caller : List ℕ) (asked : Event) (why : Refusal) (old : Part) → mark_of_refusal why ≡ Plain → refusal_of caller asked old ≡ Some why → Effect Plain caller asked (Refused why) old (refused_part asked old)
refused-effect caller (Change import change) why old plain refused = refused-stays caller (Change import change) why old refused refl (λ n b. refl)
refused-effect caller (StoreRows key labels) why old plain refused = absurd (let clash : None ≡ Some why = refused in cc)
refused-effect caller (ProjectBegin graph name spec) why old plain refused = refused-stays caller (ProjectBegin graph name spec) why old refused refl (λ n b. refl)
refused-effect caller (ProjectEnd number built) why old plain refused = Ended (record {
  job = number;
  left = refl;
  ending = rw (same-number number, no-memory why plain) refl;
  shown = λ n b. ap (λ memory. cond (eqb number n) (cond memory b Over) b) (no-memory why plain);
  commits = nothing (refusal_of caller (ProjectEnd number built) old);
  drops = nothing (refusal_of caller (ProjectEnd number built) old);
  unnamed = refl;
})
refused-effect caller (Abandon number) why old plain refused = absurd (let clash : None ≡ Some why = refused in cc)
refused-effect caller (Terminate name) why old plain refused = refused-stays caller (Terminate name) why old refused refl (λ n b. refl)
refused-effect caller (Exists graph) why old plain refused = absurd (let clash : None ≡ Some why = refused in cc)
refused-effect caller (event.List graph of) why old plain refused = refused-stays caller (event.List graph of) why old refused refl (λ n b. refl)
refused-effect caller (event.Drop graph must of) why old plain refused = refused-stays caller (event.Drop graph must of) why old refused refl (λ n b. refl)
refused-effect caller (GraphRows graph key labels) why old plain refused = refused-stays caller (GraphRows graph key labels) why old refused refl (λ n b. refl)
refused-effect caller Jobs why old plain refused = absurd (let clash : None ≡ Some why = refused in cc)

-- ---- want of memory

memory-stays : (caller : List ℕ) (asked : Event) (old : Part) → ShowsNothing asked (Refused Mem) → Effect OutOfMemory caller asked (Refused Mem) old old
memory-stays caller asked old shown = Stayed (record { left = refl; shown = shown; commits = refl; drops = refl })

memory-shows : (b : Bool) (before : Shown) → cond b before before ≡ before
memory-shows true before = refl
memory-shows false before = refl

memory-effect : (caller : List ℕ) (asked : Event) (old : Part) → MayStand OutOfMemory caller asked old → Effect OutOfMemory caller asked (Refused Mem) old old
memory-effect caller (Change import change) old may = memory-stays caller (Change import change) old (λ n b. refl)
memory-effect caller (StoreRows key labels) old may = memory-stays caller (StoreRows key labels) old (λ n b. refl)
memory-effect caller (ProjectBegin graph name spec) old may = memory-stays caller (ProjectBegin graph name spec) old (λ n b. refl)
memory-effect caller (ProjectEnd number built) old may = memory-stays caller (ProjectEnd number built) old (λ n b. memory-shows (eqb number n) b)
memory-effect caller (Abandon number) old may = absurd (true≢false (sym may))
memory-effect caller (Terminate name) old may = absurd (true≢false (sym may))
memory-effect caller (Exists graph) old may = memory-stays caller (Exists graph) old (λ n b. refl)
memory-effect caller (event.List graph of) old may = memory-stays caller (event.List graph of) old (λ n b. refl)
memory-effect caller (event.Drop graph must of) old may = memory-stays caller (event.Drop graph must of) old (λ n b. refl)
memory-effect caller (GraphRows graph key labels) old may = memory-stays caller (GraphRows graph key labels) old (λ n b. refl)
memory-effect caller Jobs old may = memory-stays caller Jobs old (λ n b. refl)

-- ---- a fault of the keeper

fault-effect : (caller : List ℕ) (asked : Event) (reply : PlainReply) (old : Part) → MayStand Fault caller asked old → Effect Fault caller asked reply old (refused_part asked old)
fault-effect caller (Change import change) reply old may = Stayed (record { left = refl; shown = λ n b. refl; commits = refl; drops = refl })
fault-effect caller (StoreRows key labels) reply old may = absurd (true≢false (sym may.0))
fault-effect caller (ProjectBegin graph name spec) reply old may = absurd (true≢false (sym may.0))
fault-effect caller (ProjectEnd number built) reply old may = absurd (true≢false (sym may.0))
fault-effect caller (Abandon number) reply old may = absurd (true≢false (sym may.0))
fault-effect caller (Terminate name) reply old may = absurd (true≢false (sym may.0))
fault-effect caller (Exists graph) reply old may = absurd (true≢false (sym may.0))
fault-effect caller (event.List graph of) reply old may = absurd (true≢false (sym may.0))
fault-effect caller (event.Drop graph must of) reply old may = absurd (true≢false (sym may.0))
fault-effect caller (GraphRows graph key labels) reply old may = absurd (true≢false (sym may.0))
fault-effect caller Jobs reply old may = absurd (true≢false (sym may.0))

-- ---- what is done

-- an event that hands no change over, drops no graph and leaves all as it was
accepted-stays : (caller : List ℕ) (asked : Event) (reply : PlainReply) (old : Part) → ShowsNothing asked reply → committed Plain caller asked old ≡ None → dropped Plain caller asked old ≡ None → Effect Plain caller asked reply old old
accepted-stays caller asked reply old shown commits drops = Stayed (record { left = refl; shown = shown; commits = commits; drops = drops })

change-effect : (caller : List ℕ) (import : Option (List ℕ)) (change : model.Change) (reply : PlainReply) (old : Part) (kept : Option ChangeReply) → kept_answer import old.lists ≡ kept → refusal_unless_kept kept import change old ≡ None → Effect Plain caller (Change import change) reply old (unless_kept kept import change old).part
change-effect caller import change reply old None same allowed = Changed (record {
  change = change;
  import = import;
  left = refl;
  room = (first_there-none (imports_spent import old.lists) (refused_change old.graph change) allowed).0;
  shown = λ n b. refl;
  commits =
      ap (λ (k : Option ChangeReply). unless_why (refusal_unless_kept k import change old) (cond (is_some k) None (Some change))) same
      ∙ ap (λ r. unless_why r (Some change)) allowed;
  drops = nothing (refusal_of caller (Change import change) old);
  unnamed = refl;
})
change-effect caller import change reply old (Some answer) same allowed =
    accepted-stays caller (Change import change) reply old (λ n b. refl)
    (ap (λ (k : Option ChangeReply). unless_why (refusal_unless_kept k import change old) (cond (is_some k) None (Some change))) same)
    (nothing (refusal_of caller (Change import change) old))

begin-effect : (caller graph : List ℕ) (name : Option (List ℕ)) (spec : MakeSpec) (reply : PlainReply) (old : Part) → refused_begin graph name old.lists ≡ None → reply ≡ (accepted (ProjectBegin graph name spec) old).reply → Effect Plain caller (ProjectBegin graph name spec) reply old (accepted (ProjectBegin graph name spec) old).part
begin-effect caller graph name spec reply old allowed is = Begun (record {
  graph = graph;
  name = name;
  spec = spec;
  captured = captured_for spec old.graph;
  left = refl;
  free = allowed;
  asked_is = refl;
  shown = λ n b. ap (λ (r : PlainReply). shown_after n (ProjectBegin graph name spec) r b) is;
  commits = nothing (refused_begin graph name old.lists);
  drops = nothing (refused_begin graph name old.lists);
  unnamed = refl;
})

-- an end that is not for want of memory
ended-shows : (number : ℕ) (built : BuiltGraph) (reply : PlainReply) → mark_of reply ≡ Plain → (n : ℕ) (before : Shown) → shown_after n (ProjectEnd number built) reply before ≡ cond (eqb number n) Over before
ended-shows number built reply plain n before = ap (λ memory. cond (eqb number n) (cond memory before Over) before) (plain-reply reply plain)

ended-ends : (number : ℕ) (built : BuiltGraph) (reply : PlainReply) → mark_of reply ≡ Plain → ends_job number (ProjectEnd number built) reply ≡ true
ended-ends number built reply plain = rw (same-number number, plain-reply reply plain) refl

end-refused : (caller : List ℕ) (number : ℕ) (built : BuiltGraph) (reply : PlainReply) (old : Part) → mark_of reply ≡ Plain → Effect Plain caller (ProjectEnd number built) reply old (with_lists old (without_job number old.lists))
end-refused caller number built reply old plain = Ended (record {
  job = number;
  left = refl;
  ending = ended-ends number built reply plain;
  shown = ended-shows number built reply plain;
  commits = nothing (refusal_of caller (ProjectEnd number built) old);
  drops = nothing (refusal_of caller (ProjectEnd number built) old);
  unnamed = refl;
})

end-effect : (caller : List ℕ) (number : ℕ) (built : BuiltGraph) (reply : PlainReply) (old : Part) (found : Option Job) → mark_of reply ≡ Plain → option_and_then (refused_making old.lists) found ≡ None → Effect Plain caller (ProjectEnd number built) reply old (made_by number found old).part
end-effect caller number built reply old None plain allowed = end-refused caller number built reply old plain
end-effect caller number built reply old (Some job) plain allowed = of_result (comes_of job) kept
  where
    kept : refused_graph (graph_name job.spec) old.lists.graphs old.lists.last_version ≡ None
    kept =
        let rest = (first_there-none (termination job) (first_there (refusal_in (comes_of job)) (refused_graph (graph_name job.spec) old.lists.graphs old.lists.last_version)) allowed).1 in
        (first_there-none (refusal_in (comes_of job)) (refused_graph (graph_name job.spec) old.lists.graphs old.lists.last_version) rest).1

    of_result : (made : Result PlainProjection Refusal) → refused_graph (graph_name job.spec) old.lists.graphs old.lists.last_version ≡ None → Effect Plain caller (ProjectEnd number built) reply old (ended_with made number job old).part
    of_result (Ok graph) free = Made (record {
      job = number;
      graph = graph_name job.spec;
      projection = graph;
      left = refl;
      free = free;
      ending = ended-ends number built reply plain;
      shown = ended-shows number built reply plain;
      commits = nothing (refusal_of caller (ProjectEnd number built) old);
      drops = nothing (refusal_of caller (ProjectEnd number built) old);
      unnamed = refl;
    })
    of_result (Err why) free = end-refused caller number built reply old plain

accepted-effect : (caller : List ℕ) (asked : Event) (reply : PlainReply) (old : Part) → mark_of reply ≡ Plain → refusal_of caller asked old ≡ None → reply ≡ (accepted asked old).reply → Effect Plain caller asked reply old (accepted asked old).part
accepted-effect caller (Change import change) reply old plain allowed is = change-effect caller import change reply old (kept_answer import old.lists) refl allowed
accepted-effect caller (StoreRows key labels) reply old plain allowed is = accepted-stays caller (StoreRows key labels) reply old (λ n b. refl) refl refl
accepted-effect caller (ProjectBegin graph name spec) reply old plain allowed is = begin-effect caller graph name spec reply old allowed is
accepted-effect caller (ProjectEnd number built) reply old plain allowed is = end-effect caller number built reply old (job_of number old.lists) plain allowed
accepted-effect caller (Abandon number) reply old plain allowed is = Ended (record {
  job = number;
  left = refl;
  ending = same-number number;
  shown = λ n b. refl;
  commits = refl;
  drops = refl;
  unnamed = refl;
})
accepted-effect caller (Terminate name) reply old plain allowed is = Asked (record {
  name = name;
  left = refl;
  shown = λ n b. refl;
  commits = nothing (refusal_of caller (Terminate name) old);
  drops = nothing (refusal_of caller (Terminate name) old);
  unnamed = refl;
})
accepted-effect caller (Exists graph) reply old plain allowed is = accepted-stays caller (Exists graph) reply old (λ n b. refl) refl refl
accepted-effect caller (event.List graph of) reply old plain allowed is =
    accepted-stays caller (event.List graph of) reply old (λ n b. refl) (nothing (refusal_of caller (event.List graph of) old)) (nothing (refusal_of caller (event.List graph of) old))
accepted-effect caller (event.Drop graph must of) reply old plain allowed is = Dropped (record {
  graph = graph;
  left = refl;
  shown = λ n b. refl;
  commits = nothing (refusal_of caller (event.Drop graph must of) old);
  drops = ap (λ r. unless_why r (Some graph)) allowed;
})
accepted-effect caller (GraphRows graph key labels) reply old plain allowed is =
    accepted-stays caller (GraphRows graph key labels) reply old (λ n b. refl) (nothing (refusal_of caller (GraphRows graph key labels) old)) (nothing (refusal_of caller (GraphRows graph key labels) old))
accepted-effect caller Jobs reply old plain allowed is = accepted-stays caller Jobs reply old (λ n b. refl) refl refl

-- ---- a step

plain-effect : (caller : List ℕ) (asked : Event) (reply : PlainReply) (old : Part) (refused : Option Refusal) → refusal_of caller asked old ≡ refused → mark_of reply ≡ Plain → reply ≡ (unless_refused refused asked old).reply → Effect Plain caller asked reply old (unless_refused refused asked old).part
plain-effect caller asked reply old None same plain is = accepted-effect caller asked reply old plain same is
plain-effect caller asked reply old (Some why) same plain is =
    subst (λ (r : PlainReply). Effect Plain caller asked r old (refused_part asked old)) (sym is)
    (refused-effect caller asked why old (ap mark_of (sym is) ∙ plain) same)

-- what a step leaves of the part on which it works
pub step-effect : (mark : Mark) (caller : List ℕ) (asked : Event) (reply : PlainReply) (old : Part) → MayStand mark caller asked old → mark_of reply ≡ mark → reply ≡ (part_step mark caller asked old).reply → Effect mark caller asked reply old (part_step mark caller asked old).part
step-effect Plain caller asked reply old may shows is = plain-effect caller asked reply old (refusal_of caller asked old) refl shows is
step-effect OutOfMemory caller asked reply old may shows is =
    subst (λ (r : PlainReply). Effect OutOfMemory caller asked r old old) (sym is) (memory-effect caller asked old may)
step-effect Fault caller asked reply old may shows is = fault-effect caller asked reply old may
