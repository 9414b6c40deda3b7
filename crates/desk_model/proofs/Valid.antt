-- Each step keeps what every machine keeps of its users' lists.
use Rattle.std.proofs.Common.{◌≡◌, ◌≢◌, ◌⊎◌, ℕ, ◌+◌, ◌<◌, ◌≤◌, ◌==◌, inl, inr, ⊎_elim, Bool, true, false, cond, nat_lt, List, [], ◌∷◌, ◌++◌, length, Option, Some, None, refl, sym, ap, ◌∙◌, subst, arith}
use Rattle.std.specs.Prelude.{codes, decimal}
use Rattle.std.specs.List.{AllByRecursion, list_any, starts_with}
use Rattle.std.specs.Str.{bytes_eq}
use Rattle.std.specs.Cmp.Lexicographic.{bytes_decides}
use Rattle.std.proofs.lemmas.Bool.{cases_Bool, cond-true, cond-false, true≢false, ltb-true}
use Rattle.std.proofs.lemmas.Fmt.{decimal_injective}
use Rattle.graph_model.specs.declared.change.ChangeReply.{ChangeReply}
use Rattle.graph_model.specs.declared.refusal.Refusal.{Refusal}
use Rattle.graph_model.specs.declared.refusal.Refusal.TheVariants.{CounterSpent, JobExists}
use Rattle.graph_model.specs.declared.refusal.Counter.TheVariants.{Imports, Jobs}
use Rattle.graph_model.specs.declared.kept.Kept.{Kept}
use Rattle.graph_model.specs.Kept.{most_imports, entry_order, answers_of, IsValidKept}
use Rattle.graph_model.specs.Lists.{Pairwise, first_there, placed}
use Rattle.graph_model.specs.Projection.{PlainProjection, under}
use Rattle.graph_model.proofs.ListLemmas.{All-map_fact, All-append, Pairwise-append, first_there-none}
use Rattle.graph_model.proofs.Placed.{placed-ascends, length-placed}
use Rattle.graph_model.proofs.KeptLemmas.{entry_order_total, answers_ascend}
use Rattle.user_catalog.specs.Catalog.{ComesBefore, inserted, removed, name_taken, graphs_spent, versions_spent, refused_graph}
use Rattle.user_catalog.proofs.Valid.{All-inserted, ascending-inserted, Pairwise-inserted, All-removed, Pairwise-removed}
use Rattle.graph_making.specs.declared.capture.MakeSpec.{MakeSpec}
use Rattle.graph_making.specs.Making.{PlainCapture}
use Rattle.desk_model.specs.declared.asked.Event.{Event}
use Rattle.desk_model.specs.declared.asked.Event.TheVariants.{ProjectBegin}
use Rattle.desk_model.specs.Replies.{PlainReply}
use Rattle.desk_model.specs.State.{NamedGraph, Job, Make, UserLists, Part, State, part_of, with_part, loaded_state, no_lists}
use Rattle.desk_model.specs.Jobs.{is_job_named, greatest_job, job_taken, jobs_spent, numbers_spent, refused_job, next_job_name, next_job, with_job, jobs_without, jobs_asked, without_job, asked_to_end, with_asked}
use Rattle.desk_model.specs.Graphs.{next_graph, with_graph, without_graph}
use Rattle.desk_model.specs.Step.{IsGivenName, IsReady, IsStep, MayStand, imports_spent, with_answer, refused_begin, subject_of, part_step, step, mark_of}
use Rattle.desk_model.specs.Valid.{HasLesserNumber, HasOtherName, HasOwnName, IsNumberGiven, HasOtherVersion, IsVersionGiven, HasLesserId, IsValidLists, IsValidState}
use Rattle.desk_model.specs.History.{HistoryEntry, state_after_entry, StepsKeepValid}
use Rattle.desk_model.proofs.Effects.{Effect, Stayed, Changed, Begun, Ended, Made, Asked, Dropped, Begins, step-effect}
use Rattle.desk_model.proofs.JobLemmas.{All-without, All-asked, Pairwise-without, Pairwise-asked}
use Rattle.desk_model.proofs.JobEffects.{own-subject, own-lists, other-lists}

-- nothing is refused where a test passes, or fails
passes-of : {A : Type 0} (b : Bool) (x : A) → cond b None (Some x) ≡ None → b ≡ true
passes-of true x none = refl
passes-of false x none = absurd cc

fails-of : {A : Type 0} (b : Bool) (x : A) → cond b (Some x) None ≡ None → b ≡ false
fails-of true x none = absurd cc
fails-of false x none = refl

-- ---- answers of imports

pub answered : (import : Option (List ℕ)) (answer : ChangeReply) (lists : UserLists) → imports_spent import lists ≡ None → IsValidLists lists → IsValidLists (with_answer import answer lists)
answered None answer lists room valid = valid
answered (Some id) answer lists room valid = record {
  numbers = valid.numbers;
  given = valid.given;
  names = valid.names;
  own_names = valid.own_names;
  graphs = valid.graphs;
  versions = valid.versions;
  issued = valid.issued;
  imports = placed-ascends entry_order entry_order_total (id, answer) lists.imports valid.imports;
  few = omega (
    arith,
    length-placed entry_order entry_order_total (id, answer) lists.imports valid.imports,
    ltb-true (length lists.imports) most_imports (passes-of (nat_lt (length lists.imports) most_imports) (CounterSpent Imports most_imports) room),
  );
}

-- ---- a job begins

-- a name that the machine gives looks like one
looks-given : (number : ℕ) → starts_with ◌==◌ (next_job_name None number) (codes "job-") ≡ true
looks-given number = refl

-- and two numbers have two names
numbers-apart : (a b : ℕ) → a < b → b ≤ greatest_job → next_job_name None a ≢ next_job_name None b
numbers-apart a b less most same =
    let digits : decimal a ≡ decimal b = ap (λ (text : List ℕ). behind text) same in
    let equal = decimal_injective a b (omega (arith, less, most)) (omega (arith, most)) digits in
    absurd (omega (arith, less, equal))
  where
    behind : List ℕ → List ℕ
    behind (w ∷ x ∷ y ∷ z ∷ rest) = rest
    behind other = []

-- jobs have other names than one that none of them has
others-named : (name : List ℕ) (jobs : List Job) → list_any (is_job_named name) jobs ≡ false → AllByRecursion (λ job. job.name ≢ name) jobs
others-named name [] none = tt
others-named name (job ∷ jobs) none =
    ⊎_elim
    (λ (named : is_job_named name job ≡ true). absurd (let e = rw named at none in cc))
    (λ (other : is_job_named name job ≡ false).
    (λ same. true≢false (sym ((bytes_decides job.name name).1 same) ∙ other), others-named name jobs (rw other at none)))
    (cases_Bool (is_job_named name job))

-- and than one that the machine gives now
others-numbered : (last : ℕ) (jobs : List Job) → last + 1 ≤ greatest_job → AllByRecursion (IsNumberGiven last) jobs → AllByRecursion HasOwnName jobs → AllByRecursion (λ job. job.name ≢ next_job_name None (last + 1)) jobs
others-numbered last [] most given own = tt
others-numbered last (job ∷ jobs) most given own = (
  ⊎_elim
      (λ (was_given : IsGivenName (Some job.name)) (same : job.name ≡ next_job_name None (last + 1)).
      true≢false (sym (ap (λ (name : List ℕ). starts_with ◌==◌ name (codes "job-")) same ∙ looks-given (last + 1)) ∙ was_given))
      (λ (numbered : job.name ≡ next_job_name None job.number) (same : job.name ≡ next_job_name None (last + 1)).
      numbers-apart job.number (last + 1) (omega (arith, given.0)) most (sym numbered ∙ same))
      own.0,
  others-numbered last jobs most given.1 own.1,
)

module _ (graph : List ℕ) (name : Option (List ℕ)) (spec : MakeSpec) (captured : PlainCapture) (lists : UserLists) (formed : IsGivenName name) (free : refused_begin graph name lists ≡ None) (valid : IsValidLists lists) where
  abbrev job : Job
  job = next_job name captured (Make graph spec) lists

  jobs-free : refused_job name lists ≡ None
  jobs-free =
      let rest = (first_there-none (name_taken graph (under graph lists.graphs)) (first_there (graphs_spent (length lists.graphs)) (refused_job name lists)) free).1 in
      (first_there-none (graphs_spent (length lists.graphs)) (refused_job name lists) rest).1

  number-free : lists.last_job + 1 ≤ greatest_job
  number-free =
      let rest = (first_there-none (job_taken name lists.jobs) (first_there (jobs_spent lists.jobs) (numbers_spent lists.last_job)) jobs-free).1 in
      omega (arith, ltb-true lists.last_job greatest_job (passes-of (nat_lt lists.last_job greatest_job) (CounterSpent Jobs greatest_job) (first_there-none (jobs_spent lists.jobs) (numbers_spent lists.last_job) rest).1))

  names-other : AllByRecursion (λ other. AllByRecursion (HasOtherName other) (job ∷ [])) lists.jobs
  names-other = All-map_fact lists.jobs (λ other apart. (apart, tt)) (apart name (first_there-none (job_taken name lists.jobs) (first_there (jobs_spent lists.jobs) (numbers_spent lists.last_job)) jobs-free).0)
    where
      apart : (given : Option (List ℕ)) → job_taken given lists.jobs ≡ None → AllByRecursion (λ other. other.name ≢ next_job_name given (lists.last_job + 1)) lists.jobs
      apart None none = others-numbered lists.last_job lists.jobs number-free valid.given valid.own_names
      apart (Some given) none = others-named given lists.jobs (fails-of (list_any (is_job_named given) lists.jobs) (JobExists given) none)

  own-name : (given : Option (List ℕ)) → IsGivenName given → IsGivenName (Some (next_job_name given (lists.last_job + 1))) ⊎ (next_job_name given (lists.last_job + 1) ≡ next_job_name None (lists.last_job + 1))
  own-name None ok = inr refl
  own-name (Some given) ok = inl ok

  begun : IsValidLists (with_job job lists)
  begun = record {
    numbers = Pairwise-append HasLesserNumber lists.jobs (job ∷ []) valid.numbers (tt, tt) (All-map_fact lists.jobs (λ other up. (omega (arith, up), tt)) valid.given);
    given = All-append (IsNumberGiven (lists.last_job + 1)) lists.jobs (job ∷ []) (All-map_fact lists.jobs (λ other up. omega (arith, up)) valid.given) (omega arith, tt);
    names = Pairwise-append HasOtherName lists.jobs (job ∷ []) valid.names (tt, tt) names-other;
    own_names = All-append HasOwnName lists.jobs (job ∷ []) valid.own_names (own-name name formed, tt);
    graphs = valid.graphs;
    versions = valid.versions;
    issued = valid.issued;
    imports = valid.imports;
    few = valid.few;
  }

-- ---- a job ends, or is asked to

ended : (number : ℕ) (lists : UserLists) → IsValidLists lists → IsValidLists (without_job number lists)
ended number lists valid = record {
  numbers = Pairwise-without HasLesserNumber number lists.jobs valid.numbers;
  given = All-without (IsNumberGiven lists.last_job) number lists.jobs valid.given;
  names = Pairwise-without HasOtherName number lists.jobs valid.names;
  own_names = All-without HasOwnName number lists.jobs valid.own_names;
  graphs = valid.graphs;
  versions = valid.versions;
  issued = valid.issued;
  imports = valid.imports;
  few = valid.few;
}

asked-to : (name : List ℕ) (lists : UserLists) → IsValidLists lists → IsValidLists (with_asked name lists)
asked-to name lists valid = record {
  numbers = Pairwise-asked HasLesserNumber (λ a b less. less) (λ a b less. less) name lists.jobs valid.numbers;
  given = All-asked (IsNumberGiven lists.last_job) (λ job up. up) name lists.jobs valid.given;
  names = Pairwise-asked HasOtherName (λ a b apart. apart) (λ a b apart. apart) name lists.jobs valid.names;
  own_names = All-asked HasOwnName (λ job own. own) name lists.jobs valid.own_names;
  graphs = valid.graphs;
  versions = valid.versions;
  issued = valid.issued;
  imports = valid.imports;
  few = valid.few;
}

-- ---- a graph is kept, or dropped

kept : (name : List ℕ) (projection : PlainProjection) (lists : UserLists) → refused_graph name lists.graphs lists.last_version ≡ None → IsValidLists lists → IsValidLists (with_graph name projection lists)
kept name projection lists free valid = record {
  numbers = valid.numbers;
  given = valid.given;
  names = valid.names;
  own_names = valid.own_names;
  graphs = ascending-inserted name (next_graph projection lists) lists.graphs (untaken (under name lists.graphs) refl (first_there-none (name_taken name (under name lists.graphs)) (first_there (graphs_spent (length lists.graphs)) (versions_spent lists.last_version)) free).0) valid.graphs;
  versions = Pairwise-inserted HasOtherVersion name (next_graph projection lists) lists.graphs
      (All-map_fact lists.graphs (λ e up same. omega (arith, up, same)) valid.issued)
      (All-map_fact lists.graphs (λ e up same. omega (arith, up, same)) valid.issued) valid.versions;
  issued = All-inserted (IsVersionGiven (lists.last_version + 1)) name (next_graph projection lists) lists.graphs (omega arith)
      (All-map_fact lists.graphs (λ e up. omega (arith, up)) valid.issued);
  imports = valid.imports;
  few = valid.few;
}
  where
    untaken : (found : Option NamedGraph) → under name lists.graphs ≡ found → name_taken name found ≡ None → under name lists.graphs ≡ None
    untaken None there none = there
    untaken (Some graph) there none = absurd cc

gone : (name : List ℕ) (lists : UserLists) → IsValidLists lists → IsValidLists (without_graph name lists)
gone name lists valid = record {
  numbers = valid.numbers;
  given = valid.given;
  names = valid.names;
  own_names = valid.own_names;
  graphs = Pairwise-removed ComesBefore name lists.graphs valid.graphs;
  versions = Pairwise-removed HasOtherVersion name lists.graphs valid.versions;
  issued = All-removed (IsVersionGiven lists.last_version) name lists.graphs valid.issued;
  imports = valid.imports;
  few = valid.few;
}

-- ---- a step

-- a name that a ready beginning gives
abbrev pub GivesName : Event → Type 0
GivesName asked = (graph : List ℕ) (name : Option (List ℕ)) (spec : MakeSpec) → asked ≡ ProjectBegin graph name spec → IsGivenName name

pub gives-name : (asked : Event) (part : Part) → IsReady asked part → GivesName asked
gives-name asked part ready graph name spec is = subst (λ (e : Event). IsReady e part) is ready

pub valid-left : {mark : _} {caller : List ℕ} {asked : Event} {reply : PlainReply} (old new : Part) → Effect mark caller asked reply old new → GivesName asked → IsValidLists old.lists → IsValidLists new.lists
valid-left old new (Stayed e) gives valid = subst (λ (p : Part). IsValidLists p.lists) (sym e.left) valid
valid-left old new (Changed e) gives valid = subst (λ (p : Part). IsValidLists p.lists) (sym e.left) (answered e.import _ old.lists e.room valid)
valid-left old new (Begun e) gives valid =
    subst (λ (p : Part). IsValidLists p.lists) (sym e.left)
    (begun e.graph e.name e.spec e.captured old.lists (gives e.graph e.name e.spec e.asked_is) e.free valid)
valid-left old new (Ended e) gives valid = subst (λ (p : Part). IsValidLists p.lists) (sym e.left) (ended e.job old.lists valid)
valid-left old new (Made e) gives valid =
    subst (λ (p : Part). IsValidLists p.lists) (sym e.left) (ended e.job (with_graph e.graph e.projection old.lists) (kept e.graph e.projection old.lists e.free valid))
valid-left old new (Asked e) gives valid = subst (λ (p : Part). IsValidLists p.lists) (sym e.left) (asked-to e.name old.lists valid)
valid-left old new (Dropped e) gives valid = subst (λ (p : Part). IsValidLists p.lists) (sym e.left) (gone e.graph old.lists valid)

valid-lists : (s : State) (subject : List ℕ) (part : Part) → IsValidState s → IsValidLists part.lists → IsValidState (with_part s subject part)
valid-lists s subject part valid lists user =
    ⊎_elim
    (λ (own : bytes_eq user subject ≡ true). subst IsValidLists (sym (own-lists s subject user part ((bytes_decides user subject).0 own))) lists)
    (λ (other : bytes_eq user subject ≡ false). subst IsValidLists (sym (other-lists s subject user part other)) (valid user))
    (cases_Bool (bytes_eq user subject))

pub valid-step : (s : State) (caller : List ℕ) (asked : Event) (reply : PlainReply) → IsReady asked (part_of s caller) → MayStand (mark_of reply) caller asked (part_of s (subject_of caller asked)) → reply ≡ (step (mark_of reply) caller asked s).reply → IsValidState s → IsValidState (step (mark_of reply) caller asked s).state
valid-step s caller asked reply ready may is valid =
    let subject = subject_of caller asked in
    let after = (part_step (mark_of reply) caller asked (part_of s subject)).part in
    valid-lists s subject after valid
    (valid-left (part_of s subject) after (step-effect (mark_of reply) caller asked reply (part_of s subject) may refl is) (gives-name asked (part_of s caller) ready) (valid subject))

pub valid-after-entry : (s : State) (e : HistoryEntry) → IsReady e.event (part_of s e.user) → MayStand (mark_of e.reply) e.user e.event (part_of s (subject_of e.user e.event)) → e.reply ≡ (step (mark_of e.reply) e.user e.event s).reply → IsValidState s → IsValidState (state_after_entry s e)
valid-after-entry s e ready may is valid = valid-step s e.user e.event e.reply ready may is valid

pub steps_keep_valid : StepsKeepValid
steps_keep_valid old new caller asked reply ready is valid =
    subst IsValidState (sym is.left) (valid-step old caller asked reply ready is.mark is.answer valid)

-- ---- what is loaded

pub loaded-valid : (admin : Option (List ℕ)) (kept : Kept) → IsValidKept kept → IsValidState (loaded_state admin kept)
loaded-valid admin kept valid user = record {
  numbers = tt;
  given = tt;
  names = tt;
  own_names = tt;
  graphs = tt;
  versions = tt;
  issued = tt;
  imports = answers_ascend user kept.imports valid.notes;
  few = valid.few user;
}
