-- What an entry does to jobs: to those of its user, and to those of all others.
use Rattle.std.proofs.Common.{◌≡◌, ◌≢◌, ◌⊎◌, ℕ, ◌+◌, ◌<◌, ◌≤◌, inl, inr, ⊎_elim, Bool, true, false, cond, eqb, List, [], ◌∷◌, ◌++◌, Option, Some, None, refl, sym, ap, ◌∙◌, subst, arith}
use Rattle.std.specs.List.{find, AllByRecursion}
use Rattle.std.specs.Option.{unwrap_or}
use Rattle.std.specs.Str.{bytes_eq}
use Rattle.std.specs.Cmp.Lexicographic.{bytes_decides}
use Rattle.std.proofs.lemmas.Bool.{cases_Bool, cond-true, cond-false, true≢false, eqb-true}
use Rattle.graph_making.specs.declared.capture.MakeSpec.{MakeSpec}
use Rattle.graph_making.specs.Making.{PlainCapture}
use Rattle.desk_model.specs.declared.asked.Event.{Event}
use Rattle.desk_model.specs.Replies.{PlainReply}
use Rattle.desk_model.specs.State.{Job, Make, UserLists, Part, State, part_of, with_part}
use Rattle.desk_model.specs.Jobs.{is_numbered, job_of, jobs_without, jobs_asked, next_job, with_job, without_job, with_asked}
use Rattle.desk_model.specs.Graphs.{with_graph, without_graph}
use Rattle.desk_model.specs.Step.{Mark, named_by, subject_of, IsMaking, IsSomeMaking, MayStand, IsStep, part_step, step, mark_of, with_answer, with_lists}
use Rattle.desk_model.specs.History.{Shown, NotBegun, BegunToMake, Over, shown_after}
use Rattle.desk_model.specs.Valid.{IsNumberGiven}
use Rattle.desk_model.specs.Going.{ends_job}
use Rattle.desk_model.proofs.Effects.{Effect, Stayed, Changed, Begun, Ended, Made, Asked, Dropped, ShowsNothing, step-effect}
use Rattle.desk_model.proofs.JobLemmas.{found-in-front, found-without, found-asked, found-behind}

-- jobs stay, one begins, one ends, or one is asked to end
pub record JobsStay (old new : UserLists) (asked : Event) (reply : PlainReply) : Type 0 where
  pub jobs : new.jobs ≡ old.jobs
  pub last : new.last_job ≡ old.last_job
  pub shown : ShowsNothing asked reply

pub record JobBegins (old new : UserLists) (asked : Event) (reply : PlainReply) : Type 0 where
  pub graph : List ℕ
  pub name : Option (List ℕ)
  pub spec : MakeSpec
  pub captured : PlainCapture
  pub jobs : new.jobs ≡ old.jobs ++ next_job name captured (Make graph spec) old ∷ []
  pub last : new.last_job ≡ old.last_job + 1
  pub shown : (number : ℕ) (before : Shown) → shown_after number asked reply before ≡ cond (eqb (old.last_job + 1) number) (BegunToMake spec captured) before

pub record JobEnds (old new : UserLists) (asked : Event) (reply : PlainReply) : Type 0 where
  pub job : ℕ
  pub jobs : new.jobs ≡ jobs_without job old.jobs
  pub last : new.last_job ≡ old.last_job
  pub ending : ends_job job asked reply ≡ true
  pub shown : (number : ℕ) (before : Shown) → shown_after number asked reply before ≡ cond (eqb job number) Over before

pub record JobAsked (old new : UserLists) (asked : Event) (reply : PlainReply) : Type 0 where
  pub name : List ℕ
  pub jobs : new.jobs ≡ jobs_asked name old.jobs
  pub last : new.last_job ≡ old.last_job
  pub shown : ShowsNothing asked reply

pub data JobEffect (old new : UserLists) (asked : Event) (reply : PlainReply) : Type 0 where
  JobsStayed : JobsStay old new asked reply → JobEffect old new asked reply
  JobBegun : JobBegins old new asked reply → JobEffect old new asked reply
  JobEnded : JobEnds old new asked reply → JobEffect old new asked reply
  JobWasAsked : JobAsked old new asked reply → JobEffect old new asked reply

-- a user has the jobs that they had
pub record SameJobs (old new : UserLists) : Type 0 where
  pub jobs : new.jobs ≡ old.jobs
  pub last : new.last_job ≡ old.last_job

-- the lists of the subject after an entry, and those of others
pub own-lists : (s : State) (subject user : List ℕ) (part : Part) → user ≡ subject → (with_part s subject part).lists user ≡ part.lists
own-lists s subject user part is = cond-true (bytes_eq user subject) part.lists (s.lists user) ((bytes_decides user subject).1 is)

pub other-lists : (s : State) (subject user : List ℕ) (part : Part) → bytes_eq user subject ≡ false → (with_part s subject part).lists user ≡ s.lists user
other-lists s subject user part other = cond-false (bytes_eq user subject) part.lists (s.lists user) other

-- an event that names nobody works on the lists of its caller
pub own-subject : (caller : List ℕ) (asked : Event) → named_by asked ≡ None → subject_of caller asked ≡ caller
own-subject caller asked unnamed = ap (λ (named : Option (List ℕ)). unwrap_or named caller) unnamed

module _ (s : State) (caller : List ℕ) (asked : Event) (reply : PlainReply) (may : MayStand (mark_of reply) caller asked (part_of s (subject_of caller asked))) (is : reply ≡ (step (mark_of reply) caller asked s).reply) where
  abbrev subject : List ℕ
  subject = subject_of caller asked

  abbrev after : Part
  after = (part_step (mark_of reply) caller asked (part_of s subject)).part

  abbrev new : State
  new = (step (mark_of reply) caller asked s).state

  effect : Effect (mark_of reply) caller asked reply (part_of s subject) after
  effect = step-effect (mark_of reply) caller asked reply (part_of s subject) may refl is

  -- where nobody is named, the caller's lists are the subject's, before and after
  old-own : named_by asked ≡ None → s.lists subject ≡ s.lists caller
  old-own unnamed = ap s.lists (own-subject caller asked unnamed)

  new-own : named_by asked ≡ None → new.lists caller ≡ after.lists
  new-own unnamed = own-lists s subject caller after (sym (own-subject caller asked unnamed))

  -- a user whose lists are as they were, or are the subject's with the same jobs
  same-jobs : SameJobs (s.lists subject) after.lists → (user : List ℕ) → SameJobs (s.lists user) (new.lists user)
  same-jobs same user =
      ⊎_elim
      (λ (own : bytes_eq user subject ≡ true).
      let who : user ≡ subject = (bytes_decides user subject).0 own in
      record {
        jobs = ap (λ (l : UserLists). l.jobs) (own-lists s subject user after who) ∙ same.jobs ∙ ap (λ (u : List ℕ). (s.lists u).jobs) (sym who);
        last = ap (λ (l : UserLists). l.last_job) (own-lists s subject user after who) ∙ same.last ∙ ap (λ (u : List ℕ). (s.lists u).last_job) (sym who);
      })
      (λ (other : bytes_eq user subject ≡ false).
      record {
        jobs = ap (λ (l : UserLists). l.jobs) (other-lists s subject user after other);
        last = ap (λ (l : UserLists). l.last_job) (other-lists s subject user after other);
      })
      (cases_Bool (bytes_eq user subject))

  stayed : SameJobs (s.lists subject) after.lists → ShowsNothing asked reply → JobEffect (s.lists caller) (new.lists caller) asked reply
  stayed same shown =
      let own = same-jobs same caller in
      JobsStayed (record { jobs = own.jobs; last = own.last; shown = shown })

  changed-jobs : (import : Option (List ℕ)) (answer : _) (lists : UserLists) → SameJobs lists (with_answer import answer lists)
  changed-jobs None answer lists = record { jobs = refl; last = refl }
  changed-jobs (Some id) answer lists = record { jobs = refl; last = refl }

  as-left : (old left : Part) → after ≡ left → SameJobs old.lists left.lists → SameJobs old.lists after.lists
  as-left old left same jobs = subst (λ (p : Part). SameJobs old.lists p.lists) (sym same) jobs

  of-caller : Effect (mark_of reply) caller asked reply (part_of s subject) after → JobEffect (s.lists caller) (new.lists caller) asked reply
  of-caller (Stayed e) = stayed (as-left (part_of s subject) (part_of s subject) e.left (record { jobs = refl; last = refl })) e.shown
  of-caller (Changed e) = stayed (as-left (part_of s subject) _ e.left (changed-jobs e.import _ (s.lists subject))) e.shown
  of-caller (Begun e) =
      let before = old-own e.unnamed in
      let lists : new.lists caller ≡ with_job (next_job e.name e.captured (Make e.graph e.spec) (s.lists caller)) (s.lists caller) =
      new-own e.unnamed ∙ ap (λ (p : Part). p.lists) e.left ∙ ap (λ (l : UserLists). with_job (next_job e.name e.captured (Make e.graph e.spec) l) l) before in
      JobBegun (record {
        graph = e.graph;
        name = e.name;
        spec = e.spec;
        captured = e.captured;
        jobs = ap (λ (l : UserLists). l.jobs) lists;
        last = ap (λ (l : UserLists). l.last_job) lists;
        shown = λ n b. e.shown n b ∙ ap (λ (l : UserLists). cond (eqb (l.last_job + 1) n) (BegunToMake e.spec e.captured) b) before;
      })
  of-caller (Ended e) =
      let before = old-own e.unnamed in
      let lists : new.lists caller ≡ without_job e.job (s.lists caller) =
      new-own e.unnamed ∙ ap (λ (p : Part). p.lists) e.left ∙ ap (without_job e.job) before in
      JobEnded (record {
        job = e.job;
        jobs = ap (λ (l : UserLists). l.jobs) lists;
        last = ap (λ (l : UserLists). l.last_job) lists;
        ending = e.ending;
        shown = e.shown;
      })
  of-caller (Made e) =
      let before = old-own e.unnamed in
      let lists : new.lists caller ≡ without_job e.job (with_graph e.graph e.projection (s.lists caller)) =
      new-own e.unnamed ∙ ap (λ (p : Part). p.lists) e.left ∙ ap (λ (l : UserLists). without_job e.job (with_graph e.graph e.projection l)) before in
      JobEnded (record {
        job = e.job;
        jobs = ap (λ (l : UserLists). l.jobs) lists;
        last = ap (λ (l : UserLists). l.last_job) lists;
        ending = e.ending;
        shown = e.shown;
      })
  of-caller (Asked e) =
      let before = old-own e.unnamed in
      let lists : new.lists caller ≡ with_asked e.name (s.lists caller) =
      new-own e.unnamed ∙ ap (λ (p : Part). p.lists) e.left ∙ ap (with_asked e.name) before in
      JobWasAsked (record {
        name = e.name;
        jobs = ap (λ (l : UserLists). l.jobs) lists;
        last = ap (λ (l : UserLists). l.last_job) lists;
        shown = e.shown;
      })
  of-caller (Dropped e) = stayed (as-left (part_of s subject) (with_lists (part_of s subject) (without_graph e.graph (s.lists subject))) e.left (record { jobs = refl; last = refl })) e.shown

  -- what an entry does to the jobs of its user
  pub caller-effect : JobEffect (s.lists caller) (new.lists caller) asked reply
  caller-effect = of-caller effect

  untouched : named_by asked ≡ None → (user : List ℕ) → user ≢ caller → SameJobs (s.lists user) (new.lists user)
  untouched unnamed user other =
      let lists = other-lists s subject user after (not-subject (own-subject caller asked unnamed)) in
      record { jobs = ap (λ (l : UserLists). l.jobs) lists; last = ap (λ (l : UserLists). l.last_job) lists }
    where
      not-subject : subject ≡ caller → bytes_eq user subject ≡ false
      not-subject who =
          ⊎_elim
          (λ (same : bytes_eq user subject ≡ true). absurd (other ((bytes_decides user subject).0 same ∙ who)))
          (λ (apart : bytes_eq user subject ≡ false). apart)
          (cases_Bool (bytes_eq user subject))

  of-other : Effect (mark_of reply) caller asked reply (part_of s subject) after → (user : List ℕ) → user ≢ caller → SameJobs (s.lists user) (new.lists user)
  of-other (Stayed e) user other = same-jobs (as-left (part_of s subject) (part_of s subject) e.left (record { jobs = refl; last = refl })) user
  of-other (Changed e) user other = untouched e.unnamed user other
  of-other (Begun e) user other = untouched e.unnamed user other
  of-other (Ended e) user other = untouched e.unnamed user other
  of-other (Made e) user other = untouched e.unnamed user other
  of-other (Asked e) user other = untouched e.unnamed user other
  of-other (Dropped e) user other = same-jobs (as-left (part_of s subject) (with_lists (part_of s subject) (without_graph e.graph (s.lists subject))) e.left (record { jobs = refl; last = refl })) user

  -- and to those of all others
  pub others-jobs : (user : List ℕ) → user ≢ caller → SameJobs (s.lists user) (new.lists user)
  others-jobs user other = of-other effect user other

-- ---- a job that goes on

-- a job is there afterwards that an event doesn't end
pub kept-after : (old new : UserLists) (asked : Event) (reply : PlainReply) (number : ℕ) (captured : PlainCapture) (spec : MakeSpec) → JobEffect old new asked reply → (ends_job number asked reply ≡ true → ⊥) → IsSomeMaking captured spec (job_of number old) → IsSomeMaking captured spec (job_of number new)
kept-after old new asked reply number captured spec (JobsStayed e) goes has =
    subst (λ (xs : List Job). IsSomeMaking captured spec (find (is_numbered number) xs)) (sym e.jobs) has
kept-after old new asked reply number captured spec (JobBegun e) goes has =
    subst (λ (xs : List Job). IsSomeMaking captured spec (find (is_numbered number) xs)) (sym e.jobs)
    (found-in-front captured spec number old.jobs (next_job e.name e.captured (Make e.graph e.spec) old ∷ []) has)
kept-after old new asked reply number captured spec (JobEnded e) goes has =
    subst (λ (xs : List Job). IsSomeMaking captured spec (find (is_numbered number) xs)) (sym e.jobs)
    (⊎_elim
    (λ (same : eqb e.job number ≡ true). absurd (goes (subst (λ (n : ℕ). ends_job n asked reply ≡ true) (eqb-true e.job number same) e.ending)))
    (λ (apart : eqb e.job number ≡ false). found-without captured spec number e.job old.jobs apart has)
    (cases_Bool (eqb e.job number)))
kept-after old new asked reply number captured spec (JobWasAsked e) goes has =
    subst (λ (xs : List Job). IsSomeMaking captured spec (find (is_numbered number) xs)) (sym e.jobs) (found-asked captured spec number e.name old.jobs has)

-- ---- a job as the entries show it

abbrev spec_in : MakeSpec → Shown → MakeSpec
spec_in default NotBegun = default
spec_in default (BegunToMake spec captured) = spec
spec_in default Over = default

abbrev capture_in : PlainCapture → Shown → PlainCapture
capture_in default NotBegun = default
capture_in default (BegunToMake spec captured) = captured
capture_in default Over = default

-- the job that begins is the one that is shown
begun-there : (old new : UserLists) (asked : Event) (reply : PlainReply) (e : JobBegins old new asked reply) → AllByRecursion (IsNumberGiven old.last_job) old.jobs → (number : ℕ) (captured : PlainCapture) (spec : MakeSpec) → old.last_job + 1 ≡ number → BegunToMake e.spec e.captured ≡ BegunToMake spec captured → IsSomeMaking captured spec (job_of number new)
begun-there old new asked reply e up number captured spec is same =
    let job = next_job e.name e.captured (Make e.graph e.spec) old in
    let found : job_of number new ≡ Some job = ap (find (is_numbered number)) e.jobs ∙ found-behind number old.last_job old.jobs job up (omega (arith, is)) is in
    let making : IsMaking captured spec job = record {
      stage = refl;
      capture = ap (capture_in captured) same;
      asked_for = ap (Make e.graph) (ap (spec_in spec) same);
    } in
    subst (IsSomeMaking captured spec) (sym found) making

-- what is shown of a job after an event holds of it
pub shown-there : (old new : UserLists) (asked : Event) (reply : PlainReply) → JobEffect old new asked reply → AllByRecursion (IsNumberGiven old.last_job) old.jobs → (number : ℕ) (before : Shown) (captured : PlainCapture) (spec : MakeSpec) → (before ≡ BegunToMake spec captured → IsSomeMaking captured spec (job_of number old)) → shown_after number asked reply before ≡ BegunToMake spec captured → IsSomeMaking captured spec (job_of number new)
shown-there old new asked reply (JobsStayed e) up number before captured spec there shows =
    subst (λ (xs : List Job). IsSomeMaking captured spec (find (is_numbered number) xs)) (sym e.jobs) (there (sym (e.shown number before) ∙ shows))
shown-there old new asked reply (JobBegun e) up number before captured spec there shows =
    ⊎_elim
    (λ (same : eqb (old.last_job + 1) number ≡ true).
    begun-there old new asked reply e up number captured spec (eqb-true (old.last_job + 1) number same)
    (sym (e.shown number before ∙ cond-true (eqb (old.last_job + 1) number) (BegunToMake e.spec e.captured) before same) ∙ shows))
    (λ (apart : eqb (old.last_job + 1) number ≡ false).
    subst (λ (xs : List Job). IsSomeMaking captured spec (find (is_numbered number) xs)) (sym e.jobs)
    (found-in-front captured spec number old.jobs (next_job e.name e.captured (Make e.graph e.spec) old ∷ [])
    (there (sym (e.shown number before ∙ cond-false (eqb (old.last_job + 1) number) (BegunToMake e.spec e.captured) before apart) ∙ shows))))
    (cases_Bool (eqb (old.last_job + 1) number))
shown-there old new asked reply (JobEnded e) up number before captured spec there shows =
    ⊎_elim
    (λ (same : eqb e.job number ≡ true).
    absurd (let clash : Over ≡ BegunToMake spec captured = sym (e.shown number before ∙ cond-true (eqb e.job number) Over before same) ∙ shows in cc))
    (λ (apart : eqb e.job number ≡ false).
    subst (λ (xs : List Job). IsSomeMaking captured spec (find (is_numbered number) xs)) (sym e.jobs)
    (found-without captured spec number e.job old.jobs apart
    (there (sym (e.shown number before ∙ cond-false (eqb e.job number) Over before apart) ∙ shows))))
    (cases_Bool (eqb e.job number))
shown-there old new asked reply (JobWasAsked e) up number before captured spec there shows =
    subst (λ (xs : List Job). IsSomeMaking captured spec (find (is_numbered number) xs)) (sym e.jobs)
    (found-asked captured spec number e.name old.jobs (there (sym (e.shown number before) ∙ shows)))

-- numbers only rise
pub last-rises : (old new : UserLists) (asked : Event) (reply : PlainReply) → JobEffect old new asked reply → old.last_job ≤ new.last_job
last-rises old new asked reply (JobsStayed e) = omega (arith, e.last)
last-rises old new asked reply (JobBegun e) = omega (arith, e.last)
last-rises old new asked reply (JobEnded e) = omega (arith, e.last)
last-rises old new asked reply (JobWasAsked e) = omega (arith, e.last)
