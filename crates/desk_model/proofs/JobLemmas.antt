-- Jobs of a user, with one more, without one, and with one that is asked to end.
use Rattle.std.proofs.Common.{◌≡◌, ◌≢◌, ℕ, ◌+◌, ◌<◌, ◌≤◌, ⊎_elim, Bool, true, false, cond, eqb, List, [], ◌∷◌, ◌++◌, Option, Some, None, refl, sym, ap, ◌∙◌, subst, arith}
use Rattle.std.specs.List.{find, AllByRecursion}
use Rattle.std.specs.Option.{option_or}
use Rattle.std.proofs.lemmas.Bool.{cases_Bool, cond-true, cond-false, eqb-true, eq-eqb}
use Rattle.std.proofs.lemmas.List.Folds.{find-append}
use Rattle.graph_model.specs.Lists.{Pairwise}
use Rattle.graph_making.specs.declared.capture.MakeSpec.{MakeSpec}
use Rattle.graph_making.specs.Making.{PlainCapture}
use Rattle.desk_model.specs.State.{Job}
use Rattle.desk_model.specs.Jobs.{is_numbered, is_job_named, jobs_without, jobs_asked, asked_to_end}
use Rattle.desk_model.specs.Step.{IsMaking, IsSomeMaking}
use Rattle.desk_model.specs.Valid.{IsNumberGiven}

-- ---- what holds of each job, and of each two

module _ (P : Job → Type 0) where
  pub All-without : (number : ℕ) (jobs : List Job) → AllByRecursion P jobs → AllByRecursion P (jobs_without number jobs)
  All-without number [] all = tt
  All-without number (job ∷ jobs) all =
      elim (is_numbered number job) as (λ b. AllByRecursion P (cond b jobs (job ∷ jobs_without number jobs))) [
        | true ↦ all.1
        | false ↦ (all.0, All-without number jobs all.1)
      ]

  pub All-asked : ((job : Job) → P job → P (asked_to_end job)) → (name : List ℕ) (jobs : List Job) → AllByRecursion P jobs → AllByRecursion P (jobs_asked name jobs)
  All-asked keeps name [] all = tt
  All-asked keeps name (job ∷ jobs) all =
      elim (is_job_named name job) as (λ b. AllByRecursion P (cond b (asked_to_end job ∷ jobs) (job ∷ jobs_asked name jobs))) [
        | true ↦ (keeps job all.0, all.1)
        | false ↦ (all.0, All-asked keeps name jobs all.1)
      ]

module _ (R : Job → Job → Type 0) where
  pub Pairwise-without : (number : ℕ) (jobs : List Job) → Pairwise R jobs → Pairwise R (jobs_without number jobs)
  Pairwise-without number [] pairs = tt
  Pairwise-without number (job ∷ jobs) pairs =
      elim (is_numbered number job) as (λ b. Pairwise R (cond b jobs (job ∷ jobs_without number jobs))) [
        | true ↦ pairs.1
        | false ↦ (All-without (R job) number jobs pairs.0, Pairwise-without number jobs pairs.1)
      ]

  pub Pairwise-asked : ((a b : Job) → R a b → R (asked_to_end a) b) → ((a b : Job) → R a b → R a (asked_to_end b)) → (name : List ℕ) (jobs : List Job) → Pairwise R jobs → Pairwise R (jobs_asked name jobs)
  Pairwise-asked first second name [] pairs = tt
  Pairwise-asked first second name (job ∷ jobs) pairs =
      elim (is_job_named name job) as (λ b. Pairwise R (cond b (asked_to_end job ∷ jobs) (job ∷ jobs_asked name jobs))) [
        | true ↦ (first_all jobs pairs.0, pairs.1)
        | false ↦ (All-asked (R job) (second job) name jobs pairs.0, Pairwise-asked first second name jobs pairs.1)
      ]
    where
      first_all : (others : List Job) → AllByRecursion (R job) others → AllByRecursion (R (asked_to_end job)) others
      first_all [] all = tt
      first_all (other ∷ others) all = (first job other all.0, first_all others all.1)

-- ---- finding a job that makes a graph

module _ (captured : PlainCapture) (spec : MakeSpec) where
  pub found-in-front : (number : ℕ) (jobs more : List Job) → IsSomeMaking captured spec (find (is_numbered number) jobs) → IsSomeMaking captured spec (find (is_numbered number) (jobs ++ more))
  found-in-front number jobs more has = subst (IsSomeMaking captured spec) (sym (find-append (is_numbered number) jobs more)) (in_front (find (is_numbered number) jobs) has)
    where
      in_front : (found : Option Job) → IsSomeMaking captured spec found → IsSomeMaking captured spec (option_or found (find (is_numbered number) more))
      in_front None has = absurd has
      in_front (Some job) has = has

  -- another job's end leaves a job
  pub found-without : (number gone : ℕ) (jobs : List Job) → eqb gone number ≡ false → IsSomeMaking captured spec (find (is_numbered number) jobs) → IsSomeMaking captured spec (find (is_numbered number) (jobs_without gone jobs))
  found-without number gone [] apart has = has
  found-without number gone (job ∷ jobs) apart has =
      ⊎_elim
      (λ (goes : is_numbered gone job ≡ true).
      let is : job.number ≡ gone = eqb-true job.number gone goes in
      let other : is_numbered number job ≡ false = ap (λ n. eqb n number) is ∙ apart in
      subst (λ (rest : List Job). IsSomeMaking captured spec (find (is_numbered number) rest)) (sym (cond-true (is_numbered gone job) jobs (job ∷ jobs_without gone jobs) goes))
      (subst (IsSomeMaking captured spec) (cond-false (is_numbered number job) (Some job) (find (is_numbered number) jobs) other) has))
      (λ (remains : is_numbered gone job ≡ false).
      subst (λ (rest : List Job). IsSomeMaking captured spec (find (is_numbered number) rest)) (sym (cond-false (is_numbered gone job) jobs (job ∷ jobs_without gone jobs) remains))
      (⊎_elim
      (λ (same : is_numbered number job ≡ true).
      subst (IsSomeMaking captured spec) (sym (cond-true (is_numbered number job) (Some job) (find (is_numbered number) (jobs_without gone jobs)) same))
      (subst (IsSomeMaking captured spec) (cond-true (is_numbered number job) (Some job) (find (is_numbered number) jobs) same) has))
      (λ (other : is_numbered number job ≡ false).
      subst (IsSomeMaking captured spec) (sym (cond-false (is_numbered number job) (Some job) (find (is_numbered number) (jobs_without gone jobs)) other))
      (found-without number gone jobs apart
      (subst (IsSomeMaking captured spec) (cond-false (is_numbered number job) (Some job) (find (is_numbered number) jobs) other) has)))
      (cases_Bool (is_numbered number job))))
      (cases_Bool (is_numbered gone job))

  -- a job that is asked to end is the one that it was but for that
  asked-making : (job : Job) → IsMaking captured spec job → IsMaking captured spec (asked_to_end job)
  asked-making job is = record { stage = is.stage; capture = is.capture; asked_for = is.asked_for }

  pub found-asked : (number : ℕ) (name : List ℕ) (jobs : List Job) → IsSomeMaking captured spec (find (is_numbered number) jobs) → IsSomeMaking captured spec (find (is_numbered number) (jobs_asked name jobs))
  found-asked number name [] has = has
  found-asked number name (job ∷ jobs) has =
      ⊎_elim
      (λ (named : is_job_named name job ≡ true).
      subst (λ (rest : List Job). IsSomeMaking captured spec (find (is_numbered number) rest)) (sym (cond-true (is_job_named name job) (asked_to_end job ∷ jobs) (job ∷ jobs_asked name jobs) named))
      (⊎_elim
      (λ (same : is_numbered number job ≡ true).
      subst (IsSomeMaking captured spec) (sym (cond-true (is_numbered number job) (Some (asked_to_end job)) (find (is_numbered number) jobs) same))
      (asked-making job (subst (IsSomeMaking captured spec) (cond-true (is_numbered number job) (Some job) (find (is_numbered number) jobs) same) has)))
      (λ (other : is_numbered number job ≡ false).
      subst (IsSomeMaking captured spec) (sym (cond-false (is_numbered number job) (Some (asked_to_end job)) (find (is_numbered number) jobs) other))
      (subst (IsSomeMaking captured spec) (cond-false (is_numbered number job) (Some job) (find (is_numbered number) jobs) other) has))
      (cases_Bool (is_numbered number job))))
      (λ (unnamed : is_job_named name job ≡ false).
      subst (λ (rest : List Job). IsSomeMaking captured spec (find (is_numbered number) rest)) (sym (cond-false (is_job_named name job) (asked_to_end job ∷ jobs) (job ∷ jobs_asked name jobs) unnamed))
      (⊎_elim
      (λ (same : is_numbered number job ≡ true).
      subst (IsSomeMaking captured spec) (sym (cond-true (is_numbered number job) (Some job) (find (is_numbered number) (jobs_asked name jobs)) same))
      (subst (IsSomeMaking captured spec) (cond-true (is_numbered number job) (Some job) (find (is_numbered number) jobs) same) has))
      (λ (other : is_numbered number job ≡ false).
      subst (IsSomeMaking captured spec) (sym (cond-false (is_numbered number job) (Some job) (find (is_numbered number) (jobs_asked name jobs)) other))
      (found-asked number name jobs (subst (IsSomeMaking captured spec) (cond-false (is_numbered number job) (Some job) (find (is_numbered number) jobs) other) has)))
      (cases_Bool (is_numbered number job))))
      (cases_Bool (is_job_named name job))

-- ---- a new job

-- no job has a number above all
none-above : (number last : ℕ) (jobs : List Job) → AllByRecursion (IsNumberGiven last) jobs → last < number → find (is_numbered number) jobs ≡ None
none-above number last [] up above = refl
none-above number last (job ∷ jobs) up above =
    ⊎_elim
    (λ (same : is_numbered number job ≡ true). let is : job.number ≡ number = eqb-true job.number number same in absurd (omega (arith, up.0)))
    (λ (other : is_numbered number job ≡ false). cond-false (is_numbered number job) (Some job) (find (is_numbered number) jobs) other ∙ none-above number last jobs up.1 above)
    (cases_Bool (is_numbered number job))

pub found-behind : (number last : ℕ) (jobs : List Job) (job : Job) → AllByRecursion (IsNumberGiven last) jobs → last < number → job.number ≡ number → find (is_numbered number) (jobs ++ job ∷ []) ≡ Some job
found-behind number last jobs job up above is =
    find-append (is_numbered number) jobs (job ∷ [])
    ∙ ap (λ (found : Option Job). option_or found (find (is_numbered number) (job ∷ []))) (none-above number last jobs up above)
    ∙ cond-true (is_numbered number job) (Some job) None (eq-eqb job.number number is)
