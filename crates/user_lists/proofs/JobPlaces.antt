-- Where a job stands, and what changes at that place.
use Rattle.std.proofs.Common.{◌≡◌, ℕ, ◌+◌, ◌<◌, Bool, true, false, cond, List, [], ◌∷◌, length, get_or, Option, Some, None, refl, sym, ap, ◌∙◌, zero, suc, ⊎_elim, arith}
use Rattle.std.specs.List.{find, list_any, position, position_from, remove, slice_set}
use Rattle.std.proofs.lemmas.Bool.{cases_Bool, cond-true, cond-false}
use Rattle.std.proofs.lemmas.Iterator.Adapters.{position_from-zero}
use Rattle.std.proofs.lemmas.List.Quantifiers.{position-Some}
use Rattle.desk_model.specs.State.{Job}
use Rattle.desk_model.specs.Jobs.{is_numbered, is_job_named, jobs_without, jobs_asked, asked_to_end}

-- the first job that passes a test
pub record IsFirst (test : Job → Bool) (jobs : List Job) (place : ℕ) (d : Job) : Type 0 where
  pub within : place < length jobs
  pub holds : test (get_or jobs place d) ≡ true
  pub before : (k : ℕ) → k < place → test (get_or jobs k d) ≡ false

pub first_of : (test : Job → Bool) (jobs : List Job) (place : ℕ) (d : Job) → position test jobs ≡ Some place → IsFirst test jobs place d
first_of test jobs place d found =
    let facts = position-Some test jobs place d found in
    record { within = facts.0; holds = facts.1; before = facts.2 }

first_behind : (test : Job → Bool) (job : Job) (jobs : List Job) (place : ℕ) (d : Job) → IsFirst test (job ∷ jobs) (suc place) d → IsFirst test jobs place d
first_behind test job jobs place d first = record {
  within = omega (arith, first.within);
  holds = first.holds;
  before = λ k h. first.before (suc k) (omega arith);
}

differs : (test : Job → Bool) (job : Job) (jobs : List Job) (place : ℕ) (d : Job) → IsFirst test (job ∷ jobs) (suc place) d → test job ≡ false
differs test job jobs place d first = first.before 0 (omega arith)

-- it is what is found
pub find-at : (test : Job → Bool) (jobs : List Job) (place : ℕ) (d : Job) → IsFirst test jobs place d → find test jobs ≡ Some (get_or jobs place d)
find-at test [] place d first = absurd (omega (arith, first.within))
find-at test (job ∷ jobs) zero d first = cond-true (test job) (Some job) (find test jobs) first.holds
find-at test (job ∷ jobs) (suc place) d first =
    cond-false (test job) (Some job) (find test jobs) (differs test job jobs place d first)
    ∙ find-at test jobs place d (first_behind test job jobs place d first)

-- and there is one
pub any-at : (test : Job → Bool) (jobs : List Job) (place : ℕ) (d : Job) → IsFirst test jobs place d → list_any test jobs ≡ true
any-at test [] place d first = absurd (omega (arith, first.within))
any-at test (job ∷ jobs) zero d first = rw first.holds refl
any-at test (job ∷ jobs) (suc place) d first =
    rw (differs test job jobs place d first) (any-at test jobs place d (first_behind test job jobs place d first))

-- the job of a number is what goes
pub without-at : (number : ℕ) (jobs : List Job) (place : ℕ) (d : Job) → IsFirst (is_numbered number) jobs place d → jobs_without number jobs ≡ remove jobs place
without-at number [] place d first = absurd (omega (arith, first.within))
without-at number (job ∷ jobs) zero d first = cond-true (is_numbered number job) jobs (job ∷ jobs_without number jobs) first.holds
without-at number (job ∷ jobs) (suc place) d first =
    cond-false (is_numbered number job) jobs (job ∷ jobs_without number jobs) (differs (is_numbered number) job jobs place d first)
    ∙ ap (λ rest. job ∷ rest) (without-at number jobs place d (first_behind (is_numbered number) job jobs place d first))

-- the job of a name is asked to end
pub asked-at : (name : List ℕ) (jobs : List Job) (place : ℕ) (d : Job) → IsFirst (is_job_named name) jobs place d → jobs_asked name jobs ≡ slice_set jobs place (asked_to_end (get_or jobs place d))
asked-at name [] place d first = absurd (omega (arith, first.within))
asked-at name (job ∷ jobs) zero d first =
    cond-true (is_job_named name job) (asked_to_end job ∷ jobs) (job ∷ jobs_asked name jobs) first.holds
asked-at name (job ∷ jobs) (suc place) d first =
    cond-false (is_job_named name job) (asked_to_end job ∷ jobs) (job ∷ jobs_asked name jobs) (differs (is_job_named name) job jobs place d first)
    ∙ ap (λ rest. job ∷ rest) (asked-at name jobs place d (first_behind (is_job_named name) job jobs place d first))

-- nothing is found where no place is
nowhere_from : (test : Job → Bool) (jobs : List Job) (i : ℕ) → position_from test i jobs ≡ None → find test jobs ≡ None
nowhere_from test [] i none = refl
nowhere_from test (job ∷ jobs) i none =
    ⊎_elim
    (λ (holds : test job ≡ true). absurd (let there = rw holds at none in cc))
    (λ (fails : test job ≡ false).
    cond-false (test job) (Some job) (find test jobs) fails ∙ nowhere_from test jobs (i + 1) (rw fails at none))
    (cases_Bool (test job))

pub nowhere : (test : Job → Bool) (jobs : List Job) → position test jobs ≡ None → find test jobs ≡ None
nowhere test jobs none = nowhere_from test jobs 0 (sym (position_from-zero test jobs) ∙ none)

-- and then there is none
pub none-found : (test : Job → Bool) (jobs : List Job) → find test jobs ≡ None → list_any test jobs ≡ false
none-found test [] none = refl
none-found test (job ∷ jobs) none =
    ⊎_elim
    (λ (holds : test job ≡ true). absurd (let there = rw holds at none in cc))
    (λ (fails : test job ≡ false). rw fails (none-found test jobs (rw fails at none)))
    (cases_Bool (test job))

-- and nothing goes
pub without-nowhere : (number : ℕ) (jobs : List Job) → find (is_numbered number) jobs ≡ None → jobs_without number jobs ≡ jobs
without-nowhere number [] none = refl
without-nowhere number (job ∷ jobs) none =
    ⊎_elim
    (λ (holds : is_numbered number job ≡ true). absurd (let there = rw holds at none in cc))
    (λ (fails : is_numbered number job ≡ false).
    cond-false (is_numbered number job) jobs (job ∷ jobs_without number jobs) fails
    ∙ ap (λ rest. job ∷ rest) (without-nowhere number jobs (rw fails at none)))
    (cases_Bool (is_numbered number job))
