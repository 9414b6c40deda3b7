-- What a pass's own entries permit is ready: what they show of a job holds in the state after the history.
use Rattle.std.proofs.Common.{◌≡◌, ◌≢◌, ◌⊎◌, ℕ, ◌+◌, ◌<◌, ◌≤◌, ◌&&◌, not, inl, inr, ⊎_elim, Bool, true, false, cond, eqb, List, [], ◌∷◌, ◌++◌, Option, Some, None, IsSome, refl, sym, ap, ◌∙◌, subst, arith}
use Rattle.std.specs.List.{AllByRecursion, find}
use Rattle.std.specs.Str.{bytes_eq}
use Rattle.std.specs.Cmp.Lexicographic.{bytes_decides}
use Rattle.std.proofs.lemmas.Bool.{cases_Bool, cond-true, cond-false, true≢false, eqb-true, eq-eqb}
use Rattle.std.proofs.lemmas.List.{append_assoc}
use Rattle.std.proofs.lemmas.List.Elements.{filter-append}
use Rattle.graph_making.specs.declared.capture.MakeSpec.{MakeSpec}
use Rattle.graph_making.specs.Making.{PlainCapture}
use Rattle.desk_model.specs.declared.asked.Event.{Event}
use Rattle.desk_model.specs.declared.asked.Event.TheVariants as event
use Rattle.desk_model.specs.declared.asked.Event.TheVariants.{Change, StoreRows, ProjectBegin, ProjectEnd, Abandon, Terminate, Exists, GraphRows, Jobs}
use Rattle.desk_model.specs.Replies.{PlainReply}
use Rattle.desk_model.specs.State.{State, Job, UserLists, part_of}
use Rattle.desk_model.specs.Jobs.{job_of, is_numbered}
use Rattle.desk_model.specs.Step.{IsMaking, IsSomeMaking, IsReady, IsWellFormed, IsStep, step, mark_of}
use Rattle.desk_model.specs.Valid.{IsNumberGiven, IsValidState, IsValidLists}
use Rattle.desk_model.specs.History.{HistoryEntry, state_after, state_after_entry, is_of_pass, own_entries, Shown, NotBegun, BegunToMake, Over, IsGoing, shown_after, shown_by, shown_from, shown_of, Permits, IsLegalEntry, AreLegal, PermittedIsReady}
use Rattle.desk_model.specs.Going.{ends_job}
use Rattle.desk_model.proofs.JobEffects.{JobEffect, JobsStayed, JobBegun, JobEnded, JobWasAsked, caller-effect, others-jobs, kept-after, shown-there, last-rises}
use Rattle.desk_model.proofs.Valid.{valid-after-entry}

-- ---- entries, and one more

own-of : (p : ℕ) (h : List HistoryEntry) (e : HistoryEntry) → eqb e.pass p ≡ true → own_entries p (h ++ e ∷ []) ≡ own_entries p h ++ e ∷ []
own-of p h e same = filter-append (is_of_pass p) h (e ∷ []) ∙ ap (λ (b : Bool). own_entries p h ++ cond b (e ∷ []) []) same

own-not : (p : ℕ) (h : List HistoryEntry) (e : HistoryEntry) → eqb e.pass p ≡ false → own_entries p (h ++ e ∷ []) ≡ own_entries p h ++ []
own-not p h e other = filter-append (is_of_pass p) h (e ∷ []) ∙ ap (λ (b : Bool). own_entries p h ++ cond b (e ∷ []) []) other

nothing-more : (h : List HistoryEntry) → h ++ [] ≡ h
nothing-more [] = refl
nothing-more (x ∷ h) = ap (λ rest. x ∷ rest) (nothing-more h)

shown-more : (user : List ℕ) (number : ℕ) (before : Shown) (h : List HistoryEntry) (e : HistoryEntry) → shown_from user number before (h ++ e ∷ []) ≡ shown_by user number e (shown_from user number before h)
shown-more user number before [] e = refl
shown-more user number before (x ∷ h) e = shown-more user number (shown_by user number x before) h e

-- what the entries of a pass show of a job
abbrev pub ShownIn : List HistoryEntry → ℕ → List ℕ → ℕ → Shown
ShownIn h pass user number = shown_of user number (own_entries pass h)

-- another pass's entry, or another user's, shows nothing more
shown-not : (h : List HistoryEntry) (e : HistoryEntry) (pass : ℕ) (user : List ℕ) (number : ℕ) → eqb e.pass pass ≡ false → ShownIn (h ++ e ∷ []) pass user number ≡ ShownIn h pass user number
shown-not h e pass user number other = ap (shown_of user number) (own-not pass h e other ∙ nothing-more (own_entries pass h))

shown-user : (h : List HistoryEntry) (e : HistoryEntry) (pass : ℕ) (user : List ℕ) (number : ℕ) → eqb e.pass pass ≡ true → ShownIn (h ++ e ∷ []) pass user number ≡ shown_by user number e (ShownIn h pass user number)
shown-user h e pass user number same = ap (shown_of user number) (own-of pass h e same) ∙ shown-more user number NotBegun (own_entries pass h) e

-- a job was begun, as is shown of it
abbrev pub WasBegun : Shown → Type 0
WasBegun NotBegun = ⊥
WasBegun (BegunToMake spec captured) = Unit {0}
WasBegun Over = Unit {0}

going-begun : (shown : Shown) → IsGoing shown → WasBegun shown
going-begun NotBegun going = absurd going
going-begun (BegunToMake spec captured) going = tt
going-begun Over going = absurd going

making-begun : (shown : Shown) (spec : MakeSpec) (captured : PlainCapture) → shown ≡ BegunToMake spec captured → WasBegun shown
making-begun shown spec captured is = subst WasBegun (sym is) tt

-- ---- what holds after each history

-- states are valid; numbers of jobs that entries show were given; a job is begun by one pass; and a job that a pass's entries show
-- as begun and not ended is there
record Holds (h : List HistoryEntry) (s : State) : Type 0 where
  pub valid : IsValidState s
  pub given : (pass : ℕ) (user : List ℕ) (number : ℕ) → WasBegun (ShownIn h pass user number) → number ≤ (s.lists user).last_job
  pub one : (pass other : ℕ) (user : List ℕ) (number : ℕ) → WasBegun (ShownIn h pass user number) → WasBegun (ShownIn h other user number) → pass ≡ other
  pub there : (pass : ℕ) (user : List ℕ) (number : ℕ) (captured : PlainCapture) (spec : MakeSpec) → ShownIn h pass user number ≡ BegunToMake spec captured → IsSomeMaking captured spec (job_of number (s.lists user))

-- what ends a job is permitted to a pass whose entries show it as going on
ended-going : (own : List HistoryEntry) (user : List ℕ) (number : ℕ) (asked : Event) (reply : PlainReply) → ends_job number asked reply ≡ true → Permits own user asked → WasBegun (shown_of user number own)
ended-going own user number (Change import change) reply ending permitted = absurd (true≢false (sym ending))
ended-going own user number (StoreRows key labels) reply ending permitted = absurd (true≢false (sym ending))
ended-going own user number (ProjectBegin graph name spec) reply ending permitted = absurd (true≢false (sym ending))
ended-going own user number (ProjectEnd job built) reply ending permitted =
    subst (λ (n : ℕ). WasBegun (shown_of user n own)) (eqb-true job number (and-left (eqb job number) _ ending))
    (making-begun (shown_of user job own) built.spec built.from permitted)
  where
    and-left : (a b : Bool) → (a && b) ≡ true → a ≡ true
    and-left true b both = refl
    and-left false b both = absurd (true≢false (sym both))
ended-going own user number (Abandon job) reply ending permitted =
    subst (λ (n : ℕ). WasBegun (shown_of user n own)) (eqb-true job number ending) (going-begun (shown_of user job own) permitted)
ended-going own user number (Terminate name) reply ending permitted = absurd (true≢false (sym ending))
ended-going own user number (Exists graph) reply ending permitted = absurd (true≢false (sym ending))
ended-going own user number (event.List graph of) reply ending permitted = absurd (true≢false (sym ending))
ended-going own user number (event.Drop graph must of) reply ending permitted = absurd (true≢false (sym ending))
ended-going own user number (GraphRows graph key labels) reply ending permitted = absurd (true≢false (sym ending))
ended-going own user number Jobs reply ending permitted = absurd (true≢false (sym ending))

-- what is shown as begun after an event was begun before, or is the next number
begun-before : (old new : UserLists) (asked : Event) (reply : PlainReply) → JobEffect old new asked reply → (number : ℕ) (before : Shown) → ((job : ℕ) → ends_job job asked reply ≡ true → job ≡ number → WasBegun before) → WasBegun (shown_after number asked reply before) → WasBegun before ⊎ ((old.last_job + 1 ≡ number) × (new.last_job ≡ old.last_job + 1))
begun-before old new asked reply (JobsStayed e) number before ended begun = inl (subst WasBegun (e.shown number before) begun)
begun-before old new asked reply (JobBegun e) number before ended begun =
    ⊎_elim
    (λ (same : eqb (old.last_job + 1) number ≡ true). inr (eqb-true (old.last_job + 1) number same, e.last))
    (λ (apart : eqb (old.last_job + 1) number ≡ false).
    inl (subst WasBegun (e.shown number before ∙ cond-false (eqb (old.last_job + 1) number) (BegunToMake e.spec e.captured) before apart) begun))
    (cases_Bool (eqb (old.last_job + 1) number))
begun-before old new asked reply (JobEnded e) number before ended begun =
    ⊎_elim
    (λ (same : eqb e.job number ≡ true). inl (ended e.job e.ending (eqb-true e.job number same)))
    (λ (apart : eqb e.job number ≡ false). inl (subst WasBegun (e.shown number before ∙ cond-false (eqb e.job number) Over before apart) begun))
    (cases_Bool (eqb e.job number))
begun-before old new asked reply (JobWasAsked e) number before ended begun = inl (subst WasBegun (e.shown number before) begun)

-- ---- one more entry

module _ (h : List HistoryEntry) (s : State) (e : HistoryEntry) (holds : Holds h s) (legal : IsLegalEntry s h e) (ready : IsReady e.event (part_of s e.user)) where
  abbrev next : State
  next = state_after_entry s e

  effect : JobEffect (s.lists e.user) (next.lists e.user) e.event e.reply
  effect = caller-effect s e.user e.event e.reply legal.mark legal.reply

  up : (user : List ℕ) → AllByRecursion (IsNumberGiven (s.lists user).last_job) (s.lists user).jobs
  up user = (holds.valid user).given

  -- an entry of the user, or another's
  own-or-other : (user : List ℕ) → (e.user ≡ user) ⊎ (user ≢ e.user)
  own-or-other user =
      ⊎_elim
      (λ (same : bytes_eq e.user user ≡ true). inl ((bytes_decides e.user user).0 same))
      (λ (apart : bytes_eq e.user user ≡ false). inr (λ is. true≢false (sym ((bytes_decides e.user user).1 (sym is)) ∙ apart)))
      (cases_Bool (bytes_eq e.user user))

  rises : (user : List ℕ) → (s.lists user).last_job ≤ (next.lists user).last_job
  rises user =
      ⊎_elim
      (λ (own : e.user ≡ user). subst (λ (u : List ℕ). (s.lists u).last_job ≤ (next.lists u).last_job) own (last-rises (s.lists e.user) (next.lists e.user) e.event e.reply effect))
      (λ (other : user ≢ e.user). let same = (others-jobs s e.user e.event e.reply legal.mark legal.reply user other).last in omega (arith, same))
      (own-or-other user)

  -- what an entry shows of a job of its user, and of another's
  by-own : (user : List ℕ) (number : ℕ) (before : Shown) → e.user ≡ user → shown_by user number e before ≡ shown_after number e.event e.reply before
  by-own user number before own = cond-true (bytes_eq e.user user) (shown_after number e.event e.reply before) before ((bytes_decides e.user user).1 own)

  by-other : (user : List ℕ) (number : ℕ) (before : Shown) → user ≢ e.user → shown_by user number e before ≡ before
  by-other user number before other =
      ⊎_elim
      (λ (same : bytes_eq e.user user ≡ true). absurd (other (sym ((bytes_decides e.user user).0 same))))
      (λ (apart : bytes_eq e.user user ≡ false). cond-false (bytes_eq e.user user) (shown_after number e.event e.reply before) before apart)
      (cases_Bool (bytes_eq e.user user))

  -- the entry gave this number
  record Gave (pass : ℕ) (user : List ℕ) (number : ℕ) : Type 0 where
    pub pass_is : e.pass ≡ pass
    pub is : (s.lists user).last_job + 1 ≡ number
    pub last : (next.lists user).last_job ≡ (s.lists user).last_job + 1

  -- what is begun was begun before, or by this entry
  begun-split : (pass : ℕ) (user : List ℕ) (number : ℕ) → WasBegun (ShownIn (h ++ e ∷ []) pass user number) → WasBegun (ShownIn h pass user number) ⊎ Gave pass user number
  begun-split pass user number begun =
      ⊎_elim
      (λ (same : eqb e.pass pass ≡ true).
      let by = subst WasBegun (shown-user h e pass user number same) begun in
      ⊎_elim
      (λ (own : e.user ≡ user).
      ⊎_elim
      (λ (before : WasBegun (ShownIn h pass user number)). inl before)
      (λ (gave : ((s.lists e.user).last_job + 1 ≡ number) × ((next.lists e.user).last_job ≡ (s.lists e.user).last_job + 1)).
      inr (record {
        pass_is = eqb-true e.pass pass same;
        is = subst (λ (u : List ℕ). (s.lists u).last_job + 1 ≡ number) own gave.0;
        last = subst (λ (u : List ℕ). (next.lists u).last_job ≡ (s.lists u).last_job + 1) own gave.1;
      }))
      (begun-before (s.lists e.user) (next.lists e.user) e.event e.reply effect number (ShownIn h pass user number)
      (λ job ending is.
      let shown = ended-going (own_entries e.pass h) e.user job e.event e.reply ending legal.permitted in
      subst (λ (p : ℕ). WasBegun (ShownIn h p user number)) (eqb-true e.pass pass same)
      (subst (λ (u : List ℕ). WasBegun (ShownIn h e.pass u number)) own
      (subst (λ (n : ℕ). WasBegun (ShownIn h e.pass e.user n)) is shown)))
      (subst WasBegun (by-own user number (ShownIn h pass user number) own) by)))
      (λ (other : user ≢ e.user). inl (subst WasBegun (by-other user number (ShownIn h pass user number) other) by))
      (own-or-other user))
      (λ (other : eqb e.pass pass ≡ false). inl (subst WasBegun (shown-not h e pass user number other) begun))
      (cases_Bool (eqb e.pass pass))

  given-more : (pass : ℕ) (user : List ℕ) (number : ℕ) → WasBegun (ShownIn (h ++ e ∷ []) pass user number) → number ≤ (next.lists user).last_job
  given-more pass user number begun =
      ⊎_elim
      (λ (before : WasBegun (ShownIn h pass user number)). let low = holds.given pass user number before in let more = rises user in omega (arith, low, more))
      (λ (gave : Gave pass user number). let is = gave.is in let last = gave.last in omega (arith, is, last))
      (begun-split pass user number begun)

  one-more : (pass other : ℕ) (user : List ℕ) (number : ℕ) → WasBegun (ShownIn (h ++ e ∷ []) pass user number) → WasBegun (ShownIn (h ++ e ∷ []) other user number) → pass ≡ other
  one-more pass other user number a b =
      ⊎_elim
      (λ (before : WasBegun (ShownIn h pass user number)).
      ⊎_elim
      (λ (also : WasBegun (ShownIn h other user number)). holds.one pass other user number before also)
      (λ (gave : Gave other user number). let low = holds.given pass user number before in let is = gave.is in absurd (omega (arith, low, is)))
      (begun-split other user number b))
      (λ (gave : Gave pass user number).
      ⊎_elim
      (λ (before : WasBegun (ShownIn h other user number)). let low = holds.given other user number before in let is = gave.is in absurd (omega (arith, low, is)))
      (λ (also : Gave other user number). sym gave.pass_is ∙ also.pass_is)
      (begun-split other user number b))
      (begun-split pass user number a)

  -- another user's jobs are as they were
  there-other : (user : List ℕ) (number : ℕ) (captured : PlainCapture) (spec : MakeSpec) → user ≢ e.user → IsSomeMaking captured spec (job_of number (s.lists user)) → IsSomeMaking captured spec (job_of number (next.lists user))
  there-other user number captured spec other has =
      let jobs = (others-jobs s e.user e.event e.reply legal.mark legal.reply user other).jobs in
      subst (λ (js : List Job). IsSomeMaking captured spec (find (is_numbered number) js)) (sym jobs) has

  there-more : (pass : ℕ) (user : List ℕ) (number : ℕ) (captured : PlainCapture) (spec : MakeSpec) → ShownIn (h ++ e ∷ []) pass user number ≡ BegunToMake spec captured → IsSomeMaking captured spec (job_of number (next.lists user))
  there-more pass user number captured spec shows =
      ⊎_elim
      (λ (same : eqb e.pass pass ≡ true).
      let by = sym (shown-user h e pass user number same) ∙ shows in
      ⊎_elim
      (λ (own : e.user ≡ user).
      subst (λ (u : List ℕ). IsSomeMaking captured spec (job_of number (next.lists u))) own
      (shown-there (s.lists e.user) (next.lists e.user) e.event e.reply effect (up e.user) number (ShownIn h pass user number) captured spec
      (λ before. subst (λ (u : List ℕ). IsSomeMaking captured spec (job_of number (s.lists u))) (sym own) (holds.there pass user number captured spec before))
      (sym (by-own user number (ShownIn h pass user number) own) ∙ by)))
      (λ (other : user ≢ e.user).
      there-other user number captured spec other (holds.there pass user number captured spec (sym (by-other user number (ShownIn h pass user number) other) ∙ by)))
      (own-or-other user))
      (λ (apart : eqb e.pass pass ≡ false).
      let before = sym (shown-not h e pass user number apart) ∙ shows in
      let has = holds.there pass user number captured spec before in
      ⊎_elim
      (λ (own : e.user ≡ user).
      subst (λ (u : List ℕ). IsSomeMaking captured spec (job_of number (next.lists u))) own
      (kept-after (s.lists e.user) (next.lists e.user) e.event e.reply number captured spec effect
      (λ ending.
      let its = subst (λ (u : List ℕ). WasBegun (ShownIn h e.pass u number)) own (ended-going (own_entries e.pass h) e.user number e.event e.reply ending legal.permitted) in
      let same = holds.one e.pass pass user number its (making-begun (ShownIn h pass user number) spec captured before) in
      true≢false (sym (eq-eqb e.pass pass same) ∙ apart))
      (subst (λ (u : List ℕ). IsSomeMaking captured spec (job_of number (s.lists u))) (sym own) has)))
      (λ (other : user ≢ e.user). there-other user number captured spec other has)
      (own-or-other user))
      (cases_Bool (eqb e.pass pass))

  holds-more : Holds (h ++ e ∷ []) next
  holds-more = record { valid = valid-after-entry s e ready legal.mark legal.reply holds.valid; given = given-more; one = one-more; there = there-more }

-- ---- a whole history

job-there : (captured : PlainCapture) (spec : MakeSpec) (found : Option Job) → IsSomeMaking captured spec found → IsSome found
job-there captured spec None has = absurd has
job-there captured spec (Some job) has = refl

ready-now : (h : List HistoryEntry) (s : State) (pass : ℕ) (user : List ℕ) (asked : Event) → Holds h s → Permits (own_entries pass h) user asked → IsReady asked (part_of s user)
ready-now h s pass user (Change import change) holds permitted = permitted
ready-now h s pass user (StoreRows key labels) holds permitted = tt
ready-now h s pass user (ProjectBegin graph name spec) holds permitted = permitted
ready-now h s pass user (ProjectEnd number built) holds permitted = holds.there pass user number built.from built.spec permitted
ready-now h s pass user (Abandon number) holds permitted = of_shown (ShownIn h pass user number) refl permitted
  where
    of_shown : (shown : Shown) → ShownIn h pass user number ≡ shown → IsGoing shown → IsSome (job_of number (s.lists user))
    of_shown NotBegun same going = absurd going
    of_shown (BegunToMake spec captured) same going = job-there captured spec (job_of number (s.lists user)) (holds.there pass user number captured spec same)
    of_shown Over same going = absurd going
ready-now h s pass user (Terminate name) holds permitted = tt
ready-now h s pass user (Exists graph) holds permitted = tt
ready-now h s pass user (event.List graph of) holds permitted = tt
ready-now h s pass user (event.Drop graph must of) holds permitted = tt
ready-now h s pass user (GraphRows graph key labels) holds permitted = tt
ready-now h s pass user Jobs holds permitted = tt

holds-after : (entries h : List HistoryEntry) (s : State) → Holds h s → AreLegal s h entries → Holds (h ++ entries) (state_after s entries)
holds-after [] h s holds legal = subst (λ (all : List HistoryEntry). Holds all s) (sym (nothing-more h)) holds
holds-after (e ∷ entries) h s holds legal =
    let ready = ready-now h s e.pass e.user e.event holds legal.0.permitted in
    subst (λ (all : List HistoryEntry). Holds all (state_after (state_after_entry s e) entries)) (append_assoc h (e ∷ []) entries)
    (holds-after entries (h ++ e ∷ []) (state_after_entry s e) (holds-more h s e holds legal.0 ready) legal.1)

holds-first : (opening : State) → IsValidState opening → Holds [] opening
holds-first opening valid = record {
  valid = valid;
  given = λ pass user number begun. absurd begun;
  one = λ pass other user number begun also. absurd begun;
  there = λ pass user number captured spec shows. absurd (let clash : NotBegun ≡ BegunToMake spec captured = shows in cc);
}

pub permitted_is_ready : PermittedIsReady
permitted_is_ready opening history pass user asked valid legal permitted =
    ready-now history (state_after opening history) pass user asked (holds-after history [] opening (holds-first opening valid) legal) permitted
