-- Jobs go on until an event of their user ends them.
use Rattle.std.proofs.Common.{◌≡◌, ◌≢◌, ◌⊎◌, ℕ, ◌&&◌, not, inl, inr, ⊎_elim, Bool, true, false, cond, eqb, List, [], ◌∷◌, Option, refl, sym, ap, ◌∙◌, subst}
use Rattle.std.specs.List.{find}
use Rattle.std.specs.Str.{bytes_eq}
use Rattle.std.specs.Cmp.Lexicographic.{bytes_decides}
use Rattle.std.proofs.lemmas.Bool.{cases_Bool, true≢false}
use Rattle.graph_making.specs.declared.capture.MakeSpec.{MakeSpec}
use Rattle.graph_making.specs.Making.{PlainCapture}
use Rattle.desk_model.specs.declared.asked.Event.{Event}
use Rattle.desk_model.specs.declared.asked.Event.TheVariants.{ProjectBegin}
use Rattle.desk_model.specs.Replies.{PlainReply, Making}
use Rattle.desk_model.specs.State.{Job, State, part_of}
use Rattle.desk_model.specs.Jobs.{is_numbered, job_of}
use Rattle.desk_model.specs.Step.{IsSomeMaking, IsStep, step, mark_of}
use Rattle.desk_model.specs.History.{Shown, NotBegun, BegunToMake, shown_after}
use Rattle.desk_model.specs.Going.{IsGoingJob, ends_job, BegunIsGoing, GoingGoesOn}
use Rattle.desk_model.proofs.Effects.{same-number}
use Rattle.desk_model.proofs.JobEffects.{caller-effect, others-jobs, kept-after, shown-there}

pub begun_is_going : BegunIsGoing
begun_is_going old new user graph name spec number given captured valid is =
    let asked = ProjectBegin graph name spec in
    let reply = Making number given captured in
    let effect = caller-effect old user asked reply is.mark is.answer in
    let shows : shown_after number asked reply NotBegun ≡ BegunToMake spec captured = ap (λ b. cond b (BegunToMake spec captured) NotBegun) (same-number number) in
    subst (λ (s : State). IsGoingJob number captured spec (s.lists user)) (sym is.left)
    (shown-there (old.lists user) ((step (mark_of reply) user asked old).state.lists user) asked reply effect (valid user).given number NotBegun captured spec
    (λ none. absurd (let clash : NotBegun ≡ BegunToMake spec captured = none in cc)) shows)

pub going_goes_on : GoingGoesOn
going_goes_on old new user other asked reply number captured spec going is ends =
    subst (λ (s : State). IsGoingJob number captured spec (s.lists user)) (sym is.left)
    (⊎_elim
    (λ (same : bytes_eq other user ≡ true).
    let who : other ≡ user = (bytes_decides other user).0 same in
    subst (λ (u : List ℕ). IsGoingJob number captured spec ((step (mark_of reply) other asked old).state.lists u)) who
    (kept-after (old.lists other) ((step (mark_of reply) other asked old).state.lists other) asked reply number captured spec
    (caller-effect old other asked reply is.mark is.answer)
    (λ ending. true≢false (sym ending ∙ ends who))
    (subst (λ (u : List ℕ). IsGoingJob number captured spec (old.lists u)) (sym who) going)))
    (λ (apart : bytes_eq other user ≡ false).
    let jobs = (others-jobs old other asked reply is.mark is.answer user (λ who. true≢false (sym ((bytes_decides other user).1 (sym who)) ∙ apart))).jobs in
    subst (λ (js : List Job). IsSomeMaking captured spec (find (is_numbered number) js)) (sym jobs) going)
    (cases_Bool (bytes_eq other user)))
