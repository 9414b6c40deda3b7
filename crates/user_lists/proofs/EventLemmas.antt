-- What events on lists leave: the answers of imports, what every machine keeps of lists, and the lists of a user who has none.
use Rattle.std.proofs.Common.{◌≡◌, ◌≢◌, ℕ, Bool, true, false, List, [], Option, Some, None, IsSome, Result, Ok, Err, refl, sym, ap, ◌∙◌, ⊎_elim, subst}
use Rattle.std.specs.Str.{bytes_eq}
use Rattle.std.specs.Cmp.Lexicographic.{bytes_decides}
use Rattle.std.proofs.lemmas.Bool.{cases_Bool, false_from_ne_true, true≢false}
use Rattle.std.specs.Option.{is_some, unwrap_or}
use Rattle.std.specs.Prelude.{OnErr, OnOk}
use Rattle.std.specs.Result.{is_err}
use Rattle.graph_model.specs.declared.refusal.Refusal.{Refusal}
use Rattle.graph_model.specs.declared.refusal.Refusal.TheVariants.{Mem}
use Rattle.graph_model.specs.declared.change.ChangeReply.{ChangeReply}
use Rattle.graph_model.specs.Projection.{PlainProjection, under}
use Rattle.graph_model.specs.SmallStore.{empty_graph}
use Rattle.graph_making.specs.declared.capture.Captured.{Captured}
use Rattle.graph_making.specs.declared.capture.MakeSpec.{MakeSpec}
use Rattle.graph_making.specs.declared.capture.MakeSpec.TheVariants.{Native}
use Rattle.graph_making.specs.Making.{PlainCapture, Store, plain_capture}
use Rattle.desk_model.specs.declared.asked.Event.{Event}
use Rattle.desk_model.specs.declared.asked.Event.TheVariants as event
use Rattle.desk_model.specs.Replies.{PlainReply, Refused}
use Rattle.desk_model.specs.State.{Job, UserLists, Part, no_lists}
use Rattle.desk_model.specs.Step.{Mark, Plain, OutOfMemory, Fault, IsGivenName, IsPartStep, part_step, refusal_of, refused_naming, named_by, unless_refused, accepted, ended_with, made_by, mark_of, captured_for}
use Rattle.desk_model.specs.Jobs.{comes_of, job_of}
use Rattle.desk_model.specs.Valid.{IsValidLists}
use Rattle.desk_model.proofs.Effects.{step-effect}
use Rattle.desk_model.proofs.Valid.{GivesName, gives-name, valid-left}
use Rattle.user_lists.specs.declared.event.ListEvent.{ListEvent}
use Rattle.user_lists.specs.declared.event.ListEvent.TheVariants as list
use Rattle.user_lists.specs.Steps.{Setting, IsListStep, IsBeginStep, IsEventStep, IsReadyOn, begins_job, part_with}
use Rattle.user_lists.specs.Users.{lists_of, IsOpenFor, OthersStay, ImportsStay}
use Rattle.user_lists.proofs.Steps.{step-memory}

-- what an event does to the lists, refused or not
abbrev Leaves : {A : Type 0} → (UserLists → A) → Event → Part → Type 0
Leaves of asked part = (of (accepted asked part).part.lists ≡ of part.lists) × (of (unless_refused (Some Mem) asked part).part.lists ≡ of part.lists)

by_refusal : {A : Type 0} (of : UserLists → A) (why : Option Refusal) (asked : Event) (part : Part) → Leaves of asked part → of (unless_refused why asked part).part.lists ≡ of part.lists
by_refusal of None asked part stays = stays.0
by_refusal of (Some why) asked part stays = stays.1

by_mark : {A : Type 0} (of : UserLists → A) (mark : Mark) (caller : List ℕ) (asked : Event) (part : Part) → Leaves of asked part → of (part_step mark caller asked part).part.lists ≡ of part.lists
by_mark of Plain caller asked part stays = by_refusal of (refusal_of caller asked part) asked part stays
by_mark of OutOfMemory caller asked part stays = refl
by_mark of Fault caller asked part stays = stays.1

-- somebody who asks, of the empty graph, without an administrator
abbrev nobody : Setting
nobody = record { caller = []; graph = empty_graph; admin = None }

-- where all that an event does leaves something, its step on lists does
left_by : {A : Type 0} (of : UserLists → A) (asked : Event) (old new : UserLists) (reply : PlainReply) → named_by asked ≡ None → ((part : Part) → part.lists ≡ old → Leaves of asked part) → IsListStep asked old reply new → of new ≡ of old
left_by of asked old new reply unnamed stays is =
    let step = is nobody (ap (refused_naming [] None) unnamed) in
    ap (λ (part : Part). of part.lists) step.left ∙ by_mark of (mark_of reply) [] asked (part_with nobody old) (stays (part_with nobody old) refl)

-- ---- the answers of imports

abbrev imports : UserLists → List (List ℕ × ChangeReply)
imports lists = lists.imports

-- the end of a job leaves them
ended : (made : Result PlainProjection Refusal) (number : ℕ) (job : Job) (part : Part) → (ended_with made number job part).part.lists.imports ≡ part.lists.imports
ended (Ok graph) number job part = refl
ended (Err why) number job part = refl

made : (number : ℕ) (job : Option Job) (part : Part) → (made_by number job part).part.lists.imports ≡ part.lists.imports
made number None part = refl
made number (Some job) part = ended (comes_of job) number job part

begun : (graph : List ℕ) (name : Option (List ℕ)) (spec : MakeSpec) (captured : PlainCapture) (old new : UserLists) (reply : PlainReply) → IsBeginStep graph name spec captured old reply new → new.imports ≡ old.imports
begun graph name (Native spec) (Store g) old new reply is =
    let s : Setting = record { caller = []; graph = g; admin = None } in
    ap (λ (part : Part). part.lists.imports) (is s refl).left
    ∙ by_mark imports (mark_of reply) [] (event.ProjectBegin graph name (Native spec)) (part_with s old) (refl, refl)

-- every event on lists leaves the answers of its user
own_stays : (asked : ListEvent) (old new : UserLists) (reply : PlainReply) → IsEventStep asked old reply new → new.imports ≡ old.imports
own_stays (list.Begin graph name captured spec) old new reply is = begun graph name spec (plain_capture captured) old new reply is
own_stays (list.End number built) old new reply is =
    left_by imports (event.ProjectEnd number built) old new reply refl (λ part same. (made number (job_of number part.lists) part, refl)) is
own_stays (list.Abandon number) old new reply is = left_by imports (event.Abandon number) old new reply refl (λ part same. (refl, refl)) is
own_stays (list.Terminate name) old new reply is = left_by imports (event.Terminate name) old new reply refl (λ part same. (refl, refl)) is
own_stays (list.Exists graph) old new reply is = left_by imports (event.Exists graph) old new reply refl (λ part same. (refl, refl)) is
own_stays (list.List graph) old new reply is = left_by imports (event.List graph None) old new reply refl (λ part same. (refl, refl)) (is None)
own_stays (list.Drop graph must) old new reply is = left_by imports (event.Drop graph must None) old new reply refl (λ part same. (refl, refl)) (is None)
own_stays list.Jobs old new reply is = left_by imports event.Jobs old new reply refl (λ part same. (refl, refl)) is

-- where a user's answers stay, and all other users' lists, all answers stay
pub all_stay : (user : List ℕ) (before after : List (List ℕ × UserLists)) → (lists_of after user).imports ≡ (lists_of before user).imports → OthersStay user before after → ImportsStay before after
all_stay user before after own others other =
    ⊎_elim
    (λ (same : bytes_eq other user ≡ true). rw ((bytes_decides other user).0 same) own)
    (λ (differs : bytes_eq other user ≡ false).
    ap (λ (lists : UserLists). lists.imports) (others other (λ same. true≢false (sym ((bytes_decides other user).1 same) ∙ differs))))
    (cases_Bool (bytes_eq other user))

pub event_stays : (asked : ListEvent) (user : List ℕ) (before after : List (List ℕ × UserLists)) (reply : PlainReply) → IsEventStep asked (lists_of before user) reply (lists_of after user) → OthersStay user before after → ImportsStay before after
event_stays asked user before after reply is others =
    all_stay user before after (own_stays asked (lists_of before user) (lists_of after user) reply is) others

-- ---- lists stay valid

step_valid : (asked : Event) (s : Setting) (old new : UserLists) (reply : PlainReply) → GivesName asked → IsPartStep s.caller asked (part_with s old) reply (part_with s new) → IsValidLists old → IsValidLists new
step_valid asked s old new reply gives is valid =
    subst (λ (part : Part). IsValidLists part.lists) (sym is.left)
    (valid-left (part_with s old) (part_step (mark_of reply) s.caller asked (part_with s old)).part
    (step-effect (mark_of reply) s.caller asked reply (part_with s old) is.mark refl is.answer) gives valid)

list_valid : (asked : Event) (old new : UserLists) (reply : PlainReply) → named_by asked ≡ None → GivesName asked → IsListStep asked old reply new → IsValidLists old → IsValidLists new
list_valid asked old new reply unnamed gives is = step_valid asked nobody old new reply gives (is nobody (ap (refused_naming [] None) unnamed))

begin_valid : (graph : List ℕ) (name : Option (List ℕ)) (spec : MakeSpec) (captured : PlainCapture) (old new : UserLists) (reply : PlainReply) → IsGivenName name → IsBeginStep graph name spec captured old reply new → IsValidLists old → IsValidLists new
begin_valid graph name (Native spec) (Store g) old new reply formed is =
    let s : Setting = record { caller = []; graph = g; admin = None } in
    step_valid (event.ProjectBegin graph name (Native spec)) s old new reply
    (gives-name (event.ProjectBegin graph name (Native spec)) (part_with s old) formed) (is s refl)

-- every event on lists keeps them valid
pub event_valid : (asked : ListEvent) (old new : UserLists) (reply : PlainReply) → IsReadyOn asked old → IsEventStep asked old reply new → IsValidLists old → IsValidLists new
event_valid (list.Begin graph name captured spec) old new reply ready is = begin_valid graph name spec (plain_capture captured) old new reply ready is
event_valid (list.End number built) old new reply ready is =
    list_valid (event.ProjectEnd number built) old new reply refl (gives-name (event.ProjectEnd number built) (part_with nobody old) ready) is
event_valid (list.Abandon number) old new reply ready is = list_valid (event.Abandon number) old new reply refl (gives-name (event.Abandon number) (part_with nobody old) ready) is
event_valid (list.Terminate name) old new reply ready is = list_valid (event.Terminate name) old new reply refl (gives-name (event.Terminate name) (part_with nobody old) tt) is
event_valid (list.Exists graph) old new reply ready is = list_valid (event.Exists graph) old new reply refl (gives-name (event.Exists graph) (part_with nobody old) tt) is
event_valid (list.List graph) old new reply ready is = list_valid (event.List graph None) old new reply refl (gives-name (event.List graph None) (part_with nobody old) tt) (is None)
event_valid (list.Drop graph must) old new reply ready is =
    list_valid (event.Drop graph must None) old new reply refl (gives-name (event.Drop graph must None) (part_with nobody old) tt) (is None)
event_valid list.Jobs old new reply ready is = list_valid event.Jobs old new reply refl (gives-name event.Jobs (part_with nobody old) tt) is

-- ---- a user who has no lists

abbrev whole : UserLists → UserLists
whole lists = lists

-- of a user who has no lists, an event that begins no job leaves none
pub none_left : (asked : ListEvent) (new : UserLists) (reply : PlainReply) → begins_job asked ≡ false → IsReadyOn asked no_lists → IsEventStep asked no_lists reply new → new ≡ no_lists
none_left (list.Begin graph name captured spec) new reply begins ready is = absurd (true≢false begins)
none_left (list.End number built) new reply begins ready is = absurd ready
none_left (list.Abandon number) new reply begins ready is = absurd (true≢false (sym ready))
none_left (list.Terminate name) new reply begins ready is =
    left_by whole (event.Terminate name) no_lists new reply refl (λ part same. (ap (λ (l : UserLists). (accepted (event.Terminate name) (record part { lists = l })).part.lists) same ∙ sym same, refl)) is
none_left (list.Exists graph) new reply begins ready is = left_by whole (event.Exists graph) no_lists new reply refl (λ part same. (refl, refl)) is
none_left (list.List graph) new reply begins ready is = left_by whole (event.List graph None) no_lists new reply refl (λ part same. (refl, refl)) (is None)
none_left (list.Drop graph must) new reply begins ready is =
    left_by whole (event.Drop graph must None) no_lists new reply refl
    (λ part same. (ap (λ (l : UserLists). (accepted (event.Drop graph must None) (record part { lists = l })).part.lists) same ∙ sym same, refl)) (is None)
none_left list.Jobs new reply begins ready is = left_by whole event.Jobs no_lists new reply refl (λ part same. (refl, refl)) is

-- no memory was to be had for the lists of a user whose job begins
pub memory_step : (asked : ListEvent) (old new : UserLists) → begins_job asked ≡ true → new ≡ old → IsEventStep asked old (Refused Mem) new
memory_step (list.Begin graph name captured spec) old new begins same = λ s is.
    subst (λ (l : UserLists). IsPartStep s.caller (event.ProjectBegin graph name spec) (part_with s old) (Refused Mem) (part_with s l)) (sym same)
    (step-memory s.caller (event.ProjectBegin graph name spec) (part_with s old) refl)
memory_step (list.End number built) old new begins same = absurd (true≢false (sym begins))
memory_step (list.Abandon number) old new begins same = absurd (true≢false (sym begins))
memory_step (list.Terminate name) old new begins same = absurd (true≢false (sym begins))
memory_step (list.Exists graph) old new begins same = absurd (true≢false (sym begins))
memory_step (list.List graph) old new begins same = absurd (true≢false (sym begins))
memory_step (list.Drop graph must) old new begins same = absurd (true≢false (sym begins))
memory_step list.Jobs old new begins same = absurd (true≢false (sym begins))

-- an answer by whether it is an error
pub on_err : {A E : Type 0} (r : Result A E) (P : Type 0) → is_err r ≡ true → OnErr r P → P
on_err (Ok x) P err holds = absurd (true≢false (sym err))
on_err (Err e) P err holds = holds

pub on_ok : {A E : Type 0} (r : Result A E) (P : Type 0) → is_err r ≡ false → OnOk r P → P
on_ok (Ok x) P ok holds = holds
on_ok (Err e) P ok holds = absurd (true≢false ok)

-- an event on the lists of a user who has none, answered on empty ones
pub none_step : (asked : ListEvent) (user : List ℕ) (before open_ after : List (List ℕ × UserLists)) (reply : PlainReply) (left : UserLists) → ((other : List ℕ) → lists_of open_ other ≡ lists_of before other) → under user open_ ≡ None → after ≡ open_ → IsOpenFor asked user open_ → IsReadyOn asked (lists_of before user) → IsEventStep asked no_lists reply left → IsEventStep asked (lists_of before user) reply (lists_of after user)
none_step asked user before open_ after reply left kept none same opens ready step =
    let mine : lists_of before user ≡ no_lists = sym (kept user) ∙ ap (λ (found : Option UserLists). unwrap_or found no_lists) none in
    let after_is : lists_of after user ≡ no_lists = ap (λ (users : List (List ℕ × UserLists)). lists_of users user) same ∙ ap (λ (found : Option UserLists). unwrap_or found no_lists) none in
    let begins : begins_job asked ≡ false = false_from_ne_true (begins_job asked) (λ yes. true≢false (sym (sym (ap is_some none) ∙ opens yes))) in
    let left_is = none_left asked left reply begins (subst (IsReadyOn asked) mine ready) step in
    subst (λ (l : UserLists). IsEventStep asked l reply (lists_of after user)) (sym mine)
    (subst (λ (l : UserLists). IsEventStep asked no_lists reply l) (left_is ∙ sym after_is) step)
