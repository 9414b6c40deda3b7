-- The replies of a user who isn't the administrator are made of what bears on that user.
use Rattle.std.proofs.Common.{◌≡◌, ◌≢◌, ◌⊎◌, ℕ, ◌||◌, inl, inr, ⊎_elim, Bool, true, false, cond, List, [], ◌∷◌, ◌++◌, Option, Some, None, refl, sym, ap, ap₂, ◌∙◌, subst}
use Rattle.std.specs.Option.{unwrap_or}
use Rattle.std.specs.Str.{bytes_eq}
use Rattle.std.specs.Cmp.Lexicographic.{bytes_decides}
use Rattle.std.proofs.lemmas.Bool.{cases_Bool, cond-true, cond-false, true≢false}
use Rattle.graph_model.specs.declared.change.Change as model
use Rattle.graph_model.specs.declared.graph.PropertyGraph.{PropertyGraph}
use Rattle.graph_model.specs.declared.refusal.Refusal.{Refusal}
use Rattle.graph_model.specs.declared.refusal.Refusal.TheVariants.{Mem, StoreFault, NotAdmin}
use Rattle.graph_model.specs.Change.{after_change}
use Rattle.graph_model.specs.Lists.{first_there}
use Rattle.desk_model.specs.declared.asked.Event.{Event}
use Rattle.desk_model.specs.declared.asked.Event.TheVariants as event
use Rattle.desk_model.specs.declared.asked.Event.TheVariants.{Change, StoreRows, ProjectBegin, ProjectEnd, Abandon, Terminate, Exists, GraphRows, Jobs}
use Rattle.desk_model.specs.Replies.{PlainReply, Refused}
use Rattle.desk_model.specs.State.{UserLists, Part, State, part_of, with_part}
use Rattle.desk_model.specs.Graphs.{without_graph, refused_drop}
use Rattle.desk_model.specs.Step.{Mark, Plain, OutOfMemory, Fault, Outcome, named_by, subject_of, is_admin, refused_naming, unless_refused, part_step, step, mark_of, with_lists, MayStand}
use Rattle.desk_model.specs.History.{HistoryEntry, state_after_entry, IsLegalEntry, AreLegal}
use Rattle.desk_model.specs.Isolation.{Apart, Own, Committed, Dropped, committed, dropped, of_change, of_drop, of_other, of_entry, apart_for, replay, replies_of, RepliesAreReplayed, RepliesAreOwn, OthersStay}
use Rattle.desk_model.proofs.Effects.{Effect, step-effect}
use Rattle.desk_model.proofs.Effects as effect
use Rattle.desk_model.proofs.JobEffects.{own-subject}

-- ---- the part of a user after a step

-- the part of the subject, and that of another
own-part : (s : State) (subject user : List ℕ) (part : Part) → user ≡ subject → part.admin ≡ s.admin → part_of (with_part s subject part) user ≡ part
own-part s subject user part is same =
    ap₂ (λ (admin : Option (List ℕ)) (lists : UserLists). record { graph = part.graph; admin = admin; lists = lists }) (sym same)
    (cond-true (bytes_eq user subject) part.lists (s.lists user) ((bytes_decides user subject).1 is))

other-part : (s : State) (subject user : List ℕ) (part : Part) → bytes_eq user subject ≡ false → part_of (with_part s subject part) user ≡ record (part_of s user) { graph = part.graph }
other-part s subject user part other =
    ap (λ (lists : UserLists). record { graph = part.graph; admin = s.admin; lists = lists }) (cond-false (bytes_eq user subject) part.lists (s.lists user) other)

-- no step changes the administrator
admin-left : {mark : Mark} {caller : List ℕ} {asked : Event} {reply : PlainReply} (old new : Part) → Effect mark caller asked reply old new → new.admin ≡ old.admin
admin-left old new (effect.Stayed e) = ap (λ (p : Part). p.admin) e.left
admin-left old new (effect.Changed e) = ap (λ (p : Part). p.admin) e.left
admin-left old new (effect.Begun e) = ap (λ (p : Part). p.admin) e.left
admin-left old new (effect.Ended e) = ap (λ (p : Part). p.admin) e.left
admin-left old new (effect.Made e) = ap (λ (p : Part). p.admin) e.left
admin-left old new (effect.Asked e) = ap (λ (p : Part). p.admin) e.left
admin-left old new (effect.Dropped e) = ap (λ (p : Part). p.admin) e.left

-- ---- an event that names another, of a caller who isn't the administrator

-- what it is answered with
abbrev denied : Mark → List ℕ → PlainReply
denied Plain other = Refused (NotAdmin other)
denied OutOfMemory other = Refused Mem
denied Fault other = Refused (StoreFault 0)

abbrev denied-part : Mark → List ℕ → Part → Outcome
denied-part mark other part = record { reply = denied mark other; part = part }

naming-refused : (caller other : List ℕ) (admin : Option (List ℕ)) → bytes_eq other caller ≡ false → is_admin caller admin ≡ false → refused_naming caller admin (Some other) ≡ Some (NotAdmin other)
naming-refused caller other admin apart plain = ap₂ (λ a b. cond (a || b) None (Some (NotAdmin other))) apart plain

list-denied : (mark : Mark) (caller other : List ℕ) (graph : Option (List ℕ)) (part : Part) → refused_naming caller part.admin (Some other) ≡ Some (NotAdmin other) → part_step mark caller (event.List graph (Some other)) part ≡ denied-part mark other part
list-denied Plain caller other graph part refused = ap (λ r. unless_refused r (event.List graph (Some other)) part) refused
list-denied OutOfMemory caller other graph part refused = refl
list-denied Fault caller other graph part refused = refl

drop-denied : (mark : Mark) (caller other graph : List ℕ) (must : Bool) (part : Part) → refused_naming caller part.admin (Some other) ≡ Some (NotAdmin other) → part_step mark caller (event.Drop graph must (Some other)) part ≡ denied-part mark other part
drop-denied Plain caller other graph must part refused =
    ap (λ r. unless_refused (first_there r (refused_drop graph must part.lists)) (event.Drop graph must (Some other)) part) refused
drop-denied OutOfMemory caller other graph must part refused = refl
drop-denied Fault caller other graph must part refused = refl

named-denied : (mark : Mark) (caller other : List ℕ) (asked : Event) (part : Part) → named_by asked ≡ Some other → refused_naming caller part.admin (Some other) ≡ Some (NotAdmin other) → part_step mark caller asked part ≡ denied-part mark other part
named-denied mark caller other (Change import change) part named refused = absurd (let clash : None ≡ Some other = named in cc)
named-denied mark caller other (StoreRows key labels) part named refused = absurd (let clash : None ≡ Some other = named in cc)
named-denied mark caller other (ProjectBegin graph name spec) part named refused = absurd (let clash : None ≡ Some other = named in cc)
named-denied mark caller other (ProjectEnd number built) part named refused = absurd (let clash : None ≡ Some other = named in cc)
named-denied mark caller other (Abandon number) part named refused = absurd (let clash : None ≡ Some other = named in cc)
named-denied mark caller other (Terminate name) part named refused = absurd (let clash : None ≡ Some other = named in cc)
named-denied mark caller other (Exists graph) part named refused = absurd (let clash : None ≡ Some other = named in cc)
named-denied mark caller other (event.List graph of) part named refused =
    subst (λ (o : Option (List ℕ)). part_step mark caller (event.List graph o) part ≡ denied-part mark other part) (sym named) (list-denied mark caller other graph part refused)
named-denied mark caller other (event.Drop graph must of) part named refused =
    subst (λ (o : Option (List ℕ)). part_step mark caller (event.Drop graph must o) part ≡ denied-part mark other part) (sym named) (drop-denied mark caller other graph must part refused)
named-denied mark caller other (GraphRows graph key labels) part named refused = absurd (let clash : None ≡ Some other = named in cc)
named-denied mark caller other Jobs part named refused = absurd (let clash : None ≡ Some other = named in cc)

not-admin : (user : List ℕ) (admin : Option (List ℕ)) → admin ≢ Some user → is_admin user admin ≡ false
not-admin user None apart = refl
not-admin user (Some admin) apart =
    ⊎_elim
    (λ (same : bytes_eq user admin ≡ true). absurd (apart (ap (λ (u : List ℕ). Some u) (sym ((bytes_decides user admin).0 same)))))
    (λ (other : bytes_eq user admin ≡ false). other)
    (cases_Bool (bytes_eq user admin))

-- ---- an entry of the user

-- a step of a user who isn't the administrator is made of the user's part
pub record IsOwn (s : State) (mark : Mark) (caller : List ℕ) (asked : Event) : Type 0 where
  pub reply : (step mark caller asked s).reply ≡ (part_step mark caller asked (part_of s caller)).reply
  pub part : part_of (step mark caller asked s).state caller ≡ (part_step mark caller asked (part_of s caller)).part

module _ (s : State) (caller : List ℕ) (asked : Event) (mark : Mark) (kept : (part_step mark caller asked (part_of s (subject_of caller asked))).part.admin ≡ s.admin) where
  own-same : subject_of caller asked ≡ caller → IsOwn s mark caller asked
  own-same same = record {
    reply = ap (λ (u : List ℕ). (part_step mark caller asked (part_of s u)).reply) same;
    part =
        own-part s (subject_of caller asked) caller (part_step mark caller asked (part_of s (subject_of caller asked))).part (sym same) kept
        ∙ ap (λ (u : List ℕ). (part_step mark caller asked (part_of s u)).part) same;
  }

  own-denied : (other : List ℕ) → named_by asked ≡ Some other → bytes_eq other caller ≡ false → s.admin ≢ Some caller → IsOwn s mark caller asked
  own-denied other named apart plain =
      let refused = naming-refused caller other s.admin apart (not-admin caller s.admin plain) in
      let here = named-denied mark caller other asked (part_of s caller) named refused in
      let there = named-denied mark caller other asked (part_of s (subject_of caller asked)) named refused in
      let subject : subject_of caller asked ≡ other = ap (λ (o : Option (List ℕ)). unwrap_or o caller) named in
      record {
        reply = ap (λ (o : Outcome). o.reply) there ∙ sym (ap (λ (o : Outcome). o.reply) here);
        part =
            other-part s (subject_of caller asked) caller (part_step mark caller asked (part_of s (subject_of caller asked))).part
            (⊎_elim
            (λ (same : bytes_eq caller (subject_of caller asked) ≡ true).
            absurd (true≢false (sym ((bytes_decides other caller).1 (sym ((bytes_decides caller (subject_of caller asked)).0 same ∙ subject))) ∙ apart)))
            (λ (differs : bytes_eq caller (subject_of caller asked) ≡ false). differs)
            (cases_Bool (bytes_eq caller (subject_of caller asked))))
            ∙ ap (λ (o : Outcome). record (part_of s caller) { graph = o.part.graph }) there
            ∙ sym (ap (λ (o : Outcome). o.part) here);
      }

  own-step : s.admin ≢ Some caller → IsOwn s mark caller asked
  own-step plain = of_named (named_by asked) refl
    where
      of_named : (named : Option (List ℕ)) → named_by asked ≡ named → IsOwn s mark caller asked
      of_named None is = own-same (own-subject caller asked is)
      of_named (Some other) is =
          ⊎_elim
          (λ (same : bytes_eq other caller ≡ true). own-same (ap (λ (o : Option (List ℕ)). unwrap_or o caller) is ∙ (bytes_decides other caller).0 same))
          (λ (apart : bytes_eq other caller ≡ false). own-denied other is apart plain)
          (cases_Bool (bytes_eq other caller))

-- ---- an entry of another

-- what another's entry bears on a user is what it does to the user's part
abbrev Bears : State → HistoryEntry → List ℕ → Type 0
Bears s e user = (rest : List Apart) → replay user (part_of s user) (of_other s e user ++ rest) ≡ replay user (part_of (state_after_entry s e) user) rest

module _ (s : State) (e : HistoryEntry) (user : List ℕ) (other : bytes_eq e.user user ≡ false) (legal : MayStand (mark_of e.reply) e.user e.event (part_of s (subject_of e.user e.event))) (is : e.reply ≡ (step (mark_of e.reply) e.user e.event s).reply) where
  abbrev subject : List ℕ
  subject = subject_of e.user e.event

  abbrev before : Part
  before = part_of s subject

  abbrev after : Part
  after = (part_step (mark_of e.reply) e.user e.event before).part

  -- where nobody is named, the subject is another user
  not-subject : named_by e.event ≡ None → bytes_eq user subject ≡ false
  not-subject unnamed =
      ⊎_elim
      (λ (same : bytes_eq user subject ≡ true).
      absurd (true≢false (sym ((bytes_decides e.user user).1 (sym ((bytes_decides user subject).0 same ∙ own-subject e.user e.event unnamed))) ∙ other)))
      (λ (apart : bytes_eq user subject ≡ false). apart)
      (cases_Bool (bytes_eq user subject))

  -- what is borne, by what was committed and dropped
  bears-list : (change : Option model.Change) (graph : Option (List ℕ)) → committed (mark_of e.reply) e.user e.event before ≡ change → dropped (mark_of e.reply) e.user e.event before ≡ graph → of_other s e user ≡ of_change change ++ of_drop (bytes_eq subject user) graph
  bears-list change graph c d = ap₂ (λ a b. of_change a ++ of_drop (bytes_eq subject user) b) c d

  -- nothing is borne by a step that leaves the user's part
  bears-nothing : committed (mark_of e.reply) e.user e.event before ≡ None → dropped (mark_of e.reply) e.user e.event before ≡ None → part_of (state_after_entry s e) user ≡ part_of s user → Bears s e user
  bears-nothing c d same rest =
      ap (λ (list : List Apart). replay user (part_of s user) (list ++ rest)) (bears-list None None c d)
      ∙ ap (λ (p : Part). replay user p rest) (sym same)

  -- a step that leaves the graph, and works on another's lists, leaves the user's part
  part-other : bytes_eq user subject ≡ false → after.graph ≡ s.graph → part_of (state_after_entry s e) user ≡ part_of s user
  part-other apart same = other-part s subject user after apart ∙ ap (λ (g : PropertyGraph). record (part_of s user) { graph = g }) same

  part-unnamed : named_by e.event ≡ None → after.graph ≡ s.graph → part_of (state_after_entry s e) user ≡ part_of s user
  part-unnamed unnamed same = part-other (not-subject unnamed) same

  -- and so does one that leaves its subject's part
  part-stays : after ≡ before → part_of (state_after_entry s e) user ≡ part_of s user
  part-stays left =
      ⊎_elim
      (λ (own : bytes_eq user subject ≡ true).
      let who = (bytes_decides user subject).0 own in
      own-part s subject user after who (ap (λ (p : Part). p.admin) left) ∙ left ∙ ap (part_of s) (sym who))
      (λ (apart : bytes_eq user subject ≡ false). part-other apart (ap (λ (p : Part). p.graph) left))
      (cases_Bool (bytes_eq user subject))

  bears-drop : (graph : List ℕ) → after ≡ with_lists before (without_graph graph before.lists) → committed (mark_of e.reply) e.user e.event before ≡ None → dropped (mark_of e.reply) e.user e.event before ≡ Some graph → Bears s e user
  bears-drop graph left c d rest =
      ap (λ (list : List Apart). replay user (part_of s user) (list ++ rest)) (bears-list None (Some graph) c d) ∙ of_subject
    where
      of_subject : replay user (part_of s user) (of_drop (bytes_eq subject user) (Some graph) ++ rest) ≡ replay user (part_of (state_after_entry s e) user) rest
      of_subject =
          ⊎_elim
          (λ (own : bytes_eq subject user ≡ true).
          let who : subject ≡ user = (bytes_decides subject user).0 own in
          ap (λ b. replay user (part_of s user) (cond b (Dropped graph ∷ []) [] ++ rest)) own
          ∙ ap (λ (p : Part). replay user p rest)
          (sym (own-part s subject user after (sym who) (ap (λ (p : Part). p.admin) left) ∙ left
          ∙ ap (λ (u : List ℕ). with_lists (part_of s u) (without_graph graph (s.lists u))) who)))
          (λ (apart : bytes_eq subject user ≡ false).
          ap (λ b. replay user (part_of s user) (cond b (Dropped graph ∷ []) [] ++ rest)) apart
          ∙ ap (λ (p : Part). replay user p rest)
          (sym (part-other (turned apart) (ap (λ (p : Part). p.graph) left))))
          (cases_Bool (bytes_eq subject user))
        where
          turned : bytes_eq subject user ≡ false → bytes_eq user subject ≡ false
          turned apart =
              ⊎_elim
              (λ (same : bytes_eq user subject ≡ true). absurd (true≢false (sym ((bytes_decides subject user).1 (sym ((bytes_decides user subject).0 same))) ∙ apart)))
              (λ (differs : bytes_eq user subject ≡ false). differs)
              (cases_Bool (bytes_eq user subject))

  bears-of : Effect (mark_of e.reply) e.user e.event e.reply before after → Bears s e user
  bears-of (effect.Stayed x) = bears-nothing x.commits x.drops (part-stays x.left)
  bears-of (effect.Changed x) = λ rest.
      ap (λ (list : List Apart). replay user (part_of s user) (list ++ rest)) (bears-list (Some x.change) None x.commits x.drops)
      ∙ ap (λ (p : Part). replay user p rest)
      (sym (other-part s subject user after (not-subject x.unnamed) ∙ ap (λ (g : PropertyGraph). record (part_of s user) { graph = g }) (ap (λ (p : Part). p.graph) x.left)))
  bears-of (effect.Begun x) = bears-nothing x.commits x.drops (part-unnamed x.unnamed (ap (λ (p : Part). p.graph) x.left))
  bears-of (effect.Ended x) = bears-nothing x.commits x.drops (part-unnamed x.unnamed (ap (λ (p : Part). p.graph) x.left))
  bears-of (effect.Made x) = bears-nothing x.commits x.drops (part-unnamed x.unnamed (ap (λ (p : Part). p.graph) x.left))
  bears-of (effect.Asked x) = bears-nothing x.commits x.drops (part-unnamed x.unnamed (ap (λ (p : Part). p.graph) x.left))
  bears-of (effect.Dropped x) = bears-drop x.graph x.left x.commits x.drops

  bears : Bears s e user
  bears = bears-of (step-effect (mark_of e.reply) e.user e.event e.reply before legal refl is)

-- ---- a whole history

-- the administrator stays the same, whoever's part a step is made on
admin-kept : (s : State) (e : HistoryEntry) → MayStand (mark_of e.reply) e.user e.event (part_of s (subject_of e.user e.event)) → e.reply ≡ (step (mark_of e.reply) e.user e.event s).reply → (part_step (mark_of e.reply) e.user e.event (part_of s (subject_of e.user e.event))).part.admin ≡ s.admin
admin-kept s e may is =
    let subject = subject_of e.user e.event in
    admin-left (part_of s subject) (part_step (mark_of e.reply) e.user e.event (part_of s subject)).part (step-effect (mark_of e.reply) e.user e.event e.reply (part_of s subject) may refl is)

-- an entry of the user, seen from the user's part
record IsOwnEntry (s : State) (e : HistoryEntry) (user : List ℕ) : Type 0 where
  pub reply : e.reply ≡ (part_step (mark_of e.reply) user e.event (part_of s user)).reply
  pub part : part_of (state_after_entry s e) user ≡ (part_step (mark_of e.reply) user e.event (part_of s user)).part

own-entry : (s : State) (e : HistoryEntry) (user : List ℕ) → e.user ≡ user → s.admin ≢ Some user → MayStand (mark_of e.reply) e.user e.event (part_of s (subject_of e.user e.event)) → e.reply ≡ (step (mark_of e.reply) e.user e.event s).reply → IsOwnEntry s e user
own-entry s e user who plain may is =
    let own = own-step s e.user e.event (mark_of e.reply) (admin-kept s e may is) (λ admin. plain (admin ∙ ap (λ (u : List ℕ). Some u) who)) in
    subst (λ (u : List ℕ). IsOwnEntry s e u) who (record { reply = is ∙ own.reply; part = own.part })

replayed : (s : State) (earlier entries : List HistoryEntry) (user : List ℕ) → s.admin ≢ Some user → AreLegal s earlier entries → replies_of user entries ≡ replay user (part_of s user) (apart_for s entries user)
replayed s earlier [] user plain legal = refl
replayed s earlier (e ∷ entries) user plain legal =
    ⊎_elim
    (λ (own : bytes_eq e.user user ≡ true).
    let who : e.user ≡ user = (bytes_decides e.user user).0 own in
    let mark = mark_of e.reply in
    let step_is = own-entry s e user who plain legal.0.mark legal.0.reply in
    let rest = replayed (state_after_entry s e) (earlier ++ e ∷ []) entries user plain legal.1 in
    cond-true (bytes_eq e.user user) (e.reply ∷ replies_of user entries) (replies_of user entries) own
    ∙ ap₂ (λ (r : PlainReply) (rs : List PlainReply). r ∷ rs) step_is.reply
    (rest ∙ ap (λ (p : Part). replay user p (apart_for (state_after_entry s e) entries user)) step_is.part)
    ∙ sym (ap (λ (list : List Apart). replay user (part_of s user) (list ++ apart_for (state_after_entry s e) entries user))
    (cond-true (bytes_eq e.user user) (Own e.event mark ∷ []) (of_other s e user) own)))
    (λ (other : bytes_eq e.user user ≡ false).
    cond-false (bytes_eq e.user user) (e.reply ∷ replies_of user entries) (replies_of user entries) other
    ∙ replayed (state_after_entry s e) (earlier ++ e ∷ []) entries user plain legal.1
    ∙ sym (bears s e user other legal.0.mark legal.0.reply (apart_for (state_after_entry s e) entries user))
    ∙ sym (ap (λ (list : List Apart). replay user (part_of s user) (list ++ apart_for (state_after_entry s e) entries user))
    (cond-false (bytes_eq e.user user) (Own e.event (mark_of e.reply) ∷ []) (of_other s e user) other)))
    (cases_Bool (bytes_eq e.user user))

pub replies_are_replayed : RepliesAreReplayed
replies_are_replayed opening history user plain legal = replayed opening [] history user plain legal

pub replies_are_own : RepliesAreOwn
replies_are_own s mark caller asked same = ap (λ (u : List ℕ). (part_step mark caller asked (part_of s u)).reply) same

pub others_stay : OthersStay
others_stay s e user other =
    cond-false (bytes_eq user (subject_of e.user e.event)) (part_step (mark_of e.reply) e.user e.event (part_of s (subject_of e.user e.event))).part.lists (s.lists user)
    (⊎_elim
    (λ (same : bytes_eq user (subject_of e.user e.event) ≡ true). absurd (other ((bytes_decides user (subject_of e.user e.event)).0 same)))
    (λ (apart : bytes_eq user (subject_of e.user e.event) ≡ false). apart)
    (cases_Bool (bytes_eq user (subject_of e.user e.event))))
