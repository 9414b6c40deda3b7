-- States that are equal, and steps of whole states.
use Rattle.std.proofs.Common.{◌≡◌, ◌≢◌, ℕ, ⊎_elim, true, false, List, Option, refl, sym, ap, ◌∙◌, subst}
use Rattle.std.specs.Str.{bytes_eq}
use Rattle.std.specs.Cmp.Lexicographic.{bytes_decides}
use Rattle.std.proofs.Math.Path.{fun_ext}
use Rattle.std.proofs.lemmas.Bool.{cases_Bool, true≢false}
use Rattle.graph_model.specs.declared.graph.PropertyGraph.{PropertyGraph}
use Rattle.desk_model.specs.declared.asked.Event.{Event}
use Rattle.desk_model.specs.Replies.{PlainReply}
use Rattle.desk_model.specs.State.{UserLists, Part, State, part_of, with_part}
use Rattle.desk_model.specs.Step.{IsPartStep, IsStep, subject_of, part_step, mark_of}
use Rattle.desk_model.proofs.JobEffects.{own-lists, other-lists}

-- a state is another with the part of a user, where its graph and that user's lists are that part's and all else is as it was
pub state_is : (old new : State) (subject : List ℕ) (part : Part) → new.graph ≡ part.graph → new.admin ≡ old.admin → new.lists subject ≡ part.lists → ((other : List ℕ) → other ≢ subject → new.lists other ≡ old.lists other) → new ≡ with_part old subject part
state_is old new subject part graph admin own others =
    ap (λ (g : PropertyGraph). record { graph = g; admin = new.admin; lists = new.lists }) graph
    ∙ ap (λ (a : Option (List ℕ)). record { graph = part.graph; admin = a; lists = new.lists }) admin
    ∙ ap (λ (l : List ℕ → UserLists). record { graph = part.graph; admin = old.admin; lists = l }) (fun_ext (λ user. of_user user))
  where
    of_user : (user : List ℕ) → new.lists user ≡ (with_part old subject part).lists user
    of_user user =
        ⊎_elim
        (λ (same : bytes_eq user subject ≡ true).
        let who : user ≡ subject = (bytes_decides user subject).0 same in
        ap new.lists who ∙ own ∙ sym (own-lists old subject user part who))
        (λ (other : bytes_eq user subject ≡ false).
        others user (λ who. true≢false (sym ((bytes_decides user subject).1 who) ∙ other)) ∙ sym (other-lists old subject user part other))
        (cases_Bool (bytes_eq user subject))

-- all users but one have the lists that they had
abbrev pub OthersKept : List ℕ → State → State → Type 0
OthersKept user old new = (other : List ℕ) → other ≢ user → new.lists other ≡ old.lists other

-- the part of a user with what is left of it in another state
abbrev pub left_part : State → State → List ℕ → Part
left_part old new user = record (part_of old user) { graph = new.graph; lists = new.lists user }

step_own : (old new : State) (caller : List ℕ) (asked : Event) (reply : PlainReply) → new.admin ≡ old.admin → OthersKept (subject_of caller asked) old new → IsPartStep caller asked (part_of old (subject_of caller asked)) reply (left_part old new (subject_of caller asked)) → IsStep caller asked old reply new
step_own old new caller asked reply admin others is = record {
  mark = is.mark;
  answer = is.answer;
  left =
      state_is old new (subject_of caller asked) (part_step (mark_of reply) caller asked (part_of old (subject_of caller asked))).part
      (ap (λ (p : Part). p.graph) is.left) admin (ap (λ (p : Part). p.lists) is.left) others;
}

-- a step on the part of the subject is a step of the state
pub step_is : (old new : State) (caller subject : List ℕ) (asked : Event) (reply : PlainReply) → subject_of caller asked ≡ subject → new.admin ≡ old.admin → OthersKept subject old new → IsPartStep caller asked (part_of old subject) reply (left_part old new subject) → IsStep caller asked old reply new
step_is old new caller subject asked reply is admin others step =
    subst (λ (user : List ℕ). OthersKept user old new → IsPartStep caller asked (part_of old user) reply (left_part old new user) → IsStep caller asked old reply new) is
    (step_own old new caller asked reply admin) others step
