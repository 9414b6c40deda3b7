-- What a keeper tells stays the desk's graph and answers.
use Rattle.std.proofs.Common.{◌≡◌, ◌≢◌, ℕ, true, false, ◌<◌, length, nat_lt, List, Option, Some, None, refl, sym, ap, ◌∙◌, subst, ⊎_elim}
use Rattle.std.specs.Str.{bytes_eq}
use Rattle.std.specs.Option.{option_map}
use Rattle.std.specs.Cmp.Lexicographic.{bytes_decides}
use Rattle.std.proofs.lemmas.Bool.{cases_Bool, cond-true, lt-ltb, true≢false}
use Rattle.graph_model.specs.declared.change.ChangeReply.{ChangeReply}
use Rattle.graph_model.specs.declared.graph.PropertyGraph.{PropertyGraph}
use Rattle.graph_model.specs.declared.kept.ImportNote.{ImportNote}
use Rattle.graph_model.specs.declared.kept.Kept.{Kept}
use Rattle.graph_model.specs.Kept.{answers_of, entry_order, most_imports, note_order, notes_after}
use Rattle.graph_model.specs.Lists.{placed}
use Rattle.graph_model.proofs.KeptLemmas.{note_order_total, adds_own, keeps_others}
use Rattle.graph_model.proofs.Placed.{placed-ascends}
use Rattle.desk_model.specs.State.{UserLists}
use Rattle.desk_model.specs.Step.{with_answer}
use Rattle.user_lists.specs.Users.{lists_of, ImportsStay, OthersStay}
use Rattle.user_lists.specs.declared.event.ListEvent.{ListEvent}
use Rattle.user_lists.specs.Steps.{IsEventStep, IsReadyOn}
use Rattle.user_lists.proofs.EventLemmas.{all_stay, event_stays, event_valid}
use Rattle.desk_model.specs.Valid.{IsValidLists}
use Rattle.desk_model.specs.Replies.{PlainReply}
use Rattle.desk_model.proofs.Valid.{answered}
use Rattle.desk_core.specs.Fields.{IsValidUsers, AreAnswers, IsDeskOf, TellsAnswers, TellsGraph, told_notes}

answers_stay : (notes : Option (List ImportNote)) (before after : List (List ℕ × UserLists)) → TellsAnswers notes before → ImportsStay before after → TellsAnswers notes after
answers_stay None before after are stay = tt
answers_stay (Some notes) before after are stay = record { ascend = are.ascend; answers = λ user. stay user ∙ are.answers user }

-- a desk whose users' answers stay is still the one that is told, where all lists are still valid
pub stays : (told : Option Kept) (g : PropertyGraph) (before after : List (List ℕ × UserLists)) → IsDeskOf told g before → ImportsStay before after → IsValidUsers after → IsDeskOf told g after
stays told g before after is stay valid = record { graph = is.graph; answers = answers_stay (told_notes told) before after is.answers stay; valid = valid }

-- where the lists of one user are valid and those of all others are as they were, all are
pub valid_users : (user : List ℕ) (before after : List (List ℕ × UserLists)) → IsValidLists (lists_of after user) → OthersStay user before after → IsValidUsers before → IsValidUsers after
valid_users user before after own others valid other =
    ⊎_elim
    (λ (same : bytes_eq other user ≡ true). subst (λ (u : List ℕ). IsValidLists (lists_of after u)) (sym ((bytes_decides other user).0 same)) own)
    (λ (differs : bytes_eq other user ≡ false).
    subst IsValidLists (sym (others other (λ same. true≢false (sym ((bytes_decides other user).1 same) ∙ differs)))) (valid other))
    (cases_Bool (bytes_eq other user))

-- an event on the lists of a user leaves the desk the one that is told
pub event_told : (told : Option Kept) (g : PropertyGraph) (asked : ListEvent) (user : List ℕ) (before after : List (List ℕ × UserLists)) (reply : PlainReply) → IsDeskOf told g before → IsReadyOn asked (lists_of before user) → IsEventStep asked (lists_of before user) reply (lists_of after user) → OthersStay user before after → IsDeskOf told g after
event_told told g asked user before after reply is ready step others =
    stays told g before after is (event_stays asked user before after reply step others)
    (valid_users user before after (event_valid asked (lists_of before user) (lists_of after user) reply ready step (is.valid user)) others is.valid)

-- so does what leaves the lists of one user and of all others as they were
pub same_told : (told : Option Kept) (g : PropertyGraph) (user : List ℕ) (before after : List (List ℕ × UserLists)) → IsDeskOf told g before → lists_of after user ≡ lists_of before user → OthersStay user before after → IsDeskOf told g after
same_told told g user before after is same others =
    stays told g before after is (all_stay user before after (ap (λ (lists : UserLists). lists.imports) same) others)
    (valid_users user before after (subst IsValidLists (sym same) (is.valid user)) others is.valid)

-- an answer that is kept leaves all lists valid where there is room for it
pub answer_valid : (user id : List ℕ) (answer : ChangeReply) (before after : List (List ℕ × UserLists)) → length (lists_of before user).imports < most_imports → lists_of after user ≡ with_answer (Some id) answer (lists_of before user) → OthersStay user before after → IsValidUsers before → IsValidUsers after
answer_valid user id answer before after room own others valid =
    valid_users user before after
    (subst IsValidLists (sym own) (answered (Some id) answer (lists_of before user) (cond-true (nat_lt (length (lists_of before user).imports) most_imports) None _ (lt-ltb (length (lists_of before user).imports) most_imports room)) (valid user)))
    others valid

added : (notes : List ImportNote) (user id : List ℕ) (answer : ChangeReply) (before after : List (List ℕ × UserLists)) → AreAnswers notes before
    → lists_of after user ≡ with_answer (Some id) answer (lists_of before user) → OthersStay user before after
    → AreAnswers (placed note_order (record { user = user; id = id; answer = answer }) notes) after
added notes user id answer before after are own others = record {
  ascend = placed-ascends note_order note_order_total note notes are.ascend;
  answers = λ other.
      ⊎_elim
      (λ (same : bytes_eq other user ≡ true).
      rw ((bytes_decides other user).0 same)
      (ap (λ (lists : UserLists). lists.imports) own ∙ ap (placed entry_order (id, answer)) (are.answers user) ∙ sym (adds_own note notes)))
      (λ (differs : bytes_eq other user ≡ false).
      let apart : other ≢ user = λ same. true≢false (sym ((bytes_decides other user).1 same) ∙ differs) in
      ap (λ (lists : UserLists). lists.imports) (others other apart) ∙ are.answers other ∙ sym (keeps_others note notes are.ascend other apart))
      (cases_Bool (bytes_eq other user));
}
  where
    note : ImportNote
    note = record { user = user; id = id; answer = answer }

-- an answer that is kept is told where its note was added
pub noted : (old new : Option (List ImportNote)) (user id : List ℕ) (answer : ChangeReply) (before after : List (List ℕ × UserLists))
    → new ≡ option_map (notes_after (Some (record { user = user; id = id; answer = answer }))) old → TellsAnswers old before
    → lists_of after user ≡ with_answer (Some id) answer (lists_of before user) → OthersStay user before after → TellsAnswers new after
noted None new user id answer before after is are own others = subst (λ (notes : Option (List ImportNote)). TellsAnswers notes after) (sym is) tt
noted (Some notes) new user id answer before after is are own others =
    subst (λ (notes : Option (List ImportNote)). TellsAnswers notes after) (sym is) (added notes user id answer before after are own others)
