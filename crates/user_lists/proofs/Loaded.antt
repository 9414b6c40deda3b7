-- The answers of imports that are loaded, note after note.
use Rattle.std.proofs.Common.{◌≡◌, ◌≢◌, ℕ, ◌+◌, ◌<◌, true, false, List, [], ◌∷◌, ◌++◌, length, take, drop, get_or, Some, refl, sym, ap, ◌∙◌, ⊎_elim}
use Rattle.std.specs.Str.{bytes_eq}
use Rattle.std.specs.List.{AllByRecursion}
use Rattle.std.specs.Cmp.Lexicographic.{bytes_decides}
use Rattle.std.proofs.lemmas.Bool.{cases_Bool, true≢false}
use Rattle.graph_model.specs.declared.change.ChangeReply.{ChangeReply}
use Rattle.graph_model.specs.declared.kept.ImportNote.{ImportNote}
use Rattle.graph_model.specs.Kept.{NoteBefore, note_order, answer_entry, answers_of}
use Rattle.graph_model.specs.Lists.{Pairwise}
use Rattle.graph_model.proofs.KeptLemmas.{note_order_total, adds_own, keeps_others}
use Rattle.graph_model.proofs.Placed.{placed-end, front-before, front-ascends}
use Rattle.desk_model.specs.State.{UserLists, no_lists, loaded_lists}
use Rattle.desk_model.specs.Step.{with_answer}
use Rattle.user_lists.specs.Users.{lists_of, OthersStay}

-- the lists of all users after one more note was loaded behind those in front of it
pub one_more : (front back : List ImportNote) (note : ImportNote) (before after : List (List ℕ × UserLists)) → Pairwise NoteBefore (front ++ note ∷ back)
    → ((user : List ℕ) → lists_of before user ≡ loaded_lists front user)
    → lists_of after note.user ≡ with_answer (Some note.id) note.answer (lists_of before note.user)
    → OthersStay note.user before after
    → (user : List ℕ) → lists_of after user ≡ loaded_lists (front ++ note ∷ []) user
one_more front back note before after pairs so_far own others user =
    let end = placed-end note_order note_order_total note front (front-before note_order note_order_total front back note pairs) in
    ⊎_elim
    (λ (same : bytes_eq user note.user ≡ true).
    rw ((bytes_decides user note.user).0 same)
    (own
    ∙ ap (with_answer (Some note.id) note.answer) (so_far note.user)
    ∙ ap (λ (imports : List (List ℕ × ChangeReply)). record no_lists { imports = imports }) (sym (adds_own note front) ∙ ap (answers_of note.user) end)))
    (λ (differs : bytes_eq user note.user ≡ false).
    let apart : user ≢ note.user = λ same. true≢false (sym ((bytes_decides user note.user).1 same) ∙ differs) in
    others user apart
    ∙ so_far user
    ∙ ap (λ (imports : List (List ℕ × ChangeReply)). record no_lists { imports = imports })
    (sym (keeps_others note front (front-ascends note_order note_order_total front (note ∷ back) pairs) user apart) ∙ ap (answers_of user) end))
    (cases_Bool (bytes_eq user note.user))
