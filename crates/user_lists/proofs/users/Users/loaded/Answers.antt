use Rattle.std.proofs.Common.{◌≡◌, suc, List, [], ◌∷◌, ◌++◌, take, drop, sym, ap, ◌∙◌, subst}
use Rattle.std.proofs.Math.Seq.{drop-cons}
use Rattle.std.proofs.lemmas.List.{take-append-drop, take_more}
use Rattle.graph_model.specs.declared.kept.ImportNote.{ImportNote}
use Rattle.graph_model.specs.Kept.{NoteBefore}
use Rattle.graph_model.specs.Lists.{Pairwise}
use Rattle.desk_model.specs.State.{loaded_lists}
use Rattle.user_lists.proofs.Loaded.{one_more}
use Rattle.user_lists.proofs.users.Users.loaded.Goals as goal

pub loop-note-preserved : goal.loop-note-preserved
loop-note-preserved c user =
    let notes = c.args.notes.now in
    let i = c.loop-note.note-index in
    let note = c.note-item.result in
    let cut : notes ≡ take i notes ++ note ∷ drop (suc i) notes =
    sym (take-append-drop i notes)
    ∙ ap (λ (rest : List ImportNote). take i notes ++ rest) (drop-cons notes i note c.loop-note-test.true ∙ ap (λ (n : ImportNote). n ∷ drop (suc i) notes) (sym c.note-item.is)) in
    one_more (take i notes) (drop (suc i) notes) note c.loop-note.users c.keep_answer.new.self (subst (Pairwise NoteBefore) cut c.requires)
    c.loop-note.invariant c.in_ok-keep_answer.ensures.ok c.keep_answer.ensures.others user
    ∙ ap (λ (ns : List ImportNote). loaded_lists ns user) (ap (λ (n : ImportNote). take i notes ++ n ∷ []) c.note-item.is ∙ sym (take_more notes i note c.loop-note-test.true))
