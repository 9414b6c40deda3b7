use Rattle.std.proofs.Common.{◌≡◌, List, map, sym, ap, ap₂, ◌∙◌, subst}
use Rattle.graph_model.specs.declared.kept.ImportNote.{ImportNote}
use Rattle.graph_model.specs.Kept.{note_order, NoteBefore}
use Rattle.graph_model.specs.Lists.{Pairwise, placed}
use Rattle.graph_model.proofs.KeptLemmas.{note_order_total}
use Rattle.graph_model.proofs.Placed.{placed-ascends}
use Rattle.store_keeper.specs.Held.{note_of}
use Rattle.store_keeper.proofs.NoteLemmas.{inserted_note}
use Rattle.store_keeper.proofs.notes.Notes.add.Goals as goal

pub returns-clause-ok : goal.returns-clause-ok
returns-clause-ok c =
    ap (map note_of) c.in_ok-insert.ensures.entries
    ∙ inserted_note c.self.inside.answers.entries (record { user = c.in_ok-try_clone.field-0; id = c.in_ok-try_clone-2.field-0 }) c.args.note.now.answer c.in_ok-insert.ensures.was_ordered
    ∙ ap₂ (λ (note : ImportNote) (notes : List ImportNote). placed note_order note notes)
    (ap₂ (λ user id. record c.args.note.now { user = user; id = id }) c.in_ok-try_clone.ensures c.in_ok-try_clone-2.ensures)
    c.self.view_is

pub invariant_of-self-2 : goal.invariant_of-self-2
invariant_of-self-2 c =
    subst (Pairwise NoteBefore)
    (sym (ap (map note_of) c.in_ok-insert.ensures.entries
    ∙ inserted_note c.self.inside.answers.entries (record { user = c.in_ok-try_clone.field-0; id = c.in_ok-try_clone-2.field-0 }) c.args.note.now.answer c.in_ok-insert.ensures.was_ordered))
    (placed-ascends note_order note_order_total _ (map note_of c.self.inside.answers.entries) c.self.invariant)
