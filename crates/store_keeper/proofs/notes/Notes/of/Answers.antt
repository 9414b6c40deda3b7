use Rattle.std.proofs.Common.{List, ap₂, ◌∙◌}
use Rattle.graph_model.specs.declared.kept.ImportNote.{ImportNote}
use Rattle.graph_model.specs.Kept.{note_order}
use Rattle.graph_model.specs.Lists.{placed}
use Rattle.graph_model.proofs.KeptLemmas.{note_order_total}
use Rattle.graph_model.proofs.Placed.{placed-next}
use Rattle.store_keeper.proofs.notes.Notes.of.Goals as goal

pub loop-note-preserved : goal.loop-note-preserved
loop-note-preserved c =
    c.in_ok-add.ensures.ok
    ∙ ap₂ (λ (n : ImportNote) (ns : List ImportNote). placed note_order n ns) c.note-item.is c.loop-note.invariant
    ∙ placed-next note_order note_order_total c.args.notes.now c.loop-note.note-index c.note-item.result c.loop-note-test.true c.requires
