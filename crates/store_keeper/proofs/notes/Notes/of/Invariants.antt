use Rattle.std.proofs.Common.{◌≡◌, take}
use Rattle.store_keeper.proofs.notes.Notes.of.Given as goal

-- the notes so far
abbrev pub invariant-loop-note : goal.invariant-loop-note
invariant-loop-note l = l.made ≡ take l.note-index l.notes
