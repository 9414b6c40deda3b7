use Rattle.std.proofs.Common.{◌≡◌, ◌++◌, map}
use Rattle.store_keeper.specs.Held.{note_of}
use Rattle.store_keeper.proofs.notes.Notes.copies.Given as goal

-- the copies so far before the notes to come are all notes
abbrev pub invariant-loop-key : goal.invariant-loop-key
invariant-loop-key l = l.notes ++ map note_of l.key-iterator ≡ l.self
