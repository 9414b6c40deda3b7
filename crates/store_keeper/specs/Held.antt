-- What is held in memory: what was given, and once it was opened a store and the notes under their keys.
use Rattle.std.specs.Prelude.{ℕ, List, map, Option, Some, None}
use Rattle.graph_model.specs.declared.change.ChangeReply.{ChangeReply}
use Rattle.graph_model.specs.declared.kept.ImportNote.{ImportNote}
use Rattle.graph_model.specs.declared.kept.Kept.{Kept}
use Rattle.store_keeper.specs.declared.notes.NoteKey.{NoteKey}

-- the note that stands under a key
abbrev pub note_of : NoteKey × ChangeReply → ImportNote
note_of entry = record { user = entry.0.user; id = entry.0.id; answer = entry.1 }

-- what is kept now: what was opened, and else what was given
abbrev pub kept_now : Option Kept → Kept → Kept
kept_now None given = given
kept_now (Some opened) given = opened
