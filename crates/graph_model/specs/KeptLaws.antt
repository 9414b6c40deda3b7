-- What commits do to what is kept, as statements that laws prove.
use Rattle.std.specs.Prelude.{◌≡◌, ◌≢◌, ℕ, if◌then◌else◌, List, Option, Some}
use Rattle.std.specs.Str.{bytes_eq}
use Rattle.graph_model.specs.declared.change.Change.{Change}
use Rattle.graph_model.specs.declared.kept.ImportNote.{ImportNote}
use Rattle.graph_model.specs.declared.kept.Kept.{Kept}
use Rattle.graph_model.specs.Change.{ChangeFits}
use Rattle.graph_model.specs.Kept.{NoteFits, IsValidKept, kept_after, notes_after, answers_of, answer_entry, entry_order, NoteBefore}
use Rattle.graph_model.specs.Lists.{Pairwise, placed}
use Rattle.graph_model.specs.Projection.{under}

-- a change and a note that fit keep valid what is kept
abbrev pub FittingCommitKeepsKept : Type 0
FittingCommitKeepsKept = (kept : Kept) (change : Change) (note : Option ImportNote) → IsValidKept kept → ChangeFits kept.graph change →
    NoteFits note kept.imports → IsValidKept (kept_after kept change note)

-- a note that is added puts its answer at its place among its user's, and leaves those of all others
pub record AddsAnswer (note : ImportNote) (notes : List ImportNote) : Type 0 where
  pub own : answers_of note.user (notes_after (Some note) notes) ≡ placed entry_order (answer_entry note) (answers_of note.user notes)
  pub others : (user : List ℕ) → user ≢ note.user → answers_of user (notes_after (Some note) notes) ≡ answers_of user notes

-- so it is among notes in order
abbrev pub NotesAddAnswers : Type 0
NotesAddAnswers = (note : ImportNote) (notes : List ImportNote) → Pairwise NoteBefore notes → AddsAnswer note notes

-- under its id stands the answer then, and under each other id what stood there before
abbrev pub AnswerStandsUnderId : Type 0
AnswerStandsUnderId = (note : ImportNote) (notes : List ImportNote) (id : List ℕ) → Pairwise NoteBefore notes →
    under id (answers_of note.user (notes_after (Some note) notes))
    ≡ (if bytes_eq note.id id then Some note.answer else under id (answers_of note.user notes))
