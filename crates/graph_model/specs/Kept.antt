-- What a keeper keeps: a graph, and notes of the answers of imports.
--   answers_of user notes         the answers that are kept for a user, by ascending import id
--   notes_after note notes        notes with one more at its place, where there is one
--   kept_after kept change note   what is kept after a change that came with a note or without one
--   NoteFits note notes           a note that may be added: its id is new, and there is room for it
--   IsValidKept kept              a valid graph within the limits, and notes in order, not too many for a user
use Rattle.std.specs.Prelude.{◌≡◌, ℕ, ◌<◌, ◌≤◌, Bool, List, [], length, map, filter, Option, Some, None}
use Rattle.std.specs.Str.{bytes_eq}
use Rattle.std.specs.Ordering.{nat_cmp, ordering_then}
use Rattle.std.specs.Cmp.Lexicographic.{slice_cmp}
use Rattle.std.specs.declared.cmp.Ordering.{Ordering}
use Rattle.std.specs.declared.cmp.Ordering.TheVariants.{Less}
use Rattle.graph_model.specs.declared.change.Change.{Change}
use Rattle.graph_model.specs.declared.change.ChangeReply.{ChangeReply}
use Rattle.graph_model.specs.declared.kept.ImportNote.{ImportNote}
use Rattle.graph_model.specs.declared.kept.Kept.{Kept}
use Rattle.graph_model.specs.Change.{after_change}
use Rattle.graph_model.specs.Graph.{IsValidGraph, IsWithinLimits}
use Rattle.graph_model.specs.Lists.{Pairwise, placed}
use Rattle.graph_model.specs.Projection.{under}
use Rattle.graph_model.specs.SmallStore.{empty_graph}

-- the most import answers that are kept for a user
abbrev pub most_imports : ℕ
most_imports = 65536

-- the empty graph and no notes
abbrev pub empty_kept : Kept
empty_kept = record { graph = empty_graph; imports = [] }

-- the order of notes: by user, and of one user by import id
abbrev pub note_order : ImportNote → ImportNote → Ordering
note_order a b = ordering_then (slice_cmp nat_cmp a.user b.user) (slice_cmp nat_cmp a.id b.id)

-- a note comes before another
abbrev pub NoteBefore : ImportNote → ImportNote → Type 0
NoteBefore a b = note_order a b ≡ Less

-- the order of what stands under names
abbrev pub entry_order : {A : Type 0} → List ℕ × A → List ℕ × A → Ordering
entry_order a b = slice_cmp nat_cmp a.0 b.0

-- whether a note is a user's
abbrev pub is_note_of : List ℕ → ImportNote → Bool
is_note_of user note = bytes_eq note.user user

-- the import id of a note, and the answer that stands under it
abbrev pub answer_entry : ImportNote → List ℕ × ChangeReply
answer_entry note = (note.id, note.answer)

-- the answers that are kept for a user, by ascending import id
abbrev pub answers_of : List ℕ → List ImportNote → List (List ℕ × ChangeReply)
answers_of user notes = map answer_entry (filter (is_note_of user) notes)

-- notes with one more at its place, where there is one
abbrev pub notes_after : Option ImportNote → List ImportNote → List ImportNote
notes_after None notes = notes
notes_after (Some note) notes = placed note_order note notes

-- what is kept after a change that came with a note or without one
abbrev pub kept_after : Kept → Change → Option ImportNote → Kept
kept_after kept change note = record { graph = after_change kept.graph change; imports = notes_after note kept.imports }

-- a note may be added: nothing is kept under its id for its user, who has room for one more
abbrev pub NoteFits : Option ImportNote → List ImportNote → Type 0
NoteFits None notes = Unit {0}
NoteFits (Some note) notes = (under note.id (answers_of note.user notes) ≡ None) × (length (answers_of note.user notes) < most_imports)

-- a valid graph within the limits, and notes in order, no two of one user and id, not too many for any user
pub record IsValidKept (kept : Kept) : Type 0 where
  pub graph : IsValidGraph kept.graph
  pub limits : IsWithinLimits kept.graph
  pub notes : Pairwise NoteBefore kept.imports
  pub few : (user : List ℕ) → length (answers_of user kept.imports) ≤ most_imports
