-- What a keeper tells of what it keeps.
use Rattle.std.specs.Prelude.{◌≡◌, Option, Some, None, Result, Ok, Err}
use Rattle.graph_model.specs.declared.change.Change.{Change}
use Rattle.graph_model.specs.declared.kept.ImportNote.{ImportNote}
use Rattle.graph_model.specs.declared.kept.Kept.{Kept}
use Rattle.graph_model.specs.Change.{refused_change}
use Rattle.graph_model.specs.Kept.{NoteFits, kept_after}
use Rattle.store_keeper.specs.declared.keeper.KeepRefusal.{KeepRefusal}
use Rattle.store_keeper.specs.declared.keeper.KeepRefusal.TheVariants.{Fault, Mem}

-- this is what is told, where something is told
abbrev pub IsTold : Option Kept → Kept → Type 0
IsTold None kept = Unit {0}
IsTold (Some told) kept = kept ≡ told

-- a change is allowed on the graph that is told, and a note fits beside the notes that are told, where they are told
abbrev pub FitsTold : Option Kept → Change → Option ImportNote → Type 0
FitsTold None change with_note = Unit {0}
FitsTold (Some told) change with_note = (refused_change told.graph change ≡ None) × NoteFits with_note told.imports

-- what is told after a change that came with a note or without one
abbrev pub told_after : Option Kept → Change → Option ImportNote → Option Kept
told_after None change with_note = None
told_after (Some told) change with_note = Some (kept_after told change with_note)

-- an answer is a fault, or else this holds
abbrev pub UnlessFault : {A : Type 0} → Result A KeepRefusal → Type 0 → Type 0
UnlessFault (Ok value) P = P
UnlessFault (Err Fault) P = Unit {0}
UnlessFault (Err Mem) P = P
