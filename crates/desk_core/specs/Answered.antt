-- What became of a change.
use Rattle.std.specs.Prelude.{◌≡◌, ℕ, Bool, true, false, List, Option, Some, None, Result, Ok, Err}
use Rattle.graph_model.specs.declared.change.ChangeReply.{ChangeReply}
use Rattle.graph_model.specs.declared.graph.Column.{Column}
use Rattle.graph_model.specs.declared.memory.Mem.{Mem as TheMem}
use Rattle.graph_model.specs.declared.refusal.Refusal.{Refusal}
use Rattle.graph_model.specs.declared.refusal.Refusal.TheVariants.{StoreFault, Mem}
use Rattle.store_keeper.specs.declared.keeper.KeepRefusal.{KeepRefusal}
use Rattle.store_keeper.specs.declared.keeper.KeepRefusal.TheVariants as keep
use Rattle.desk_model.specs.Replies.{PlainReply, Changed, Stored, Rows, Refused, rows_of}

-- what a change is answered with: what it did, or why it wasn't made
abbrev pub change_reply : Result ChangeReply Refusal → PlainReply
change_reply (Ok answer) = Changed answer
change_reply (Err why) = Refused why

-- what rows are answered with, where there is memory for them
abbrev pub rows_reply : Result Column TheMem → PlainReply
rows_reply (Ok column) = Stored (rows_of column)
rows_reply (Err none) = Refused Mem

-- what rows of a named graph are answered with, or why there are none
abbrev pub told_reply : Result Column Refusal → PlainReply
told_reply (Ok column) = Rows (rows_of column)
told_reply (Err why) = Refused why

-- why a change wasn't made: want of memory, a fault of the keeper where the change was allowed, or what it is refused for
abbrev pub IsCause : Refusal → Option Refusal → Type 0
IsCause Mem refused = Unit {0}
IsCause (StoreFault batches) refused = (batches ≡ 0) × (refused ≡ None)
IsCause why refused = refused ≡ Some why

-- the refusal of a keeper, as it is answered
abbrev pub keep_refusal : KeepRefusal → Refusal
keep_refusal keep.Fault = StoreFault 0
keep_refusal keep.Mem = Mem

-- a refusal is a fault of the store, or else this holds
abbrev pub UnlessFaultIn : Refusal → Type 0 → Type 0
UnlessFaultIn (StoreFault batches) P = Unit {0}
UnlessFaultIn why P = P

-- what a change is answered with is a fault of the store, or else this holds
abbrev pub UnlessStoreFault : Result ChangeReply Refusal → Type 0 → Type 0
UnlessStoreFault (Ok answer) P = P
UnlessStoreFault (Err why) P = UnlessFaultIn why P
