-- What serving a text of lines comes to: which entries perform the items, what is written, and what the desk stands for then.
--   IsAnswered item entries reply       an item is answered with a reply, by these entries
--   AreAnswered items entries text      items are answered one after another, and this is the text of the answers
--   IsBegun items entries front         of the next item maybe its entries are made, and a front of its answer is written
--   Counts entries before after         a count of faults rose at least as often as entries are flagged
--   Serves items ..                     all items were answered
--   Halts stop items ..                 a front of the items was answered, and then it stopped
--   ShellEnds end ..                    how a shell ends
use Rattle.std.specs.Prelude.{◌≡◌, ◌⊎◌, ℕ, ◌+◌, ◌-◌, ◌^◌, ◌<◌, ◌≤◌, min, Bool, true, false, List, [], ◌∷◌, ◌++◌, length, count_by, Option, Some, None, Result, Ok, Err}
use Rattle.std.specs.Io.KnownBytes.{Appends, Consumes, IsAtEnd}
use Rattle.std.specs.Option.{option_map}
use Rattle.gds_causes.specs.Faults.{Rose}
use Rattle.std.specs.List.{AllByRecursion, list_any}
use Rattle.graph_model.specs.declared.refusal.Refusal.TheVariants as refusal
use Rattle.graph_model.specs.declared.refusal.LongPart.TheVariants as long
use Rattle.desk_model.specs.State.{State}
use Rattle.desk_model.specs.Replies.{PlainReply, Refused}
use Rattle.desk_model.specs.History.{HistoryEntry, AreLegal, state_after}
use Rattle.desk_model.specs.Script.{IsScript}
use Rattle.desk_model.specs.declared.call.Call.{Call}
use Rattle.desk_model.specs.declared.call.Call.TheVariants as call
use Rattle.desk_model.specs.declared.asked.Event.{Event}
use Rattle.desk_model.specs.declared.asked.Event.TheVariants as event
use Rattle.call_codec.specs.Answers.{line_answer}
use Rattle.call_codec.specs.Lines.{Item, Calls, Refuses, line_items, asked_by_line, most_line_bytes, is_lf, rest_of}
use Rattle.gds_session.specs.declared.ends.End.{End}
use Rattle.gds_session.specs.declared.ends.End.TheVariants as end
use Rattle.gds_session.specs.declared.degrees.WriteStop.{WriteStop}
use Rattle.gds_session.specs.declared.degrees.WriteStop.TheVariants as stop
use Rattle.gds_session.specs.declared.input.ReadStop.{ReadStop}
use Rattle.gds_session.specs.declared.input.ReadStop.TheVariants as read
use Rattle.gds_session.specs.declared.asking.Turn.{Turn}
use Rattle.gds_session.specs.declared.asking.Turn.TheVariants as turn

-- an item is answered with a reply: a call by a script of it, a refusal by no entries, with itself or with want of memory
abbrev pub IsAnswered : Item → List HistoryEntry → PlainReply → Type 0
IsAnswered (Calls user call) entries reply = IsScript user call entries reply
IsAnswered (Refuses why) entries reply = (entries ≡ []) × ((reply ≡ Refused why) ⊎ (reply ≡ Refused refusal.Mem))

-- items are answered one after another by these entries, and this is the text of the answers
abbrev pub AreAnswered : List Item → List HistoryEntry → List ℕ → Type 0
AreAnswered [] entries text = (entries ≡ []) × (text ≡ [])
AreAnswered (item ∷ items) entries text =
    (own : List HistoryEntry) × (others : List HistoryEntry) × (reply : PlainReply) × (more : List ℕ)
    × (entries ≡ own ++ others) × IsAnswered item own reply × (text ≡ line_answer reply ++ more) × AreAnswered items others more

-- a text is a front of another
abbrev pub IsFront : List ℕ → List ℕ → Type 0
IsFront front text = (back : List ℕ) × (text ≡ front ++ back)

-- of the next item nothing is done, or its entries are made, and a front of its answer is written
abbrev pub IsBegun : List Item → List HistoryEntry → List ℕ → Type 0
IsBegun [] entries front = (entries ≡ []) × (front ≡ [])
IsBegun (item ∷ items) entries front =
    ((entries ≡ []) × (front ≡ [])) ⊎ ((reply : PlainReply) × IsAnswered item entries reply × IsFront front (line_answer reply))

-- whether an entry was refused for a fault of the keeper
abbrev pub is_flagged : HistoryEntry → Bool
is_flagged entry = entry.refused

-- a count of faults rose at least as often as entries are flagged, or stands at its last value
abbrev pub Counts : List HistoryEntry → ℕ → ℕ → Type 0
Counts entries before after = min (before + count_by is_flagged entries) (2 ^ 64 - 1) ≤ after

-- an entry is of the shell, whose pass has the number 0
abbrev pub IsOfShell : HistoryEntry → Type 0
IsOfShell entry = entry.pass ≡ 0

-- entries led from one state to another: they are legal behind all earlier ones, are of the shell, and the count rose for them
pub record Leads (entries : List HistoryEntry) (opening closing : State) (faults_before faults_after : ℕ) : Type 0 where
  pub legal : (earlier : List HistoryEntry) → AreLegal opening earlier entries
  pub own : AllByRecursion IsOfShell entries
  pub state : closing ≡ state_after opening entries
  pub counted : Counts entries faults_before faults_after

-- a moment of a shell: the state that the desk stands for, its keeper's count of faults, the bytes that the sink took, how many
-- of them were flushed, and the sink's count of faults
pub record Moment : Type 0 where
  pub state : State
  pub faults : ℕ
  pub taken : Option (List ℕ)
  pub flushed : Option ℕ
  pub write_faults : ℕ

abbrev pub moment : State → ℕ → Option (List ℕ) → Option ℕ → ℕ → Moment
moment state faults taken flushed write_faults =
    record { state = state; faults = faults; taken = taken; flushed = flushed; write_faults = write_faults }

-- all that a sink took was flushed since, or it took nothing
abbrev pub IsFlushed : Moment → Moment → Type 0
IsFlushed old new = ((new.taken ≡ old.taken) × (new.flushed ≡ old.flushed)) ⊎ (new.flushed ≡ option_map length new.taken)

-- a reply answers an item, by entries that led from one state to another
pub record Performs (item : Item) (reply : PlainReply) (opening closing : State) (faults_before faults_after : ℕ) : Type 0 where
  pub entries : List HistoryEntry
  pub answered : IsAnswered item entries reply
  pub leads : Leads entries opening closing faults_before faults_after

-- all items were answered, and the answers flushed, without a fault of the sink
pub record Serves (items : List Item) (old new : Moment) : Type 0 where
  pub entries : List HistoryEntry
  pub written : List ℕ
  pub answered : AreAnswered items entries written
  pub leads : Leads entries old.state new.state old.faults new.faults
  pub appended : Appends old.taken new.taken written
  pub flushed : IsFlushed old new
  pub calm : new.write_faults ≡ old.write_faults

-- where no memory was to be had the next item wasn't begun: no entry was made and nothing was written
abbrev pub IsUnbegun : WriteStop → List HistoryEntry → List ℕ → Type 0
IsUnbegun stop.Fault entries front = Unit {0}
IsUnbegun stop.OutOfMemory entries front = (entries ≡ []) × (front ≡ [])

-- a sink took a front of a text
abbrev pub TookFront : Option (List ℕ) → Option (List ℕ) → List ℕ → Type 0
TookFront before after text = (front : List ℕ) × IsFront front text × Appends before after front

-- a failed write as a stop
abbrev pub stopped_by : {A E : Type 0} → Result A E → Result A WriteStop
stopped_by (Ok value) = Ok value
stopped_by (Err why) = Err stop.Fault

-- a sink's count of faults rose where a write or a flush failed, and stands where no memory was to be had
abbrev pub CountsBy : WriteStop → ℕ → ℕ → Type 0
CountsBy stop.Fault before after = Rose before after
CountsBy stop.OutOfMemory before after = after ≡ before

-- a front of the items was answered; then it stopped: at a fault maybe with the entries of the next item made and a front of its
-- answer written, and for want of memory before the next item
pub record Halts (why : WriteStop) (items : List Item) (old new : Moment) : Type 0 where
  pub done : List Item
  pub left : List Item
  pub entries : List HistoryEntry
  pub begun : List HistoryEntry
  pub written : List ℕ
  pub front : List ℕ
  pub cut : items ≡ done ++ left
  pub answered : AreAnswered done entries written
  pub next : IsBegun left begun front
  pub unbegun : IsUnbegun why begun front
  pub leads : Leads (entries ++ begun) old.state new.state old.faults new.faults
  pub appended : Appends old.taken new.taken (written ++ front)
  pub counted : CountsBy why old.write_faults new.write_faults

-- whether the input counts as ended where the source tells what it has left
abbrev pub EndsWith : Bool → Option (List ℕ) → Type 0
EndsWith ended None = Unit {0}
EndsWith ended (Some []) = ended ≡ true
EndsWith ended (Some (b ∷ bytes)) = ended ≡ false

-- it stopped within what was read
abbrev pub HaltsWithin : WriteStop → List ℕ → Option (List ℕ) → Moment → Moment → Type 0
HaltsWithin why read rest old new = (ended : Bool) × EndsWith ended rest × Halts why (line_items read ended) old new

-- how a shell ends, by the bytes that it read and those that the source has left: at Done, and after a read fault or a
-- spent budget, all items were answered; after a write fault or want of memory a front of them
abbrev pub ShellEnds : End → ℕ → List ℕ → Option (List ℕ) → Moment → Moment → Type 0
ShellEnds end.Done budget read rest old new = IsAtEnd rest × Serves (line_items read true) old new
ShellEnds end.ReadFault budget read rest old new = Serves (line_items read false) old new
ShellEnds end.Spent budget read rest old new = (length read ≡ budget) × Serves (line_items read false) old new
ShellEnds end.WriteFault budget read rest old new = HaltsWithin stop.Fault read rest old new
ShellEnds end.Mem budget read rest old new = HaltsWithin stop.OutOfMemory read rest old new
ShellEnds end.BadWords budget read rest old new = ⊥
ShellEnds (end.BadInput line) budget read rest old new = ⊥

-- a shell read some bytes within the budget, and ended by them
pub record Shelled (end : End) (budget : ℕ) (remaining rest : Option (List ℕ)) (old new : Moment) : Type 0 where
  pub read : List ℕ
  pub consumed : Consumes remaining rest read
  pub within : length read ≤ budget
  pub ends : ShellEnds end budget read rest old new

-- ---- lines that aren't whole yet

-- what is kept of a line that isn't whole: all of it, or only that it is too long
abbrev pub IsPending : Bool → List ℕ → List ℕ → Type 0
IsPending true kept waiting = most_line_bytes < length waiting
IsPending false kept waiting = kept ≡ waiting

-- what a whole line asks by what is kept of its front, and its tail
abbrev pub asks_with : Bool → List ℕ → List ℕ → List Item
asks_with true kept tail = Refuses (refusal.TooLong long.Line most_line_bytes) ∷ []
asks_with false kept tail = asked_by_line (kept ++ tail)

-- the event that performs a call
abbrev pub event_for : Call → Event
event_for (call.Create import change) = event.Change import change
event_for (call.Alter change) = event.Change None change
event_for (call.StoreRows key labels) = event.StoreRows key labels

-- some bytes are a line without an LF, an LF, and the bytes behind it
pub record IsCut (bytes line behind : List ℕ) : Type 0 where
  pub whole : bytes ≡ line ++ 10 ∷ behind
  pub alone : list_any is_lf line ≡ false

-- whatever waited before a piece: the lines that are whole now were answered, and what waits now is kept
abbrev pub ServesPiece : Bool → List ℕ → List ℕ → Bool → List ℕ → Moment → Moment → Type 0
ServesPiece was_long kept piece is_long keeps old new =
    (waiting : List ℕ) → list_any is_lf waiting ≡ false → IsPending was_long kept waiting →
    Serves (line_items (waiting ++ piece) false) old new × IsPending is_long keeps (rest_of (waiting ++ piece))

-- whatever waited before a piece: it stopped within the lines that are whole now
abbrev pub HaltsPiece : WriteStop → Bool → List ℕ → List ℕ → Moment → Moment → Type 0
HaltsPiece why was_long kept piece old new =
    (waiting : List ℕ) → list_any is_lf waiting ≡ false → IsPending was_long kept waiting → Halts why (line_items (waiting ++ piece) false) old new

-- how the last line ends a shell
abbrev pub EndsBy : End → List Item → Moment → Moment → Type 0
EndsBy end.Done items old new = Serves items old new
EndsBy end.WriteFault items old new = Halts stop.Fault items old new
EndsBy end.Mem items old new = Halts stop.OutOfMemory items old new
EndsBy end.ReadFault items old new = ⊥
EndsBy end.Spent items old new = ⊥
EndsBy end.BadWords items old new = ⊥
EndsBy (end.BadInput line) items old new = ⊥

-- the end where writing stopped
abbrev pub end_of_stop : WriteStop → End
end_of_stop stop.Fault = end.WriteFault
end_of_stop stop.OutOfMemory = end.Mem

-- what became of one read that gave these bytes, behind what waited
abbrev pub TurnEnds : Turn → List ℕ → List ℕ → Option (List ℕ) → Bool → List ℕ → Moment → Moment → Type 0
TurnEnds (turn.More n) waiting more rest is_long keeps old new =
    (length more ≡ n) × (0 < n) × Serves (line_items (waiting ++ more) false) old new × IsPending is_long keeps (rest_of (waiting ++ more))
TurnEnds (turn.Over end.Done) waiting more rest is_long keeps old new = (more ≡ []) × IsAtEnd rest × Serves (line_items waiting true) old new
TurnEnds (turn.Over end.ReadFault) waiting more rest is_long keeps old new = (more ≡ []) × Serves [] old new
TurnEnds (turn.Over end.WriteFault) waiting more rest is_long keeps old new = HaltsWithin stop.Fault (waiting ++ more) rest old new
TurnEnds (turn.Over end.Mem) waiting more rest is_long keeps old new = HaltsWithin stop.OutOfMemory (waiting ++ more) rest old new
TurnEnds (turn.Over end.Spent) waiting more rest is_long keeps old new = ⊥
TurnEnds (turn.Over end.BadWords) waiting more rest is_long keeps old new = ⊥
TurnEnds (turn.Over (end.BadInput line)) waiting more rest is_long keeps old new = ⊥

-- one read gave some bytes, as many as there was room for at the most, and ended so whatever waited
pub record Turned (done : Turn) (room : ℕ) (remaining rest : Option (List ℕ)) (was_long : Bool) (kept : List ℕ) (is_long : Bool) (keeps : List ℕ) (old new : Moment) : Type 0 where
  pub more : List ℕ
  pub consumed : Consumes remaining rest more
  pub within : length more ≤ room
  pub ends : (waiting : List ℕ) → list_any is_lf waiting ≡ false → IsPending was_long kept waiting → TurnEnds done waiting more rest is_long keeps old new

-- the end where reading stopped
abbrev pub end_of_read : ReadStop → End
end_of_read read.Fault = end.ReadFault
end_of_read read.Spent = end.Mem
end_of_read read.OutOfMemory = end.Mem

-- some bytes were taken, and no more than there was room for
abbrev pub IsTaken : Turn → ℕ → Type 0
IsTaken (turn.More n) room = (0 < n) × (n ≤ room)
IsTaken (turn.Over _) room = Unit {0}
