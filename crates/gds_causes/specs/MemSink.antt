-- A sink in memory: which write fails, and what a write takes.
use Rattle.std.specs.Prelude.{ℕ, ◌-◌, Bool, ◌&&◌, ◌||◌, ◌==◌, nat_lt, if◌then◌else◌, List, ◌++◌, length, take, min, Result, Ok, Err}
use Rattle.gds_causes.specs.declared.traits.Failed.{Failed}
use Rattle.gds_causes.specs.Faults.{count_after_fault, failure, next_number, is_listed}

-- the bytes that were taken, how many of them were flushed, how many more there is room for, the most bytes that a write
-- takes, the numbers of the writes that fail, how many writes were made, and how many of them failed
pub record SinkState : Type 0 where
  pub taken : List ℕ
  pub flushed : ℕ
  pub room : ℕ
  pub piece : ℕ
  pub fails : List ℕ
  pub calls : ℕ
  pub faults : ℕ

-- whether the next write, of so many bytes, fails: its number is listed, or there are bytes and no room is left
abbrev pub write_fails : SinkState → ℕ → Bool
write_fails sink count = is_listed sink.fails (next_number sink.calls) || (nat_lt 0 count && sink.room == 0)

-- how many of so many bytes a write takes: as many as the piece and the room allow
abbrev pub taken_count : SinkState → ℕ → ℕ
taken_count sink count = min (min sink.piece sink.room) count

-- what a write of so many bytes answers
abbrev pub write_answer : SinkState → ℕ → Result ℕ Failed
write_answer sink count = if write_fails sink count then Err failure else Ok (taken_count sink count)

-- the sink after a write of these bytes: one that fails takes nothing
abbrev pub sink_after_write : SinkState → List ℕ → SinkState
sink_after_write sink bytes =
    if write_fails sink (length bytes)
    then record sink { calls = next_number sink.calls; faults = count_after_fault sink.faults }
    else record sink {
      taken = sink.taken ++ take (taken_count sink (length bytes)) bytes;
      room = sink.room - taken_count sink (length bytes);
      calls = next_number sink.calls;
    }
