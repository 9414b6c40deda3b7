-- A source in memory: which read fails, and what a read gives.
use Rattle.std.specs.Prelude.{ℕ, Bool, if◌then◌else◌, List, ◌++◌, length, take, drop, min, Result, Ok, Err}
use Rattle.gds_causes.specs.declared.traits.Failed.{Failed}
use Rattle.gds_causes.specs.Faults.{count_after_fault, failure, next_number, is_listed}

-- the bytes that are left, the most bytes that a read gives, the numbers of the reads that fail,
-- how many reads were made, and how many of them failed
pub record SourceState : Type 0 where
  pub remaining : List ℕ
  pub piece : ℕ
  pub fails : List ℕ
  pub calls : ℕ
  pub faults : ℕ

-- whether the next read fails: its number is listed
abbrev pub read_fails : SourceState → Bool
read_fails source = is_listed source.fails (next_number source.calls)

-- the bytes that a read gives into a buffer of this length
abbrev pub next_bytes : SourceState → ℕ → List ℕ
next_bytes source room = take (min source.piece room) source.remaining

-- what a read into a buffer of this length answers
abbrev pub read_answer : SourceState → ℕ → Result ℕ Failed
read_answer source room = if read_fails source then Err failure else Ok (length (next_bytes source room))

-- the buffer after a read: the bytes at its front, and the others as they were
abbrev pub buffer_after_read : SourceState → List ℕ → List ℕ
buffer_after_read source buffer =
    if read_fails source then buffer
    else next_bytes source (length buffer) ++ drop (length (next_bytes source (length buffer))) buffer

-- the source after a read into a buffer of this length: one that fails takes nothing
abbrev pub source_after_read : SourceState → ℕ → SourceState
source_after_read source room =
    if read_fails source
    then record source { calls = next_number source.calls; faults = count_after_fault source.faults }
    else record source { remaining = drop (min source.piece room) source.remaining; calls = next_number source.calls }
