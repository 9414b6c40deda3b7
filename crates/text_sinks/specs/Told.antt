-- What a sink of texts tells, and what putting a text does to it.
use Rattle.std.specs.Prelude.{◌≡◌, ℕ, ◌+◌, ◌-◌, ◌^◌, ◌≤◌, min, List, [], ◌++◌, length, Option, None, Some, Result, OnOk, OnErr}
use Rattle.std.specs.Io.KnownBytes.{Appends}
use Rattle.gds_causes.specs.Faults.{Rose}
use Rattle.gds_causes.specs.Front.{AppendsFront}

-- which sink stands behind it, how many bytes were counted, the bytes that the sink behind took, those that wait to be handed
-- on, how many the sink behind flushed, and its count of faults
pub record Told : Type 0 where
  pub of : ℕ
  pub count : Option ℕ
  pub taken : Option (List ℕ)
  pub waiting : List ℕ
  pub flushed : Option ℕ
  pub faults : ℕ

-- a count grows by so many, up to the greatest u64, where it stands still
abbrev pub Grows : Option ℕ → Option ℕ → ℕ → Type 0
Grows None after more = Unit {0}
Grows (Some n) None more = ⊥
Grows (Some n) (Some m) more = min m (2 ^ 64 - 1) ≡ min (n + more) (2 ^ 64 - 1)

-- a text was put: it is counted, and what waited before and the text are what was handed on and what waits now
pub record Puts (before after : Told) (text : List ℕ) : Type 0 where
  pub same : after.of ≡ before.of
  pub counted : Grows before.count after.count (length text)
  pub front : List ℕ
  pub handed : Appends before.taken after.taken front
  pub whole : before.waiting ++ text ≡ front ++ after.waiting
  pub held : after.flushed ≡ before.flushed
  pub calm : after.faults ≡ before.faults

-- putting a text stopped at a fault: the sink behind took a front of what waited and the text
pub record Stops (before after : Told) (text : List ℕ) : Type 0 where
  pub same : after.of ≡ before.of
  pub front : AppendsFront before.taken after.taken (before.waiting ++ text)
  pub held : after.flushed ≡ before.flushed
  pub fault : Rose before.faults after.faults
  pub later : before.faults ≤ after.faults

-- what an answer says of putting a text
pub record Wrote {A E : Type 0} (answer : Result A E) (before after : Told) (text : List ℕ) : Type 0 where
  pub ok : OnOk answer (Puts before after text)
  pub err : OnErr answer (Stops before after text)

-- what a sink that counts tells
abbrev pub counted : ℕ → Told
counted n = record { of = 0; count = Some n; taken = None; waiting = []; flushed = None; faults = 0 }

-- what a sink that gathers bytes for another one tells
abbrev pub gathered : ℕ → Option (List ℕ) → List ℕ → Option ℕ → ℕ → Told
gathered of taken waiting flushed faults = record { of = of; count = None; taken = taken; waiting = waiting; flushed = flushed; faults = faults }
