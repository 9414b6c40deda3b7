-- A reader or a writer, beside the number of calls of it that failed.
use Rattle.std.specs.Prelude.{ℕ, Result, Ok, Err}
use Rattle.gds_causes.specs.declared.traits.Failed.{Failed}
use Rattle.gds_causes.specs.Faults.{count_after_fault}

-- what is asked, and how many calls failed
pub record Counted (T : Type 0) : Type 0 where
  pub inner : T
  pub faults : ℕ

-- a writer, as it is and as it was when a flush last succeeded, and how many calls failed
pub record CountedSink (T : Type 0) : Type 0 where
  pub inner : T
  pub at_flush : T
  pub faults : ℕ

-- the count after a call with this answer: it rises at a failure alone
abbrev pub count_after : {T : Type 0} → Result T Failed → ℕ → ℕ
count_after (Ok value) faults = faults
count_after (Err why) faults = count_after_fault faults
