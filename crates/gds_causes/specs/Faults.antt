-- Counts of faults, and the numbers of calls.
use Rattle.std.specs.Prelude.{ℕ, ◌+◌, ◌-◌, ◌^◌, ◌≤◌, ◌==◌, min, Bool, List}
use Rattle.std.specs.List.{list_any}
use Rattle.gds_causes.specs.declared.traits.Failed.{Failed}

-- the count after one more fault: it stands still at the greatest u64
abbrev pub count_after_fault : ℕ → ℕ
count_after_fault n = min (n + 1) (2 ^ 64 - 1)

-- the count rose: it is greater now, or stands at the greatest u64
abbrev pub Rose : ℕ → ℕ → Type 0
Rose before after = count_after_fault before ≤ after

-- the answer of a call that failed
abbrev pub failure : Failed
failure = record {}

-- the number of the next call, from 1 on, by how many calls were made: it stands still at the greatest u64
abbrev pub next_number : ℕ → ℕ
next_number calls = min (calls + 1) (2 ^ 64 - 1)

-- whether a number is among those that are listed
abbrev pub is_listed : List ℕ → ℕ → Bool
is_listed numbers number = list_any (λ listed. listed == number) numbers
