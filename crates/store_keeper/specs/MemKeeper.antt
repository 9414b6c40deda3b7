-- A keeper in memory: which commit fails, and what a commit leaves.
use Rattle.std.specs.Prelude.{ℕ, Bool, true, false, List, Option, Result, Ok, Err}
use Rattle.graph_model.specs.declared.change.Change.{Change}
use Rattle.graph_model.specs.declared.kept.ImportNote.{ImportNote}
use Rattle.graph_model.specs.declared.kept.Kept.{Kept}
use Rattle.graph_model.specs.Kept.{kept_after}
use Rattle.gds_causes.specs.Faults.{count_after_fault, next_number, is_listed}
use Rattle.store_keeper.specs.declared.keeper.KeepRefusal.{KeepRefusal}
use Rattle.store_keeper.specs.declared.keeper.KeepRefusal.TheVariants.{Fault, Mem}

-- what is kept, the path that the keeper was obtained for, the numbers of the commits that fail, how many commits were asked
-- for, and how many of them failed
pub record KeeperState : Type 0 where
  pub kept : Kept
  pub path : Option (List ℕ)
  pub fails : List ℕ
  pub commits : ℕ
  pub faults : ℕ

-- whether the next commit fails: its number is listed
abbrev pub commit_fails : KeeperState → Bool
commit_fails keeper = is_listed keeper.fails (next_number keeper.commits)

-- the keeper after a commit was asked for
abbrev pub asked_once_more : KeeperState → KeeperState
asked_once_more keeper = record keeper { commits = next_number keeper.commits }

-- the keeper after a commit of a change and a note with this answer
abbrev pub keeper_after : KeeperState → Change → Option ImportNote → Result (Unit {0}) KeepRefusal → KeeperState
keeper_after keeper change with_note (Ok done) = record (asked_once_more keeper) { kept = kept_after keeper.kept change with_note }
keeper_after keeper change with_note (Err Fault) = record (asked_once_more keeper) { faults = count_after_fault keeper.faults }
keeper_after keeper change with_note (Err Mem) = asked_once_more keeper

-- whether an answer is a fault
abbrev pub is_fault : {A : Type 0} → Result A KeepRefusal → Bool
is_fault (Ok done) = false
is_fault (Err Fault) = true
is_fault (Err Mem) = false
