-- An opener in memory: which call fails, which keepers it gives, and what is left.
use Rattle.std.specs.Prelude.{ℕ, ◌+◌, ◌-◌, ◌^◌, min, Bool, List, [], Option, Some, None, Result, Ok, Err}
use Rattle.graph_model.specs.declared.kept.Kept.{Kept}
use Rattle.graph_model.specs.Kept.{empty_kept}
use Rattle.gds_causes.specs.Faults.{count_after_fault, next_number, is_listed}
use Rattle.store_keeper.specs.declared.keeper.KeepRefusal.{KeepRefusal}
use Rattle.store_keeper.specs.declared.keeper.KeepRefusal.TheVariants.{Fault, Mem}
use Rattle.store_keeper.specs.MemKeeper.{KeeperState}

-- what is told of every path, the numbers of the openings that fail, those of the commits of the next keeper that fail, how
-- many openings were asked for, and how many openings and commits failed
pub record OpenerState : Type 0 where
  pub kept : Kept
  pub opens : List ℕ
  pub commits : List ℕ
  pub calls : ℕ
  pub faults : ℕ

-- whether the next opening fails: its number is listed
abbrev pub opening_fails : OpenerState → Bool
opening_fails opener = is_listed opener.opens (next_number opener.calls)

-- what is kept under a path, or without one
abbrev pub kept_under : Option (List ℕ) → Kept → Kept
kept_under None kept = empty_kept
kept_under (Some path) kept = kept

-- the keeper that is given for a path
abbrev pub keeper_given : OpenerState → Option (List ℕ) → KeeperState
keeper_given opener path = record { kept = kept_under path opener.kept; path = path; fails = opener.commits; commits = 0; faults = 0 }

-- the opener after an opening was asked for
abbrev pub opened_once_more : OpenerState → OpenerState
opened_once_more opener = record opener { calls = next_number opener.calls }

-- the opener after an opening with this answer: of later keepers no commit fails
abbrev pub opener_after : {A : Type 0} → OpenerState → Result A KeepRefusal → OpenerState
opener_after opener (Ok keeper) = record (opened_once_more opener) { commits = [] }
opener_after opener (Err Fault) = record (opened_once_more opener) { faults = count_after_fault opener.faults }
opener_after opener (Err Mem) = opened_once_more opener

-- the opener with the count of a keeper that went back
abbrev pub counted_back : OpenerState → KeeperState → OpenerState
counted_back opener keeper = record opener { faults = min (opener.faults + keeper.faults) (2 ^ 64 - 1) }

-- the opener after a keeper of this path went back: of every path it tells what a keeper of a path tells
abbrev pub opener_with : OpenerState → KeeperState → Option (List ℕ) → OpenerState
opener_with opener keeper None = counted_back opener keeper
opener_with opener keeper (Some path) = record (counted_back opener keeper) { kept = keeper.kept }
