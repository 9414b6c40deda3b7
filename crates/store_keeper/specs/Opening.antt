-- What an opener tells, and what the keepers tell that it gives and takes back.
use Rattle.std.specs.Prelude.{◌≡◌, ℕ, List, Option, Some, None}
use Rattle.graph_model.specs.declared.kept.Kept.{Kept}
use Rattle.graph_model.specs.Kept.{empty_kept}

-- a keeper that was obtained tells this: without a path nothing is kept yet, and for a path it is what the opener tells of it,
-- where it tells something
abbrev pub TellsOpened : (List ℕ → Option Kept) → Option (List ℕ) → Option Kept → Type 0
TellsOpened told None kept = kept ≡ Some empty_kept
TellsOpened told (Some path) kept = (there : Kept) → told path ≡ Some there → kept ≡ Some there

-- an opener tells this of paths after a keeper went back: of the keeper's path what the keeper tells, where it tells
-- something, and all as before where the keeper has no path
abbrev pub TellsTakenBack : Option (List ℕ) → Option Kept → (List ℕ → Option Kept) → (List ℕ → Option Kept) → Type 0
TellsTakenBack None kept before after = (path : List ℕ) → after path ≡ before path
TellsTakenBack (Some path) None before after = Unit {0}
TellsTakenBack (Some path) (Some kept) before after = after path ≡ Some kept
