-- The lists of all users.
use Rattle.std.specs.Prelude.{◌≡◌, ◌≢◌, ℕ, true, List, IsSome, unwrap_or}
use Rattle.graph_model.specs.Projection.{under}
use Rattle.desk_model.specs.State.{UserLists, no_lists}
use Rattle.user_lists.specs.declared.event.ListEvent.{ListEvent}
use Rattle.user_lists.specs.Steps.{begins_job}

-- the lists of a user; a user who isn't there has empty ones
abbrev pub lists_of : List (List ℕ × UserLists) → List ℕ → UserLists
lists_of users user = unwrap_or (under user users) no_lists

-- all other users have the lists that they had
abbrev pub OthersStay : List ℕ → List (List ℕ × UserLists) → List (List ℕ × UserLists) → Type 0
OthersStay user before after = (other : List ℕ) → other ≢ user → lists_of after other ≡ lists_of before other

-- where an event begins a job, its user has lists
abbrev pub IsOpenFor : ListEvent → List ℕ → List (List ℕ × UserLists) → Type 0
IsOpenFor asked user users = begins_job asked ≡ true → IsSome (under user users)

-- all users have the answers of imports that they had
abbrev pub ImportsStay : List (List ℕ × UserLists) → List (List ℕ × UserLists) → Type 0
ImportsStay before after = (user : List ℕ) → (lists_of after user).imports ≡ (lists_of before user).imports
