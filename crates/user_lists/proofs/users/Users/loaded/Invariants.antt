use Rattle.std.proofs.Common.{◌≡◌, ℕ, List, take}
use Rattle.desk_model.specs.State.{loaded_lists}
use Rattle.user_lists.specs.Users.{lists_of}
use Rattle.user_lists.proofs.users.Users.loaded.Given as goal

-- all users have the answers of the notes so far
abbrev pub invariant-loop-note : goal.invariant-loop-note
invariant-loop-note l = (user : List ℕ) → lists_of l.users user ≡ loaded_lists (take l.note-index l.notes) user
