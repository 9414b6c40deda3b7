use Rattle.std.proofs.Common.{◌≡◌, take}
use Rattle.user_lists.proofs.graphs.keys_of.Given as goal

-- the keys so far
abbrev pub invariant-loop-key : goal.invariant-loop-key
invariant-loop-key l = l.keys ≡ take l.key-index l.key-items
