use Rattle.std.proofs.Common.{◌≡◌, map, take}
use Rattle.user_lists.proofs.Told.{told_line}
use Rattle.user_lists.proofs.graphs.lines_of.Given as goal

-- the lines of the entries so far
abbrev pub invariant-loop-name : goal.invariant-loop-name
invariant-loop-name l = l.lines ≡ map told_line (take l.name-index l.entries)
