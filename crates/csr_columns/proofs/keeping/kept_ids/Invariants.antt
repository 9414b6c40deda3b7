use Rattle.std.proofs.Common.{◌≡◌, ◌++◌, drop}
use Rattle.csr_columns.specs.Keeping.{kept_of}
use Rattle.csr_columns.proofs.keeping.kept_ids.Given as goal

-- the ids so far, and those that are kept of the rest
abbrev pub invariant-loop-v : goal.invariant-loop-v
invariant-loop-v l = l.list.items ++ kept_of (drop l.v l.kept) (drop l.v l.ids) ≡ kept_of l.kept l.ids
