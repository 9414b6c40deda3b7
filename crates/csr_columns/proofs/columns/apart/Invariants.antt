use Rattle.std.proofs.Common.{◌≡◌, map}
use Rattle.csr_columns.proofs.columns.apart.Given as goal

-- the keys and the columns of the pairs so far
abbrev pub invariant-loop-key : goal.invariant-loop-key
invariant-loop-key g l = (l.keys ≡ map (λ prop. prop.0) l.yielded) × (l.columns.items ≡ map (λ prop. prop.1) l.yielded)
