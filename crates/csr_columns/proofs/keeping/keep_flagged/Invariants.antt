use Rattle.std.proofs.Common.{◌≡◌, ℕ, ◌<◌, ◌≤◌, ◌||◌, false, get_or}
use Rattle.csr_columns.proofs.keeping.keep_flagged.Given as goal

-- the nodes so far are done, and the others are as they were
abbrev pub invariant-loop-v : goal.invariant-loop-v
invariant-loop-v l = record {
  done : (v : ℕ) → v < l.v → get_or l.kept v false ≡ (get_or l.initial.kept v false || get_or l.flags v false);
  others : (v : ℕ) → l.v ≤ v → get_or l.kept v false ≡ get_or l.initial.kept v false;
}
