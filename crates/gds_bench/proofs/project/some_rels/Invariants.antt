use Rattle.std.specs.List.{AllByRecursion}
use Rattle.graph_model.specs.Change.{IsDistinctRel}
use Rattle.gds_bench.proofs.project.some_rels.Given as goal

-- the keys of each relationship so far are distinct
abbrev pub invariant-loop-rel : goal.invariant-loop-rel
invariant-loop-rel l = AllByRecursion (IsDistinctRel 0) l.rels.items
