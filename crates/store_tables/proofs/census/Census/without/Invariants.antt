use Rattle.std.proofs.Common.{◌≡◌, ℕ, ◌-◌, List, take, sum_by}
use Rattle.store_tables.specs.NameRows.{count_under}
use Rattle.store_tables.specs.Counted.{own_name, prop_key, times}
use Rattle.store_tables.proofs.census.Census.without.Given as goal

abbrev pub invariant-loop-element : goal.invariant-loop-element
invariant-loop-element g l =
    ((name : List ℕ) → count_under l.census.classes name ≡ count_under l.fn.self.classes name - sum_by (λ element. times own_name (g.E.Element.classes_of element) name) (take l.element-index l.gone))
    × ((name : List ℕ) → count_under l.census.keys name ≡ count_under l.fn.self.keys name - sum_by (λ element. times prop_key (g.E.Element.props_of element) name) (take l.element-index l.gone))
