-- Degrees of the nodes of a view, and the weights that they take.
--   arcs_from view v       the arcs from a node, in their order
--   degree_of view v       how many arcs lead from a node, or the sum of their weights
--   degrees view           the degree of each node, in the order of the ids
--   weight_refusal view    the first arc whose weight is refused, or nothing
use Rattle.std.specs.Prelude.{ℕ, ◌==◌, ℤ, pos, ◌+ℤ◌, int_lt, Bool, ◌||◌, if◌then◌else◌, List, [], ◌∷◌, length, map, filter, Option, Some, None, unwrap_or}
use Rattle.graph_model.specs.declared.refusal.Refusal.{Refusal}
use Rattle.graph_model.specs.declared.refusal.Refusal.TheVariants.{WeightOutOfRange}
use Rattle.graph_model.specs.Lists.{first_there}
use Rattle.graph_model.specs.View.{ViewArc, PlainView}

-- whether an arc leads from a node
abbrev pub leads_from : ℕ → ViewArc → Bool
leads_from v arc = arc.source == v

-- the arcs from a node, in their order
abbrev pub arcs_from : PlainView → ℕ → List ViewArc
arcs_from view v = filter (leads_from v) view.arcs

-- the sum of whole numbers
abbrev pub sum_of : List ℤ → ℤ
sum_of [] = pos 0
sum_of (x ∷ xs) = x +ℤ sum_of xs

-- the weight of an arc; each arc of a view with weights has one
abbrev pub weight_in : ViewArc → ℤ
weight_in arc = unwrap_or arc.weight (pos 0)

-- how many arcs lead from a node, or the sum of their weights
abbrev pub degree_of : PlainView → ℕ → ℤ
degree_of view v = if view.weighted then sum_of (map weight_in (arcs_from view v)) else pos (length (arcs_from view v))

-- the degree of each node, in the order of the ids
abbrev pub degrees : PlainView → List ℤ
degrees view = map (degree_of view) view.ids

-- the greatest weight that is taken
abbrev pub most_weight : ℕ
most_weight = 4294967295

-- whether a weight is less than 0 or greater than that
abbrev pub is_out_of_range : ℤ → Bool
is_out_of_range weight = int_lt weight (pos 0) || int_lt (pos most_weight) weight

-- why a weight is refused, or nothing
abbrev pub refused_weight : ℕ → ℕ → Option ℤ → Option Refusal
refused_weight source target None = None
refused_weight source target (Some weight) =
    if is_out_of_range weight then Some (WeightOutOfRange source target weight) else None

-- the first of some arcs whose weight is refused
abbrev pub first_refused : List ViewArc → Option Refusal
first_refused [] = None
first_refused (arc ∷ arcs) = first_there (refused_weight arc.source arc.target arc.weight) (first_refused arcs)

-- the first arc whose weight is refused, or nothing
abbrev pub weight_refusal : PlainView → Option Refusal
weight_refusal view = first_refused view.arcs
