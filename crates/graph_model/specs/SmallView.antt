-- A small view on which definitions are evaluated: nodes 0 to 5, and six arcs with weights or without.
use Rattle.std.specs.Prelude.{ℕ, ℤ, pos, negsuc, Bool, true, false, List, [], ◌∷◌, map, Option, Some, None}
use Rattle.graph_model.specs.View.{ViewArc, PlainView}

-- an arc with a weight
abbrev pub heavy : ℕ → ℕ → ℤ → ViewArc
heavy source target weight = record { source = source; target = target; weight = Some weight }

-- an arc without its weight
abbrev pub bare : ViewArc → ViewArc
bare arc = record { source = arc.source; target = arc.target; weight = None }

abbrev pub small_arcs : List ViewArc
small_arcs =
    heavy 0 1 (pos 4) ∷ heavy 0 2 (pos 7) ∷ heavy 1 2 (pos 1) ∷ heavy 2 2 (pos 0) ∷ heavy 3 4 (pos 5) ∷ heavy 3 4 (pos 2) ∷ []

-- the nodes 0 to 5 with some arcs
abbrev pub small_view : Bool → List ViewArc → PlainView
small_view weighted arcs = record { ids = 0 ∷ 1 ∷ 2 ∷ 3 ∷ 4 ∷ 5 ∷ []; weighted = weighted; arcs = arcs; directed = None }

-- the small view with weights, and without
abbrev pub heavy_view : PlainView
heavy_view = small_view true small_arcs

abbrev pub bare_view : PlainView
bare_view = small_view false (map bare small_arcs)

-- three arcs: the first weighs as much as may be, the second too little, and the third too much
abbrev pub wrong_arcs : List ViewArc
wrong_arcs = heavy 0 1 (pos 4294967295) ∷ heavy 0 2 (negsuc 0) ∷ heavy 1 2 (pos 4294967296) ∷ []
