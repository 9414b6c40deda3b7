-- The arcs into the nodes of a view, and the neighbours of its nodes.
--   arcs_into view v             the arcs into a node, in their order
--   turned_view view             a view with each arc turned
--   heavier_view threshold view  a view with the arcs of greater weight alone
--   is_neighbour arcs v u        whether u is another node than v, at the other end of an arc of v
--   neighbours_of view v         the neighbours of a node, ascending
--   neighbour_rows view          the neighbours of each node, by their places among the ids
use Rattle.std.specs.Prelude.{ℕ, ◌==◌, ℤ, int_lt, Bool, false, not, ◌&&◌, ◌||◌, List, map, filter, length, slice_index, Option, Some, None}
use Rattle.std.specs.List.{list_any, range_with_len}
use Rattle.graph_model.specs.View.{ViewArc, PlainView, joins, arcs_within}

-- whether an arc leads to a node
abbrev pub leads_to : ℕ → ViewArc → Bool
leads_to v arc = arc.target == v

-- the arcs into a node, in their order
abbrev pub arcs_into : PlainView → ℕ → List ViewArc
arcs_into view v = filter (leads_to v) view.arcs

-- an arc turned, with its weight
abbrev pub turned_arc : ViewArc → ViewArc
turned_arc arc = record { source = arc.target; target = arc.source; weight = arc.weight }

-- a view with each arc turned: by source, then by target, and then in the order of the arcs
abbrev pub turned_view : PlainView → PlainView
turned_view view = record view { arcs = arcs_within (map turned_arc view.arcs) view.ids }

-- whether there is a weight, and it is greater than a threshold
abbrev pub exceeds : ℤ → Option ℤ → Bool
exceeds threshold None = false
exceeds threshold (Some weight) = int_lt threshold weight

-- whether the weight of an arc is greater than a threshold
abbrev pub is_heavier : ℤ → ViewArc → Bool
is_heavier threshold arc = exceeds threshold arc.weight

-- a view with the arcs of greater weight alone
abbrev pub heavier_view : ℤ → PlainView → PlainView
heavier_view threshold view = record view { arcs = filter (is_heavier threshold) view.arcs }

-- whether an arc leads from one of two nodes to the other, in either direction
abbrev pub links : ℕ → ℕ → ViewArc → Bool
links v u arc = joins v u arc || joins u v arc

-- whether u is another node than v, at the other end of an arc of v
abbrev pub is_neighbour : List ViewArc → ℕ → ℕ → Bool
is_neighbour arcs v u = not (u == v) && list_any (links v u) arcs

-- the neighbours of a node, ascending: the other nodes at either end of its arcs, each once
abbrev pub neighbours_of : PlainView → ℕ → List ℕ
neighbours_of view v = filter (is_neighbour view.arcs v) view.ids

-- whether the node at place u is a neighbour of the node at place v
abbrev pub is_neighbour_at : PlainView → ℕ → ℕ → Bool
is_neighbour_at view v u = is_neighbour view.arcs (slice_index view.ids v) (slice_index view.ids u)

-- the neighbours of the node at a place, by their places among the ids
abbrev pub neighbour_places : PlainView → ℕ → List ℕ
neighbour_places view v = filter (is_neighbour_at view v) (range_with_len 0 (length view.ids))

-- the neighbours of each node, by their places among the ids
abbrev pub neighbour_rows : PlainView → List (List ℕ)
neighbour_rows view = map (neighbour_places view) (range_with_len 0 (length view.ids))
