-- What holds of arcs that are grouped.
use Rattle.std.specs.Prelude.{◌≡◌, ℕ, ◌<◌, ◌≤◌, List, [], ◌∷◌, length}
use Rattle.std.specs.List.{AllByRecursion}
use Rattle.projection_spec.specs.declared.arcs.RawArc.{RawArc}
use Rattle.projection_spec.specs.declared.entries.RelProp.{RelProp}
use Rattle.projection_spec.specs.KeptArcs.{ArcGroup}

-- an arc has a cell at a place
abbrev pub HasCell : ℕ → RawArc → Type 0
HasCell place arc = place < length arc.cells

-- an arc has a cell for each key
abbrev pub HasCells : List RelProp → RawArc → Type 0
HasCells props arc = length arc.cells ≡ length props

-- no arc has a lesser relationship id than another
abbrev pub RelInOrder : RawArc → RawArc → Type 0
RelInOrder a b = a.rel ≤ b.rel

-- no arc has a lesser relationship id than the first
abbrev pub LeastFirst : List RawArc → Type 0
LeastFirst [] = Unit {0}
LeastFirst (arc ∷ arcs) = AllByRecursion (RelInOrder arc) arcs

-- the group of these arcs, which have the ends of the first
abbrev pub group_from : List RawArc → ArcGroup
group_from [] = record { source = 0; target = 0; arcs = [] }
group_from (arc ∷ arcs) = record { source = arc.source; target = arc.target; arcs = arc ∷ arcs }
