-- Nodes that are kept, and the places that they get.
--   kept_of kept items       the items whose flags are true
--   renumbered n kept        for each flag its number among the true ones, from n on, where it is true
--   kept_places n kept       the places of the true flags, where the first stands at n
--   moved places arc         an arc between places as one between the places that its ends get, where both get one
--   taken_arcs places type   the arcs of a type whose ends both get places
--   taken_of places key type the same with their values under a key
use Rattle.std.specs.Prelude.{◌≡◌, ℕ, ℤ, ◌+◌, ◌<◌, Bool, true, false, List, [], ◌∷◌, slice_index_or, Option, None, Some, IfSome}
use Rattle.std.specs.List.{filter_map, zip}
use Rattle.graph_model.specs.Projection.{under}
use Rattle.csr_columns.specs.Rows.{HasTargetsBelow, IsBeside, arcs_of, listed}
use Rattle.csr_columns.specs.declared.parts.TypeColumns.{TypeColumns}

-- the items whose flags are true
abbrev pub kept_of : {A : Type 0} → List Bool → List A → List A
kept_of [] items = []
kept_of (flag ∷ flags) [] = []
kept_of (true ∷ flags) (item ∷ items) = item ∷ kept_of flags items
kept_of (false ∷ flags) (item ∷ items) = kept_of flags items

-- for each flag its number among the true ones, where it is true
abbrev pub renumbered : ℕ → List Bool → List (Option ℕ)
renumbered n [] = []
renumbered n (true ∷ flags) = Some n ∷ renumbered (n + 1) flags
renumbered n (false ∷ flags) = None ∷ renumbered n flags

-- the places of the true flags, where the first stands at n
abbrev pub kept_places : ℕ → List Bool → List ℕ
kept_places n [] = []
kept_places n (true ∷ flags) = n ∷ kept_places (n + 1) flags
kept_places n (false ∷ flags) = kept_places (n + 1) flags

-- the place that a node gets
abbrev pub new_place : List (Option ℕ) → ℕ → Option ℕ
new_place places v = slice_index_or places v None

-- an arc between two places, where both are there
abbrev pub both_ends : Option ℕ → Option ℕ → Option (ℕ × ℕ)
both_ends None target = None
both_ends (Some source) None = None
both_ends (Some source) (Some target) = Some (source, target)

-- an arc as one between the places that its ends get
abbrev pub moved : List (Option ℕ) → ℕ × ℕ → Option (ℕ × ℕ)
moved places arc = both_ends (new_place places arc.0) (new_place places arc.1)

-- the same of an arc with what stands beside it
abbrev pub beside_arc : {A : Type 0} → A → Option (ℕ × ℕ) → Option ((ℕ × ℕ) × A)
beside_arc value None = None
beside_arc value (Some arc) = Some (arc, value)

abbrev pub moved_with : {A : Type 0} → List (Option ℕ) → (ℕ × ℕ) × A → Option ((ℕ × ℕ) × A)
moved_with places entry = beside_arc entry.1 (moved places entry.0)

-- the arcs of a type whose ends both get places
abbrev pub taken_arcs : List (Option ℕ) → TypeColumns → List (ℕ × ℕ)
taken_arcs places type = filter_map (moved places) (arcs_of type.arcs.rows)

-- the arcs of rows, each beside its value in a column
abbrev pub arcs_beside : List (List ℕ) → List (List ℤ) → List ((ℕ × ℕ) × ℤ)
arcs_beside rows column = zip (arcs_of rows) (listed column)

-- the arcs of rows whose ends both get places, with their values in a column
abbrev pub taken_entries : List (Option ℕ) → List (List ℕ) → List (List ℤ) → List ((ℕ × ℕ) × ℤ)
taken_entries places rows column = filter_map (moved_with places) (arcs_beside rows column)

-- the column of rows under a key, and no values where there is none
abbrev pub rows_under : Option (List (List ℤ)) → List (List ℤ)
rows_under None = []
rows_under (Some column) = column

-- the arcs of a type whose ends both get places, with their values under a key
abbrev pub taken_of : List (Option ℕ) → List ℕ → TypeColumns → List ((ℕ × ℕ) × ℤ)
taken_of places key type = taken_entries places type.arcs.rows (rows_under (under key type.arcs.columns))

-- the targets of the arcs of a type lie below its number of nodes
abbrev pub HasArcsBelow : TypeColumns → Type 0
HasArcsBelow type = HasTargetsBelow type.arcs.rows

-- the values under a key stand beside the arcs of a type, where it has the key
abbrev pub HasValuesBeside : List ℕ → TypeColumns → Type 0
HasValuesBeside key type = IfSome (under key type.arcs.columns) (IsBeside type.arcs.rows)

-- places lie below a number of nodes
pub record HasPlacesBelow (nodes : ℕ) (places : List (Option ℕ)) : Type 0 where
  pub below : (v place : ℕ) → new_place places v ≡ Some place → place < nodes
