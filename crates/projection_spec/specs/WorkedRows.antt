-- Entries over the small store, on which the definitions are evaluated.
use Rattle.std.specs.Prelude.{ℕ, ℤ, Bool, List, [], ◌∷◌, None, Some, Result, codes}
use Rattle.graph_model.specs.declared.graph.Orientation.{Orientation}
use Rattle.graph_model.specs.SmallStore.{small_store}
use Rattle.projection_spec.specs.declared.arcs.RawArc.{RawArc}
use Rattle.projection_spec.specs.declared.arcs.Grouped.{Grouped}
use Rattle.projection_spec.specs.declared.entries.NodeEntry.{NodeEntry}
use Rattle.projection_spec.specs.declared.entries.RelProp.{RelProp}
use Rattle.projection_spec.specs.declared.entries.Rule.{Rule}
use Rattle.projection_spec.specs.declared.entries.Rule.TheVariants.{Single, Count, Min, Max, Sum}
use Rattle.projection_spec.specs.Fields.{RelFields}
use Rattle.projection_spec.specs.RawArcs.{raw_arcs}
use Rattle.projection_spec.specs.KeptArcs.{SumOut, kept_arcs}

-- every node, under one projected label
abbrev pub every_node : List NodeEntry
every_node = record { label = codes "__ALL__"; store = None; props = [] } ∷ []

-- the key w, projected under a name by a rule
abbrev pub key_w : List ℕ → Rule → RelProp
key_w key rule = record { key = key; store = Some (codes "w"); default = None; rule = rule }

-- the relationships of type R with these keys
abbrev pub type_r : Orientation → Bool → List RelProp → RelFields
type_r orientation grouped props =
    record { kind = codes "R"; store = Some (codes "R"); orientation = orientation; grouped = grouped; props = props }

-- how many relationships there are
abbrev pub count_all : RelProp
count_all = record { key = codes "c"; store = None; default = None; rule = Count }

-- the key w by each rule that groups
abbrev pub each_rule : List RelProp
each_rule = key_w (codes "a") Min ∷ key_w (codes "b") Max ∷ key_w (codes "c") Sum ∷ key_w (codes "d") Count ∷ key_w (codes "e") Single ∷ []

-- the raw arcs of the small store for an entry
abbrev pub small_arcs : RelFields → List RawArc
small_arcs entry = raw_arcs small_store every_node entry

-- the arcs of the small store that an entry keeps
abbrev pub small_kept : RelFields → Result (List Grouped) SumOut
small_kept entry = kept_arcs entry (small_arcs entry)

-- an arc that is kept
abbrev pub kept : ℕ → ℕ → ℕ → List ℤ → Grouped
kept source target rel values = record { source = source; target = target; rel = rel; values = values }

-- an arc from 0 to 1 with one cell
abbrev pub one_arc : ℕ → ℤ → RawArc
one_arc rel value = record { source = 0; target = 1; rel = rel; cells = Some value ∷ [] }
