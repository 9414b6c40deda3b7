-- What single texts mean in a projection.
--   projected_entry, projected_key          the projected name of a text in a list
--   read_orientation, read_aggregation      words in any ASCII case
use Rattle.std.specs.Prelude.{ℕ, if◌then◌else◌, List, Option, Some, None, option_and_then, codes}
use Rattle.std.specs.Str.{str_eq_ignore_ascii_case}
use Rattle.serde_json.specs.Data.{Data}
use Rattle.serde_json.specs.Find.{as_str}
use Rattle.graph_model.specs.declared.graph.Orientation.{Orientation}
use Rattle.graph_model.specs.declared.graph.Orientation.TheVariants.{Natural, Reverse, Undirected}
use Rattle.projection_spec.specs.declared.entries.Rule.{Rule}
use Rattle.projection_spec.specs.declared.entries.Rule.TheVariants.{Keep, Single, Count, Min, Max, Sum}
use Rattle.json_forms.specs.Forms.{is_star}

-- the projected label or type of a text in a list
abbrev pub projected_entry : List ℕ → List ℕ
projected_entry text = if is_star text then codes "__ALL__" else text

-- the projected key of a text in a list
abbrev pub projected_key : List ℕ → List ℕ
projected_key text = text

-- an orientation by its word
abbrev pub orientation_of : List ℕ → Option Orientation
orientation_of text =
    if str_eq_ignore_ascii_case text (codes "NATURAL") then Some Natural
    else (if str_eq_ignore_ascii_case text (codes "REVERSE") then Some Reverse
    else (if str_eq_ignore_ascii_case text (codes "UNDIRECTED") then Some Undirected else None))

-- an aggregation by its word
abbrev pub aggregation_of : List ℕ → Option Rule
aggregation_of text =
    if str_eq_ignore_ascii_case text (codes "NONE") then Some Keep
    else (if str_eq_ignore_ascii_case text (codes "SINGLE") then Some Single
    else (if str_eq_ignore_ascii_case text (codes "COUNT") then Some Count
    else (if str_eq_ignore_ascii_case text (codes "MIN") then Some Min
    else (if str_eq_ignore_ascii_case text (codes "MAX") then Some Max
    else (if str_eq_ignore_ascii_case text (codes "SUM") then Some Sum else None)))))

-- a value as an orientation, as an aggregation
abbrev pub read_orientation : Data → Option Orientation
read_orientation value = option_and_then orientation_of (as_str value)

abbrev pub read_aggregation : Data → Option Rule
read_aggregation value = option_and_then aggregation_of (as_str value)
