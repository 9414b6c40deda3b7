-- The arcs that an entry keeps: its raw arcs, or one for those between the same two nodes.
--   groups_of grouped arcs     the groups of raw arcs, in the order of their ends
--   kept_arcs entry arcs       the arcs that are kept, or the first sum that leaves i64
use Rattle.std.specs.Prelude.{ℕ, ◌+◌, ◌-◌, ◌^◌, ◌==◌, nat_lt, ℤ, pos, negsuc, ◌+ℤ◌, Bool, true, false, not, ◌&&◌, if◌then◌else◌, List, [], ◌∷◌, length, map, filter, count_by, Option, None, Some, is_some, unwrap_or, Result, Ok, Err, slice_index_or}
use Rattle.std.specs.Option.{option_map, option_or, option_and_then}
use Rattle.std.specs.Int.{int_min, int_max}
use Rattle.std.specs.List.{filter_map, reduce}
use Rattle.projection_spec.specs.declared.arcs.RawArc.{RawArc}
use Rattle.projection_spec.specs.declared.arcs.Grouped.{Grouped}
use Rattle.projection_spec.specs.declared.entries.Rule.{Rule}
use Rattle.projection_spec.specs.declared.entries.Rule.TheVariants.{Keep, Single, Count, Min, Max, Sum}
use Rattle.projection_spec.specs.declared.entries.RelProp.{RelProp}
use Rattle.projection_spec.specs.Fields.{RelFields}

-- arcs between the same two nodes
pub record ArcGroup : Type 0 where
  pub source : ℕ
  pub target : ℕ
  pub arcs : List RawArc

-- whether an arc leads from one node to another
abbrev pub leads : ℕ → ℕ → RawArc → Bool
leads source target arc = (arc.source == source) && (arc.target == target)

-- whether a group has other ends than an arc
abbrev pub has_other_ends : RawArc → ArcGroup → Bool
has_other_ends arc group = not (leads group.source group.target arc)

-- the groups of these ends, each with all the arcs that have them
abbrev pub with_arcs : List RawArc → ArcGroup → ArcGroup
with_arcs arcs group = record group { arcs = filter (leads group.source group.target) arcs }

-- a group for each two ends that some arc has, in the order of the arcs, without its arcs
abbrev pub ends_of : List RawArc → List ArcGroup
ends_of [] = []
ends_of (arc ∷ arcs) = record { source = arc.source; target = arc.target; arcs = [] } ∷ filter (has_other_ends arc) (ends_of arcs)

-- a group of one arc
abbrev pub alone : RawArc → ArcGroup
alone arc = record { source = arc.source; target = arc.target; arcs = arc ∷ [] }

-- the groups of raw arcs: all those with the same ends, or each for itself
abbrev pub groups_of : Bool → List RawArc → List ArcGroup
groups_of true arcs = map (with_arcs arcs) (ends_of arcs)
groups_of false arcs = map alone arcs

-- an arc or another, whichever has the lesser relationship id
abbrev pub lesser_arc : RawArc → Option RawArc → RawArc
lesser_arc arc None = arc
lesser_arc arc (Some other) = if nat_lt other.rel arc.rel then other else arc

-- the arc with the least relationship id
abbrev pub least_arc : List RawArc → Option RawArc
least_arc [] = None
least_arc (arc ∷ arcs) = Some (lesser_arc arc (least_arc arcs))

-- the value that stands for a missing one
abbrev pub missing : ℤ
missing = negsuc (2 ^ 63 - 1)

-- the cell at a place
abbrev pub cell_at : ℕ → RawArc → Option ℤ
cell_at place arc = slice_index_or arc.cells place None

-- the value of an arc: the stored one, else the default
abbrev pub known_value : ℕ → Option ℤ → RawArc → Option ℤ
known_value place default arc = option_or (cell_at place arc) default

-- the values that arcs have
abbrev pub known_values : ℕ → Option ℤ → List RawArc → List ℤ
known_values place default arcs = filter_map (known_value place default) arcs

-- the value of the arc with the least relationship id
abbrev pub single_value : ℕ → Option ℤ → List RawArc → ℤ
single_value place default arcs = unwrap_or (option_and_then (known_value place default) (least_arc arcs)) missing

-- whether an arc's relationship stores a value
abbrev pub stores : ℕ → RawArc → Bool
stores place arc = is_some (cell_at place arc)

-- how many relationships there are, or how many store the key
abbrev pub arc_count : ℕ → Option (List ℕ) → List RawArc → ℕ
arc_count place None arcs = length arcs
arc_count place (Some key) arcs = count_by (stores place) arcs

-- whether a number is in i64
abbrev pub fits_i64 : ℤ → Bool
fits_i64 (pos n) = nat_lt n (2 ^ 63)
fits_i64 (negsuc n) = nat_lt n (2 ^ 63)

-- a number that is in i64
abbrev pub in_i64 : ℤ → Option ℤ
in_i64 z = if fits_i64 z then Some z else None

-- the value of a key over arcs, by a rule, or none where a sum leaves i64; a place is where the arcs have the key's cell
abbrev pub rule_value : Rule → ℕ → RelProp → List RawArc → Option ℤ
rule_value Keep place prop arcs = Some (single_value place prop.default arcs)
rule_value Single place prop arcs = Some (single_value place prop.default arcs)
rule_value Count place prop arcs = Some (pos (arc_count place prop.store arcs))
rule_value Min place prop arcs = Some (unwrap_or (reduce int_min (known_values place prop.default arcs)) missing)
rule_value Max place prop arcs = Some (unwrap_or (reduce int_max (known_values place prop.default arcs)) missing)
rule_value Sum place prop arcs = in_i64 (unwrap_or (reduce ◌+ℤ◌ (known_values place prop.default arcs)) missing)

-- a value before others, or the key whose sum leaves i64
abbrev pub with_value : List ℕ → Option ℤ → Result (List ℤ) (List ℕ) → Result (List ℤ) (List ℕ)
with_value key None others = Err key
with_value key (Some value) (Ok values) = Ok (value ∷ values)
with_value key (Some value) (Err first) = Err first

-- the values of keys over arcs, or the first key whose sum leaves i64; the first key has its cells at this place
abbrev pub group_values : ℕ → List RelProp → List RawArc → Result (List ℤ) (List ℕ)
group_values place [] arcs = Ok []
group_values place (prop ∷ props) arcs =
    with_value prop.key (rule_value prop.rule place prop arcs) (group_values (place + 1) props arcs)

-- the ends of a group and the key whose sum over it leaves i64
pub record SumOut : Type 0 where
  pub source : ℕ
  pub target : ℕ
  pub key : List ℕ

-- the least relationship id of arcs
abbrev pub least_rel : List RawArc → ℕ
least_rel arcs = unwrap_or (option_map (λ arc. arc.rel) (least_arc arcs)) 0

-- the arc that a group becomes, where it has these values
abbrev pub kept_arc : ArcGroup → Result (List ℤ) (List ℕ) → Result Grouped SumOut
kept_arc group (Ok values) = Ok (record { source = group.source; target = group.target; rel = least_rel group.arcs; values = values })
kept_arc group (Err key) = Err (record { source = group.source; target = group.target; key = key })

-- an arc before others, or the first sum that leaves i64
abbrev pub with_kept : Result Grouped SumOut → Result (List Grouped) SumOut → Result (List Grouped) SumOut
with_kept (Err out) others = Err out
with_kept (Ok arc) (Ok arcs) = Ok (arc ∷ arcs)
with_kept (Ok arc) (Err out) = Err out

-- the arcs that groups become
abbrev pub kept_groups : List RelProp → List ArcGroup → Result (List Grouped) SumOut
kept_groups props [] = Ok []
kept_groups props (group ∷ groups) =
    with_kept (kept_arc group (group_values 0 props group.arcs)) (kept_groups props groups)

-- the arcs that an entry keeps of its raw arcs, or the first group and its first key whose sum leaves i64
abbrev pub kept_arcs : RelFields → List RawArc → Result (List Grouped) SumOut
kept_arcs entry arcs = kept_groups entry.props (groups_of entry.grouped arcs)
