-- What the fields of an object say.
--   given read said               what a field says, or none where it isn't there
--   field_or read default said    the same, or the default where it isn't there
--   has_only names value          whether a value is an object with no other fields than these
use Rattle.std.specs.Prelude.{ℕ, Bool, true, false, ◌&&◌, List, Option, Some, None, option_map}
use Rattle.serde_json.specs.Data.{Data, null, boolean, number, string, array, object, Members, no_members, member}
use Rattle.graph_model.specs.Projection.{is_among}

-- what a field says, or none where it isn't there
abbrev pub given : {A : Type 0} → (Data → Option A) → Option Data → Option (Option A)
given read None = Some None
given read (Some value) = option_map Some (read value)

-- what a field says, or the default where it isn't there
abbrev pub field_or : {A : Type 0} → (Data → Option A) → A → Option Data → Option A
field_or read default None = Some default
field_or read default (Some value) = read value

-- whether fields have no other names than these
abbrev pub has_only_fields : List (List ℕ) → Members → Bool
has_only_fields names no_members = true
has_only_fields names (member name value fields) = is_among names name && has_only_fields names fields

-- whether a value is an object with no other fields than these
abbrev pub has_only : List (List ℕ) → Data → Bool
has_only names null = false
has_only names (boolean b) = false
has_only names (number n) = false
has_only names (string text) = false
has_only names (array items) = false
has_only names (object fields) = has_only_fields names fields
