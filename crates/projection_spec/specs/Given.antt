-- What a text, a list or a map gives, where JSON names entries or properties.
--   given_parts projected read value        the parts that are read of it, as given
--   parts_of projected read name value      the same, ascending by projected name
--   joined name own added           parts, and of others those with further names
--   fits_fields names value         whether no other fields than these are said of a part
--   main_field name value           what its main field says
use Rattle.std.specs.Prelude.{ℕ, nat_eq, nat_le, Bool, true, false, not, if◌then◌else◌, List, [], ◌∷◌, ◌++◌, length, filter, insert, Option, Some, None, option_and_then}
use Rattle.std.specs.List.{list_any}
use Rattle.std.specs.Ordering.{nat_cmp}
use Rattle.std.specs.Cmp.Lexicographic.{slice_cmp, pointwise}
use Rattle.std.specs.declared.cmp.Ordering.{Ordering}
use Rattle.std.specs.declared.cmp.Ordering.TheVariants.{Less, Equal, Greater}
use Rattle.serde_json.specs.Find.{get_member}
use Rattle.serde_json.specs.Data.{Data, null, boolean, number, string, array, object, Items, no_items, item, Members, no_members, member}
use Rattle.json_forms.specs.Fields.{has_only_fields}
use Rattle.json_forms.specs.Forms.{before_others}

-- the part that an item of a list gives: a text stands for itself under its projected name, and nothing else may stand there
abbrev pub item_part : {A : Type 0} → (List ℕ → List ℕ) → (List ℕ → Data → Option A) → Data → Option A
item_part projected read null = None
item_part projected read (boolean b) = None
item_part projected read (number n) = None
item_part projected read (string text) = read (projected text) (string text)
item_part projected read (array list) = None
item_part projected read (object fields) = None

-- the parts that a list gives
abbrev pub item_parts : {A : Type 0} → (List ℕ → List ℕ) → (List ℕ → Data → Option A) → Items → Option (List A)
item_parts projected read no_items = Some []
item_parts projected read (item value items) = before_others (item_part projected read value) (item_parts projected read items)

-- the parts that a map gives, one for each of its fields
abbrev pub member_parts : {A : Type 0} → (List ℕ → Data → Option A) → Members → Option (List A)
member_parts read no_members = Some []
member_parts read (member name value fields) = before_others (read name value) (member_parts read fields)

-- the parts that a text, a list or a map gives, as given; a text stands for a list of one
abbrev pub given_parts : {A : Type 0} → (List ℕ → List ℕ) → (List ℕ → Data → Option A) → Data → Option (List A)
given_parts projected read null = None
given_parts projected read (boolean b) = None
given_parts projected read (number n) = None
given_parts projected read (string text) = item_parts projected read (item (string text) no_items)
given_parts projected read (array items) = item_parts projected read items
given_parts projected read (object fields) = member_parts read fields

-- a list that is no longer than entries and keys may be
abbrev pub within_limit : {A : Type 0} → List A → Option (List A)
within_limit xs = if nat_le (length xs) 64 then Some xs else None

-- a part among others that ascend, where it compares like this with the first: before it, or behind it; none where their names are one
abbrev pub place_part : {A : Type 0} → Ordering → A → A → List A → Option (List A) → Option (List A)
place_part Less part first rest placed = Some (part ∷ first ∷ rest)
place_part Equal part first rest placed = None
place_part Greater part first rest placed = before_others (Some first) placed

-- a part put among others that ascend by name
abbrev pub put_part : {A : Type 0} → (A → List ℕ) → A → List A → Option (List A)
put_part name part [] = Some (part ∷ [])
put_part name part (first ∷ rest) =
    place_part (slice_cmp nat_cmp (name part) (name first)) part first rest (put_part name part rest)

-- a part put at a place of others, or nothing where there is no place
abbrev pub placed_at : {A : Type 0} → A → List A → Option ℕ → Option (List A)
placed_at part parts None = None
placed_at part parts (Some place) = Some (insert parts place part)

-- parts in ascending order of their names, where no two have one name
abbrev pub ascending_by : {A : Type 0} → (A → List ℕ) → List A → Option (List A)
ascending_by name [] = Some []
ascending_by name (part ∷ parts) = option_and_then (put_part name part) (ascending_by name parts)

-- the parts that a text, a list or a map gives, ascending by name
abbrev pub parts_of : {A : Type 0} → (List ℕ → List ℕ) → (List ℕ → Data → Option A) → (A → List ℕ) → Data → Option (List A)
parts_of projected read name value =
    option_and_then (ascending_by name) (option_and_then within_limit (given_parts projected read value))

-- whether a part has this name
abbrev pub is_named : {A : Type 0} → (A → List ℕ) → List ℕ → A → Bool
is_named name wanted part = pointwise nat_eq (name part) wanted

-- whether some part has this name
abbrev pub has_name : {A : Type 0} → (A → List ℕ) → List A → List ℕ → Bool
has_name name parts wanted = list_any (is_named name wanted) parts

-- whether the name of a part is a further one
abbrev pub is_further : {A : Type 0} → (A → List ℕ) → List A → A → Bool
is_further name own part = not (has_name name own (name part))

-- those parts whose names are further ones
abbrev pub further : {A : Type 0} → (A → List ℕ) → List A → List A → List A
further name own added = filter (is_further name own) added

-- parts, and those of others that have further names
abbrev pub joined : {A : Type 0} → (A → List ℕ) → List A → List A → Option (List A)
joined name own added = option_and_then (ascending_by name) (within_limit (own ++ further name own added))

-- whether what is said of a part is a text, or a map with no other fields than these
abbrev pub fits_fields : List (List ℕ) → Data → Bool
fits_fields names null = false
fits_fields names (boolean b) = false
fits_fields names (number n) = false
fits_fields names (string text) = true
fits_fields names (array list) = false
fits_fields names (object fields) = has_only_fields names fields

-- what the main field says; a text stands for a map with this field alone
abbrev pub main_field : List ℕ → Data → Option Data
main_field name null = None
main_field name (boolean b) = None
main_field name (number n) = None
main_field name (string text) = Some (string text)
main_field name (array list) = None
main_field name (object fields) = get_member name fields
