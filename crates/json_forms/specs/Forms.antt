-- What single values of JSON mean, and lists of them.
--   read_name, read_tag     a text as a name, as a tag
--   read_id, read_whole     a number as an id, as a whole number of i64
--   read_pair               a list of an id and a value
--   read_chosen             a text as a name, or none for `*`, which means all
--   read_items, read_list   items that all have a form, and a list of them
--   read_choice             `*`, a name, or a list of these that isn't empty
use Rattle.std.specs.Prelude.{ℕ, ℤ, nat_eq, nat_lt, ◌^◌, Bool, if◌then◌else◌, List, [], ◌∷◌, Option, Some, None, option_map, option_and_then, codes}
use Rattle.std.specs.Cmp.Lexicographic.{pointwise}
use Rattle.serde_json.specs.Data.{Data, null, boolean, number, string, array, object, Items, no_items, item}
use Rattle.serde_json.specs.Find.{as_str, as_number, as_u64, as_i64, as_array}
use Rattle.graph_model.specs.Names.{is_name, is_tag}
use Rattle.graph_model.specs.declared.graph.Choice.{Choice}
use Rattle.graph_model.specs.declared.graph.Choice.TheVariants.{All, Of}

-- a text that is a name
abbrev pub name_of : List ℕ → Option (List ℕ)
name_of text = if is_name text then Some text else None

abbrev pub read_name : Data → Option (List ℕ)
read_name value = option_and_then name_of (as_str value)

-- a text that is a tag
abbrev pub tag_of : List ℕ → Option (List ℕ)
tag_of text = if is_tag text then Some text else None

abbrev pub read_tag : Data → Option (List ℕ)
read_tag value = option_and_then tag_of (as_str value)

-- a number that is an id
abbrev pub id_of : ℕ → Option ℕ
id_of n = if nat_lt n (2 ^ 32) then Some n else None

abbrev pub read_id : Data → Option ℕ
read_id value = option_and_then id_of (option_and_then as_u64 (as_number value))

-- a whole number of i64
abbrev pub read_whole : Data → Option ℤ
read_whole value = option_and_then as_i64 (as_number value)

-- two values that are there
abbrev pub both_there : {A B : Type 0} → Option A → Option B → Option (A × B)
both_there (Some a) (Some b) = Some (a, b)
both_there (Some a) None = None
both_there None b = None

-- an id and a value, and nothing else
abbrev pub pair_of : Items → Option (ℕ × ℤ)
pair_of no_items = None
pair_of (item id no_items) = None
pair_of (item id (item value no_items)) = both_there (read_id id) (read_whole value)
pair_of (item id (item value (item other items))) = None

abbrev pub read_pair : Data → Option (ℕ × ℤ)
read_pair value = option_and_then pair_of (as_array value)

-- an item before others, where all are there
abbrev pub before_others : {A : Type 0} → Option A → Option (List A) → Option (List A)
before_others (Some x) (Some xs) = Some (x ∷ xs)
before_others (Some x) None = None
before_others None others = None

-- items that all have a form
abbrev pub read_items : {A : Type 0} → (Data → Option A) → Items → Option (List A)
read_items read no_items = Some []
read_items read (item value items) = before_others (read value) (read_items read items)

abbrev pub read_list : {A : Type 0} → (Data → Option A) → Data → Option (List A)
read_list read value = option_and_then (read_items read) (as_array value)

-- whether a text is `*`
abbrev pub is_star : List ℕ → Bool
is_star text = pointwise nat_eq text (codes "*")

-- what an item of a choice means: none for `*`, which means all, or a name
abbrev pub chosen_of : List ℕ → Option (Option (List ℕ))
chosen_of text = if is_star text then Some None else option_map Some (name_of text)

abbrev pub read_chosen : Data → Option (Option (List ℕ))
read_chosen value = option_and_then chosen_of (as_str value)

-- the items of a choice; a text stands for a list of one
abbrev pub chosen_items : Data → Option (List (Option (List ℕ)))
chosen_items null = None
chosen_items (boolean b) = None
chosen_items (number n) = None
chosen_items (string text) = read_items read_chosen (item (string text) no_items)
chosen_items (array items) = read_items read_chosen items
chosen_items (object fields) = None

-- a choice with one more item before the others: `*` makes it all
abbrev pub with_chosen : Option (List ℕ) → Choice → Choice
with_chosen None choice = All
with_chosen (Some name) All = All
with_chosen (Some name) (Of names) = Of (name ∷ names)

-- what items choose
abbrev pub choice_of : List (Option (List ℕ)) → Choice
choice_of [] = Of []
choice_of (first ∷ rest) = with_chosen first (choice_of rest)

-- items, where there is one
abbrev pub some_item : {A : Type 0} → List A → Option (List A)
some_item [] = None
some_item (first ∷ rest) = Some (first ∷ rest)

abbrev pub read_choice : Data → Option Choice
read_choice value = option_map choice_of (option_and_then some_item (chosen_items value))
