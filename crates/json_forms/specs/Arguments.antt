-- What the arguments of a call say, and how a wrong one is refused.
--   right_at at value         a value that is there, or the refusal of its argument
--   required, optional        an argument that must be there, and one that may be missing
--   list_or_empty             an argument that is a list
use Rattle.std.specs.Prelude.{ℕ, List, [], Option, Some, None, option_and_then, Result, Ok, Err}
use Rattle.serde_json.specs.Data.{Data}
use Rattle.serde_json.specs.Find.{get}
use Rattle.graph_model.specs.declared.refusal.Refusal.{Refusal}
use Rattle.graph_model.specs.declared.refusal.Refusal.TheVariants.{BadArgument}
use Rattle.json_forms.specs.Fields.{given, field_or}
use Rattle.json_forms.specs.Forms.{read_list}

-- an argument of a right form, or the refusal of it
abbrev pub right_at : {A : Type 0} → List ℕ → Option A → Result A Refusal
right_at at None = Err (BadArgument at 0)
right_at at (Some value) = Ok value

-- an argument that must be there
abbrev pub required : {A : Type 0} → List ℕ → (Data → Option A) → Data → Result A Refusal
required at read args = right_at at (option_and_then read (get at args))

-- an argument that may be missing
abbrev pub optional : {A : Type 0} → List ℕ → (Data → Option A) → Data → Result (Option A) Refusal
optional at read args = right_at at (given read (get at args))

-- an argument that is a list, which is empty where it is missing
abbrev pub list_or_empty : {A : Type 0} → List ℕ → (Data → Option A) → Data → Result (List A) Refusal
list_or_empty at read args = right_at at (field_or (read_list read) [] (get at args))
