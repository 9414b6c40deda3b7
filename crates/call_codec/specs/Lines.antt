-- What lines of JSON ask.
--   Item                     a user's call, or a refusal
--   asked_of json            what JSON asks
--   line_item line           what one line asks
--   whole_lines bytes        what stands before each LF
--   rest_of bytes            what stands behind the last LF
--   line_items bytes ended   what the lines ask that are whole
use Rattle.std.specs.Prelude.{ℕ, nat_lt, ◌==◌, Bool, ◌&&◌, ◌||◌, if◌then◌else◌, List, [], ◌∷◌, ◌++◌, length, Option, Some, None, option_and_then, Result, Ok, Err, codes}
use Rattle.std.specs.List.{list_any, list_all, flat_map}
use Rattle.std.specs.Str.{is_utf8}
use Rattle.serde_json.specs.Data.{Data, object, no_members}
use Rattle.serde_json.specs.Read.{read}
use Rattle.serde_json.specs.Find.{get, as_str, as_object}
use Rattle.graph_model.specs.declared.refusal.LongPart.TheVariants.{Line}
use Rattle.graph_model.specs.declared.refusal.Refusal.{Refusal}
use Rattle.graph_model.specs.declared.refusal.Refusal.TheVariants.{TooLong, NoSuchProcedure, BadJson, BadArgument}
use Rattle.json_forms.specs.Arguments.{right_at, required}
use Rattle.json_forms.specs.Fields.{has_only}
use Rattle.json_forms.specs.Forms.{read_tag}
use Rattle.desk_model.specs.declared.call.Call.{Call}
use Rattle.call_codec.specs.declared.procedure.Procedure.{Procedure}
use Rattle.call_codec.specs.Calls.{procedure_named, arguments_of, both, followed, call_of}

-- what a line asks: a call for a user, or nothing that can be done
pub data Item : Type 0 where
  Calls : List ℕ → Call → Item
  Refuses : Refusal → Item

-- a value that is an object
abbrev pub object_of : Data → Option Data
object_of value = option_and_then (λ fields. Some (object fields)) (as_object value)

-- the arguments that a line gives; missing ones are none
abbrev pub args_from : Option Data → Result Data Refusal
args_from None = Ok (object no_members)
args_from (Some args) = right_at (codes "args") (object_of args)

abbrev pub args_of : Data → Result Data Refusal
args_of line = args_from (get (codes "args") line)

-- the fields that a line may have
abbrev pub line_fields : List (List ℕ)
line_fields = codes "user" ∷ codes "call" ∷ codes "args" ∷ []

-- a call, where the line and the arguments have no unknown fields
abbrev pub unless_unknown : Procedure → Data → Data → Call → Result Call Refusal
unless_unknown procedure line args call =
    if has_only line_fields line && has_only (arguments_of procedure) args then Ok call else Err (BadArgument (codes "?") 0)

-- the call of a procedure: first the arguments in their order, then unknown fields
abbrev pub known_call : Procedure → Data → Data → Result Call Refusal
known_call procedure line args = followed (unless_unknown procedure line args) (call_of procedure args)

-- the call of a procedure, if there is one
abbrev pub procedure_call : Data → Option Procedure → Result Call Refusal
procedure_call line None = Err NoSuchProcedure
procedure_call line (Some procedure) = followed (known_call procedure line) (args_of line)

abbrev pub named_call : Data → List ℕ → Result Call Refusal
named_call line name = procedure_call line (procedure_named name)

-- the call that a line names
abbrev pub said_call : Data → Result Call Refusal
said_call line = followed (named_call line) (required (codes "call") as_str line)

-- what JSON asks: first its user, then its call
abbrev pub asked_of : Option Data → Result (List ℕ × Call) Refusal
asked_of None = Err BadJson
asked_of (Some line) = both (required (codes "user") read_tag line) (said_call line)

-- the JSON that a text of UTF-8 is
abbrev pub json_of : List ℕ → Option Data
json_of text = if is_utf8 text then read text else None

-- a call or a refusal as an item
abbrev pub item_of : Result (List ℕ × Call) Refusal → Item
item_of (Ok asked) = Calls asked.0 asked.1
item_of (Err why) = Refuses why

-- what one line asks
abbrev pub line_item : List ℕ → Item
line_item line = item_of (asked_of (json_of line))

-- whether a byte is a space, a tab or a CR
abbrev pub is_blank_byte : ℕ → Bool
is_blank_byte b = b == 32 || b == 9 || b == 13

-- whether a line is nothing but blanks
abbrev pub is_blank : List ℕ → Bool
is_blank line = list_all is_blank_byte line

-- the most bytes that a line has, without its LF
abbrev pub most_line_bytes : ℕ
most_line_bytes = 16777216

-- what a whole line asks: one that is too long is refused, and one of blanks asks nothing
abbrev pub asked_by_line : List ℕ → List Item
asked_by_line line =
    if nat_lt most_line_bytes (length line) then Refuses (TooLong Line most_line_bytes) ∷ []
    else (if is_blank line then [] else line_item line ∷ [])

-- whether a byte is an LF
abbrev pub is_lf : ℕ → Bool
is_lf b = b == 10

-- a byte before the first of some lines; where there is none, its line isn't whole
abbrev pub onto_first : ℕ → List (List ℕ) → List (List ℕ)
onto_first b [] = []
onto_first b (line ∷ lines) = (b ∷ line) ∷ lines

-- what stands before each LF
abbrev pub whole_lines : List ℕ → List (List ℕ)
whole_lines [] = []
whole_lines (b ∷ bytes) = if is_lf b then [] ∷ whole_lines bytes else onto_first b (whole_lines bytes)

-- what stands behind the last LF
abbrev pub rest_of : List ℕ → List ℕ
rest_of [] = []
rest_of (b ∷ bytes) = if list_any is_lf (b ∷ bytes) then rest_of bytes else b ∷ bytes

-- what the lines ask that are whole; the last one without an LF is where the input has ended
abbrev pub line_items : List ℕ → Bool → List Item
line_items bytes ended = flat_map asked_by_line (whole_lines bytes) ++ (if ended then asked_by_line (rest_of bytes) else [])
