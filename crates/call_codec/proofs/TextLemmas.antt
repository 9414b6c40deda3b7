-- JSON is read of texts of UTF-8 alone.
use Rattle.std.proofs.Common.{◌≡◌, ℕ, Bool, true, false, cond, List, Option, None, refl, ap}
use Rattle.std.specs.Str.{IsUtf8, is_utf8}
use Rattle.std.proofs.lemmas.Str.{IsUtf8-from_is_utf8, is_utf8-from_IsUtf8}
use Rattle.serde_json.specs.Data.{Data}
use Rattle.serde_json.specs.Read.{read}
use Rattle.call_codec.specs.Lines.{json_of}

none_by : (is : Bool) (json : Option Data) → ¬ (is ≡ true) → cond is json None ≡ None
none_by true json isnt = absurd (isnt refl)
none_by false json isnt = refl

pub json_of-none : (text : List ℕ) → ¬ (IsUtf8 text) → json_of text ≡ None
json_of-none text isnt = none_by (is_utf8 text) (read text) (λ holds. isnt (IsUtf8-from_is_utf8 text holds))

pub json_of-read : (text : List ℕ) → IsUtf8 text → json_of text ≡ read text
json_of-read text holds = ap (λ is. cond is (read text) None) (is_utf8-from_IsUtf8 text holds)
