-- The text that parts make.
use Rattle.std.specs.Prelude.{ℕ, Bool, true, false, List, map, codes, decimal}
use Rattle.std.specs.Fmt.{signed_decimal}
use Rattle.std.specs.List.{concat}
use Rattle.text_sinks.specs.declared.part.Part.{Part}
use Rattle.text_sinks.specs.declared.part.Part.TheVariants.{Bytes, Number, Whole, Flag}

-- the words of a flag
abbrev pub flag_word : Bool → List ℕ
flag_word true = codes "true"
flag_word false = codes "false"

-- the text of a part
abbrev pub part_text : Part → List ℕ
part_text (Bytes bytes) = bytes.now
part_text (Number number) = decimal number
part_text (Whole number) = signed_decimal number
part_text (Flag flag) = flag_word flag

-- the text of parts, one after another
abbrev pub parts_text : List Part → List ℕ
parts_text parts = concat (map part_text parts)
