-- Which texts are names of things, and how names are ordered.
use Rattle.std.specs.Prelude.{◌≡◌, ℕ, ◌==◌, nat_lt, Bool, false, ◌&&◌, ◌||◌, List, [], ◌∷◌, length}
use Rattle.std.specs.Char.{is_ascii_alphabetic, is_ascii_alphanumeric}
use Rattle.std.specs.List.{list_all}
use Rattle.std.specs.Ordering.{nat_cmp}
use Rattle.std.specs.Cmp.Lexicographic.{slice_cmp}
use Rattle.std.specs.declared.cmp.Ordering.TheVariants.{Less}
use Rattle.graph_model.specs.declared.name.NameError.{NameError}
use Rattle.graph_model.specs.declared.name.NameError.TheVariants.{Malformed, Mem}

-- the first byte of a name: an ASCII letter or `_`
abbrev pub begins_name : ℕ → Bool
begins_name b = is_ascii_alphabetic b || b == 95

-- a later byte of a name: an ASCII letter, a digit or `_`
abbrev pub continues_name : ℕ → Bool
continues_name b = is_ascii_alphanumeric b || b == 95

-- a byte of a tag: an ASCII letter, a digit, `_`, `-` or `.`
abbrev pub is_tag_byte : ℕ → Bool
is_tag_byte b = continues_name b || b == 45 || b == 46

-- a name: 1 to 64 bytes, a letter or `_`, and then letters, digits or `_`
abbrev pub is_name : List ℕ → Bool
is_name [] = false
is_name (b ∷ bytes) = begins_name b && list_all continues_name bytes && nat_lt (length bytes) 64

-- a tag: 1 to 64 bytes, each a letter, a digit, `_`, `-` or `.`
abbrev pub is_tag : List ℕ → Bool
is_tag [] = false
is_tag (b ∷ bytes) = list_all is_tag_byte (b ∷ bytes) && nat_lt (length bytes) 64

-- a text comes before another, byte by byte
abbrev pub IsBefore : List ℕ → List ℕ → Type 0
IsBefore a b = slice_cmp nat_cmp a b ≡ Less

-- a text is malformed and this holds, or no memory was to be had
abbrev pub IfMalformed : NameError → Type 0 → Type 0
IfMalformed Malformed P = P
IfMalformed Mem P = Unit {0}
