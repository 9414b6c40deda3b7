-- Parts of a text that are put one after another.
use Rattle.std.proofs.Common.{◌≡◌, ℕ, ◌+◌, ◌<◌, List, ◌∷◌, ◌++◌, length, map, drop, get_or, refl, sym, ap, ◌∙◌, append_assoc, drop-cons, add-one}
use Rattle.std.specs.List.{concat}
use Rattle.text_sinks.specs.Told.{Told, Puts, Stops}
use Rattle.text_sinks.proofs.ToldLemmas.{stops_then, stops_more}

-- one more part was put, and those behind it are left
pub one_more : {A : Type 0} (text : A → List ℕ) (parts : List A) (i : ℕ) (d : A) (written whole : List ℕ) → i < length parts
    → written ++ concat (map text (drop i parts)) ≡ whole → (written ++ text (get_or parts i d)) ++ concat (map text (drop (i + 1) parts)) ≡ whole
one_more text parts i d written whole inside is =
    let next : drop i parts ≡ get_or parts i d ∷ drop (i + 1) parts = rw (add-one, drop-cons parts i d) refl in
    append_assoc written (text (get_or parts i d)) (concat (map text (drop (i + 1) parts)))
    ∙ ap (λ xs. written ++ concat (map text xs)) (sym next) ∙ is

-- it stopped in a part, and so in the whole
pub stops_within : (a b c : Told) (written part rest whole : List ℕ) → Puts a b written → Stops b c part → (written ++ part) ++ rest ≡ whole → Stops a c whole
stops_within a b c written part rest whole one two is = rw (← is) (stops_more rest (stops_then one two))
