-- Texts of items that are put one after another.
use Rattle.std.proofs.Common.{◌≡◌, ℕ, ◌+◌, ◌<◌, List, ◌∷◌, ◌++◌, length, drop, get_or, refl, sym, ap, ◌∙◌, append_assoc, drop-cons, add-one, codes}
use Rattle.call_codec.specs.Answers.{items_behind}

-- one more item was put with what stands before it, and those behind it are left
pub item_more : {A : Type 0} (text : A → List ℕ) (items : List A) (i : ℕ) (item : A) (written before whole : List ℕ) → i < length items
    → item ≡ get_or items i item → written ++ items_behind text before (drop i items) ≡ whole
    → (written ++ (before ++ text item)) ++ items_behind text (codes ",") (drop (i + 1) items) ≡ whole
item_more text items i item written before whole inside at is =
    let first : drop i items ≡ get_or items i item ∷ drop (i + 1) items = rw (add-one, drop-cons items i item) refl in
    let next : drop i items ≡ item ∷ drop (i + 1) items = first ∙ ap (λ x. x ∷ drop (i + 1) items) (sym at) in
    append_assoc written (before ++ text item) (items_behind text (codes ",") (drop (i + 1) items))
    ∙ ap (λ xs. written ++ items_behind text before xs) (sym next) ∙ is

-- the same in another grouping
pub item_put : {A : Type 0} (text : A → List ℕ) (items : List A) (i : ℕ) (item : A) (written before whole : List ℕ) → i < length items
    → item ≡ get_or items i item → written ++ items_behind text before (drop i items) ≡ whole
    → ((written ++ before) ++ text item) ++ items_behind text (codes ",") (drop (i + 1) items) ≡ whole
item_put text items i item written before whole inside at is =
    ap (λ xs. xs ++ items_behind text (codes ",") (drop (i + 1) items)) (append_assoc written before (text item))
    ∙ item_more text items i item written before whole inside at is
