-- What is read from the columns of a projection.
use Rattle.std.proofs.lemmas.List.{length-map}
use Rattle.csr_columns.specs.declared.parts.Parts.{Parts}
use Rattle.std.proofs.Common.{◌≡◌, ℕ, ℤ, Bool, List, [], ◌∷◌, length, map, Some, refl, sym, ap, ◌∙◌, subst, ⊎_elim, true, false}
use Rattle.std.specs.List.{All, zip}
use Rattle.std.specs.Str.{bytes_eq}
use Rattle.std.proofs.lemmas.Bool.{cases_Bool, cond-true, cond-false}
use Rattle.std.proofs.lemmas.List.Elements.{All-head, All-tail}
use Rattle.graph_model.specs.Projection.{under}
use Rattle.csr_columns.specs.Rows.{names_of}
use Rattle.csr_columns.specs.Parts.{columns_of, parts_shown, FitTogether, AreColumns}

-- what holds of each column holds of the one under a name
pub All-under : {A : Type 0} (P : A → Type 0) (name : List ℕ) (entries : List (List ℕ × A)) (x : A) → All P (columns_of entries) → Some x ≡ under name entries → P x
All-under P name [] x all found = absurd cc
All-under {A} P name (entry ∷ entries) x all found =
    ⊎_elim
    (λ (e : bytes_eq entry.0 name ≡ true).
    let same : x ≡ entry.1 = let h = found ∙ cond-true (bytes_eq entry.0 name) (Some entry.1) (under name entries) e in cc in
    subst P (sym same) (All-head P entry.1 (columns_of entries) all))
    (λ (e : bytes_eq entry.0 name ≡ false).
    All-under P name entries x (All-tail P entry.1 (columns_of entries) all) (found ∙ cond-false (bytes_eq entry.0 name) (Some entry.1) (under name entries) e))
    (cases_Bool (bytes_eq entry.0 name))

-- names and columns side by side, taken apart
pub zip-apart : {A : Type 0} (entries : List (List ℕ × A)) → zip (map (λ (e : List ℕ × A). e.0) entries) (map (λ (e : List ℕ × A). e.1) entries) ≡ entries
zip-apart [] = refl
zip-apart {A} (entry ∷ entries) = ap (λ (es : List (List ℕ × A)). entry ∷ es) (zip-apart entries)

-- parts, taken apart and shown again
pub shown-apart : (parts : Parts) → parts_shown parts.ids (names_of parts.labels) (columns_of parts.labels) (names_of parts.columns) (columns_of parts.columns) parts.types ≡ parts
shown-apart parts =
    ap (λ (labels : List (List ℕ × List Bool)). record { ids = parts.ids; labels = labels; columns = zip (names_of parts.columns) (columns_of parts.columns); types = parts.types }) (zip-apart parts.labels)
    ∙ ap (λ (columns : List (List ℕ × List ℤ)). record { ids = parts.ids; labels = parts.labels; columns = columns; types = parts.types }) (zip-apart parts.columns)

-- names and columns are as many as the pairs that they come from
as_many : {A : Type 0} (entries : List (List ℕ × A)) → length (columns_of entries) ≡ length (names_of entries)
as_many entries = length-map entries (λ e. e.1) ∙ sym (length-map entries (λ e. e.0))

-- parts that fit together still do when they are taken apart
pub AreColumns-apart : (parts : Parts) → FitTogether parts → AreColumns parts.ids (names_of parts.labels) (columns_of parts.labels) (names_of parts.columns) (columns_of parts.columns) parts.types
AreColumns-apart parts fit = record {
  flags_named = as_many parts.labels;
  columns_named = as_many parts.columns;
  fit = subst FitTogether (sym (shown-apart parts)) fit;
}
