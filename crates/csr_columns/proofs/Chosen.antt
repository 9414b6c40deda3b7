-- What is chosen of lists, item after item.
use Rattle.std.proofs.Common.{◌≡◌, ℕ, ◌+◌, ◌<◌, Bool, true, false, not, ◌&&◌, ◌||◌, cond, List, [], ◌∷◌, ◌++◌, length, map, filter, take, drop, get_or, IfSome, refl, sym, ap, ◌∙◌, zero, suc, add-one, arith}
use Rattle.std.specs.List.{All, list_any, list_all, zip}
use Rattle.std.specs.Str.{bytes_eq}
use Rattle.std.proofs.Math.Seq.{drop-cons}
use Rattle.graph_model.specs.Projection.{is_among}
use Rattle.csr_columns.specs.Rows.{names_of}
use Rattle.csr_columns.specs.Parts.{kind_of}
use Rattle.csr_columns.specs.Plain.{labels_at, is_flagged}
use Rattle.csr_columns.specs.Keeping.{kept_of}
use Rattle.csr_columns.specs.Choosing.{first_of, is_kept, kept_flags}
use Rattle.graph_model.specs.declared.graph.Choice.TheVariants.{All as Each, Of}
use Rattle.std.proofs.lemmas.List.FromFn.{fill_by_all}
use Rattle.csr_columns.specs.declared.parts.TypeColumns.{TypeColumns}

-- the items from a place on, with the one at that place
pub drop-read : {X : Type 0} (xs : List X) (i : ℕ) (x : X) → i < length xs → x ≡ get_or xs i x → drop i xs ≡ x ∷ drop (i + 1) xs
drop-read {X} xs i x h is = drop-cons xs i x h ∙ ap (λ (y : X). y ∷ drop (suc i) xs) (sym is) ∙ ap (λ (n : ℕ). x ∷ drop n xs) (sym (add-one i))

-- a name found among those of types, and one that isn't the next
pub is_among-found : (types : List TypeColumns) (name : List ℕ) (i : ℕ) (type : TypeColumns) → i < length types → type ≡ get_or types i type → is_among (map kind_of (drop i types)) name ≡ is_among (map kind_of types) name → bytes_eq name type.kind ≡ true → is_among (map kind_of types) name ≡ true
is_among-found types name i type h is so_far same =
    sym so_far
    ∙ ap (λ (ts : List TypeColumns). is_among (map kind_of ts) name) (drop-read types i type h is)
    ∙ ap (λ (b : Bool). b || is_among (map kind_of (drop (i + 1) types)) name) same

pub is_among-next : (types : List TypeColumns) (name : List ℕ) (i : ℕ) (type : TypeColumns) → i < length types → type ≡ get_or types i type → is_among (map kind_of (drop i types)) name ≡ is_among (map kind_of types) name → bytes_eq name type.kind ≡ false → is_among (map kind_of (drop (i + 1) types)) name ≡ is_among (map kind_of types) name
is_among-next types name i type h is so_far other =
    ap (λ (b : Bool). b || is_among (map kind_of (drop (i + 1) types)) name) (sym other)
    ∙ ap (λ (ts : List TypeColumns). is_among (map kind_of ts) name) (sym (drop-read types i type h is))
    ∙ so_far

-- a test of all that are chosen
module _ {X : Type 0} (chooses has : X → Bool) where
  all-cond : (c : Bool) (x : X) (xs : List X) → list_all has (cond c (x ∷ xs) xs) ≡ cond c (has x && list_all has xs) (list_all has xs)
  all-cond true x xs = refl
  all-cond false x xs = refl

  lacking : (c p rest : Bool) → (c && not p) ≡ true → cond c (p && rest) rest ≡ false
  lacking true true rest h = absurd cc
  lacking true false rest h = refl
  lacking false p rest h = absurd cc

  fitting : (c p rest : Bool) → (c && not p) ≡ false → cond c (p && rest) rest ≡ rest
  fitting true true rest h = refl
  fitting true false rest h = absurd cc
  fitting false p rest h = refl

  pub all-lacking : (xs : List X) (i : ℕ) (x : X) → i < length xs → x ≡ get_or xs i x → list_all has (filter chooses (drop i xs)) ≡ list_all has (filter chooses xs) → (chooses x && not (has x)) ≡ true → list_all has (filter chooses xs) ≡ false
  all-lacking xs i x h is so_far lacks =
      let rest : List X = filter chooses (drop (i + 1) xs) in
      sym so_far
      ∙ ap (λ (ys : List X). list_all has (filter chooses ys)) (drop-read xs i x h is)
      ∙ all-cond (chooses x) x rest ∙ lacking (chooses x) (has x) (list_all has rest) lacks

  pub all-fitting : (xs : List X) (i : ℕ) (x : X) → i < length xs → x ≡ get_or xs i x → list_all has (filter chooses (drop i xs)) ≡ list_all has (filter chooses xs) → (chooses x && not (has x)) ≡ false → list_all has (filter chooses (drop (i + 1) xs)) ≡ list_all has (filter chooses xs)
  all-fitting xs i x h is so_far fits =
      let rest : List X = filter chooses (drop (i + 1) xs) in
      sym (fitting (chooses x) (has x) (list_all has rest) fits)
      ∙ sym (all-cond (chooses x) x rest)
      ∙ ap (λ (ys : List X). list_all has (filter chooses ys)) (sym (drop-read xs i x h is))
      ∙ so_far

-- the labels from a place on that a node has, tested
abbrev pub any_label : List (List ℕ) → List (List ℕ) → List (List Bool) → ℕ → ℕ → Bool
any_label names labels flags i v = list_any (is_among names) (labels_at (zip (drop i labels) (drop i flags)) v)

module _ (names labels : List (List ℕ)) (flags : List (List Bool)) (i v : ℕ) (label : List ℕ) (column : List Bool) (i_in : i < length labels) (long : length flags ≡ length labels) (label_is : label ≡ get_or labels i label) (column_is : column ≡ get_or flags i column) where
  any-cond : (c : Bool) (entry : List ℕ × List Bool) (entries : List (List ℕ × List Bool)) → list_any (is_among names) (names_of (cond c (entry ∷ entries) entries)) ≡ cond c (is_among names entry.0 || list_any (is_among names) (names_of entries)) (list_any (is_among names) (names_of entries))
  any-cond true entry entries = refl
  any-cond false entry entries = refl

  pub any_label-more : any_label names labels flags i v ≡ cond (get_or column v false) (is_among names label || any_label names labels flags (i + 1) v) (any_label names labels flags (i + 1) v)
  any_label-more =
      let rest : List (List ℕ × List Bool) = zip (drop (i + 1) labels) (drop (i + 1) flags) in
      ap (λ (ls : List (List ℕ)). list_any (is_among names) (labels_at (zip ls (drop i flags)) v)) (drop-read labels i label i_in label_is)
      ∙ ap (λ (fs : List (List Bool)). list_any (is_among names) (labels_at (zip (label ∷ drop (i + 1) labels) fs) v)) (drop-read flags i column (omega arith) column_is)
      ∙ any-cond (get_or column v false) (label, column) (filter (is_flagged v) rest)

  kept_more : (kept flag among rest : Bool) → (kept || cond flag (among || rest) rest) ≡ (cond among (kept || flag) kept || rest)
  kept_more true flag true rest = refl
  kept_more true flag false rest = refl
  kept_more false true true rest = refl
  kept_more false true false rest = refl
  kept_more false false true rest = refl
  kept_more false false false rest = refl

  -- a node that is kept, or has a label from a place on
  pub kept-among : (kept before : Bool) → is_among names label ≡ true → (before || any_label names labels flags i v) ≡ kept → ((before || get_or column v false) || any_label names labels flags (i + 1) v) ≡ kept
  kept-among kept before among so_far =
      ap (λ (b : Bool). cond b (before || get_or column v false) before || any_label names labels flags (i + 1) v) (sym among)
      ∙ sym (kept_more before (get_or column v false) (is_among names label) (any_label names labels flags (i + 1) v))
      ∙ ap (λ (b : Bool). before || b) (sym any_label-more) ∙ so_far

  pub kept-other : (kept before : Bool) → is_among names label ≡ false → (before || any_label names labels flags i v) ≡ kept → (before || any_label names labels flags (i + 1) v) ≡ kept
  kept-other kept before other so_far =
      ap (λ (b : Bool). cond b (before || get_or column v false) before || any_label names labels flags (i + 1) v) (sym other)
      ∙ sym (kept_more before (get_or column v false) (is_among names label) (any_label names labels flags (i + 1) v))
      ∙ ap (λ (b : Bool). before || b) (sym any_label-more) ∙ so_far

-- kept items from a place on
pub kept_of-more : (flags : List Bool) (ids : List ℕ) (v : ℕ) → v < length ids → length flags ≡ length ids → kept_of (drop v flags) (drop v ids) ≡ cond (get_or flags v false) (get_or ids v 0 ∷ kept_of (drop (v + 1) flags) (drop (v + 1) ids)) (kept_of (drop (v + 1) flags) (drop (v + 1) ids))
kept_of-more flags ids v h long =
    ap (λ (fs : List Bool). kept_of fs (drop v ids)) (drop-cons flags v false (omega arith))
    ∙ ap (λ (xs : List ℕ). kept_of (get_or flags v false ∷ drop (suc v) flags) xs) (drop-cons ids v 0 h)
    ∙ cases (get_or flags v false) (get_or ids v 0) (drop (suc v) flags) (drop (suc v) ids)
    ∙ ap (λ (n : ℕ). cond (get_or flags v false) (get_or ids v 0 ∷ kept_of (drop n flags) (drop n ids)) (kept_of (drop n flags) (drop n ids))) (sym (add-one v))
  where
    cases : (b : Bool) (x : ℕ) (fs : List Bool) (xs : List ℕ) → kept_of (b ∷ fs) (x ∷ xs) ≡ cond b (x ∷ kept_of fs xs) (kept_of fs xs)
    cases true x fs xs = refl
    cases false x fs xs = refl

-- an item read with another default
pub same_default : {X : Type 0} (xs : List X) (i : ℕ) (d e : X) → i < length xs → get_or xs i d ≡ get_or xs i e
same_default [] i d e h = absurd (omega arith)
same_default (x ∷ xs) zero d e h = refl
same_default (x ∷ xs) (suc i) d e h = same_default xs i d e (omega arith)

-- all nodes are kept, or those with one of some names
pub all-kept : (labels : List (List ℕ × List Bool)) (nodes : ℕ) (kept : List Bool) → length kept ≡ nodes → All (λ flag. flag ≡ true) kept → kept ≡ kept_flags Each labels nodes
all-kept labels nodes kept long same =
    fill_by_all (is_kept Each labels) kept nodes false long (λ k h. same k false (omega arith))

pub labelled-kept : (names : List (List ℕ)) (labels : List (List ℕ × List Bool)) (nodes : ℕ) (kept : List Bool) → length kept ≡ nodes → ((v : ℕ) → v < length kept → get_or kept v false ≡ list_any (is_among names) (labels_at labels v)) → kept ≡ kept_flags (Of names) labels nodes
labelled-kept names labels nodes kept long each =
    fill_by_all (is_kept (Of names) labels) kept nodes false long (λ k h. each k (omega arith))

-- what stands in front
pub take-front : {X : Type 0} (n : ℕ) (xs ys : List X) → length xs ≡ n → take n (xs ++ ys) ≡ xs
take-front zero [] ys long = refl
take-front zero (x ∷ xs) ys long = absurd (omega arith)
take-front (suc n) [] ys long = absurd (omega arith)
take-front {X} (suc n) (x ∷ xs) ys long = ap (λ (zs : List X). x ∷ zs) (take-front n xs ys (omega arith))

-- the one of types that are one
pub only-first : (types : List TypeColumns) → length types ≡ 1 → IfSome (first_of types) (λ type. types ≡ type ∷ [])
only-first [] one = absurd (omega arith)
only-first (type ∷ []) one = refl
only-first (type ∷ other ∷ types) one = absurd (omega arith)
