-- What the columns of rows show.
use Rattle.std.proofs.Common.{◌≡◌, ℕ, ℤ, ◌+◌, ◌-◌, ◌<◌, List, [], ◌∷◌, length, map, get_or, drop, Option, Some, None, MatchOption, IfSome, refl, sym, ap, ◌∙◌, subst, zero, suc, arith}
use Rattle.std.specs.List.{All, sum_by, zip}
use Rattle.std.specs.Str.{bytes_eq}
use Rattle.std.specs.Cmp.Lexicographic.{bytes_decides}
use Rattle.std.proofs.lemmas.List.{length-map, length-take, length-drop, get_or-map}
use Rattle.std.proofs.lemmas.List.Concat.{length-flat_map}
use Rattle.std.proofs.lemmas.Slice.Zip.{length-zip, get_or-zip, firsts-zip}
use Rattle.std.proofs.lemmas.Bool.{cond-true, cond-false, false_from_ne_true}
use Rattle.graph_model.specs.Projection.{under}
use Rattle.csr_columns.specs.Rows.{HasColumnsBeside, HasTargetsBelow, IsBeside, row_at, column_at}
use Rattle.csr_columns.specs.Offsets.{cut_row, cut_rows, shown, IsUnnamed, IsFirstNamed, CutsRows, AreRows}
use Rattle.csr_columns.proofs.OffsetRows.{length-cut_rows, row_at-cut_rows, listed-cut_rows, All-cut_row}

-- the keys stand in the order of the columns
pub keys-shown : (offsets targets : List ℕ) (keys : List (List ℕ)) (columns : List (List ℤ)) → length keys ≡ length columns → map (λ column. column.0) (shown offsets targets keys columns).columns ≡ keys
keys-shown offsets targets keys columns named =
    firsts-zip keys (map (cut_rows offsets) columns) (length-map columns (cut_rows offsets) ∙ sym named)

pub length-columns-shown : (offsets targets : List ℕ) (keys : List (List ℕ)) (columns : List (List ℤ)) → length keys ≡ length columns → length (shown offsets targets keys columns).columns ≡ length columns
length-columns-shown offsets targets keys columns named =
    omega (arith, length-zip keys (map (cut_rows offsets) columns), length-map columns (cut_rows offsets))

-- the column at a place
pub column_at-shown : (offsets targets : List ℕ) (keys : List (List ℕ)) (columns : List (List ℤ)) (place : ℕ) (d : List ℤ) → length keys ≡ length columns → place < length columns → column_at (shown offsets targets keys columns).columns place ≡ cut_rows offsets (get_or columns place d)
column_at-shown offsets targets keys columns place d named h =
    ap (λ (pair : List ℕ × List (List ℤ)). pair.1) (get_or-zip keys (map (cut_rows offsets) columns) place ([], []) (omega arith) (omega (arith, length-map columns (cut_rows offsets))))
    ∙ get_or-map (cut_rows offsets) columns place d [] h

-- the values of a column are cut as the targets are
pub length-cut_row : {X Y : Type 0} (offsets : List ℕ) (xs : List X) (ys : List Y) (v : ℕ) → length xs ≡ length ys → length (cut_row offsets xs v) ≡ length (cut_row offsets ys v)
length-cut_row offsets xs ys v e =
    let from : ℕ = get_or offsets v 0 in
    let count : ℕ = get_or offsets (v + 1) 0 - from in
    omega (arith, length-take count (drop from xs), length-take count (drop from ys), length-drop from xs, length-drop from ys)

-- the number of arcs
pub sum-rows-shown : (offsets targets : List ℕ) → CutsRows offsets (length targets) → sum_by length (cut_rows offsets targets) ≡ length targets
sum-rows-shown offsets targets cuts =
    sym (length-flat_map (λ (row : List ℕ). row) (cut_rows offsets targets)) ∙ ap (λ (xs : List ℕ). length xs) (listed-cut_rows offsets targets cuts)

-- what stands under a name that stands nowhere
pub under-none : {X : Type 0} (keys : List (List ℕ)) (xs : List X) (key : List ℕ) → IsUnnamed keys key (length keys) → under key (zip keys xs) ≡ None
under-none [] xs key absent = refl
under-none (k ∷ keys) [] key absent = refl
under-none (k ∷ keys) (x ∷ xs) key absent =
    let other = false_from_ne_true (bytes_eq k key) (λ same. absent 0 (omega arith) ((bytes_decides k key).0 same)) in
    cond-false (bytes_eq k key) (Some x) (under key (zip keys xs)) other ∙ under-none keys xs key (λ n h. absent (suc n) (omega arith))

-- what stands under a name at its first place
pub under-first : {X : Type 0} (keys : List (List ℕ)) (xs : List X) (key : List ℕ) (place : ℕ) (d : X) → length keys ≡ length xs → IsFirstNamed keys key place → under key (zip keys xs) ≡ Some (get_or xs place d)
under-first [] xs key place d named first = absurd (omega (arith, first.0))
under-first (k ∷ keys) [] key place d named first = absurd (omega arith)
under-first (k ∷ keys) (x ∷ xs) key zero d named first =
    cond-true (bytes_eq k key) (Some x) (under key (zip keys xs)) ((bytes_decides k key).1 first.1)
under-first (k ∷ keys) (x ∷ xs) key (suc place) d named first =
    let other = false_from_ne_true (bytes_eq k key) (λ same. first.2 0 (omega arith) ((bytes_decides k key).0 same)) in
    cond-false (bytes_eq k key) (Some x) (under key (zip keys xs)) other
    ∙ under-first keys xs key place d (omega arith) (omega (arith, first.0), first.1, λ n h. first.2 (suc n) (omega arith))

-- the place of a key, as the columns show it
pub place-shown : (offsets targets : List ℕ) (keys : List (List ℕ)) (columns : List (List ℤ)) (key : List ℕ) (place : Option ℕ) → length keys ≡ length columns → MatchOption place (IsUnnamed keys key (length keys)) (IsFirstNamed keys key) → MatchOption place (under key (shown offsets targets keys columns).columns ≡ None) (λ p. (p < length (shown offsets targets keys columns).columns) × (under key (shown offsets targets keys columns).columns ≡ Some (column_at (shown offsets targets keys columns).columns p)))
place-shown offsets targets keys columns key None named absent = under-none keys (map (cut_rows offsets) columns) key absent
place-shown offsets targets keys columns key (Some place) named first =
    let cut = map (cut_rows offsets) columns in
    let long = length-map columns (cut_rows offsets) in
    let within : place < length (zip keys cut) = omega (arith, first.0, length-zip keys cut) in
    (within, under-first keys cut key place [] (omega arith) first ∙ ap (λ (column : List (List ℤ)). Some column) (sym (ap (λ (pair : List ℕ × List (List ℤ)). pair.1) (get_or-zip keys cut place ([], []) first.0 (omega arith)))))

-- the values of a column beside the row of a node
pub values-shown : (offsets targets : List ℕ) (keys : List (List ℕ)) (columns : List (List ℤ)) (place v : ℕ) (column : List ℤ) → length keys ≡ length columns → place < length columns → column ≡ get_or columns place column → v + 1 < length offsets → cut_row offsets column v ≡ row_at (column_at (shown offsets targets keys columns).columns place) v
values-shown offsets targets keys columns place v column named h read within =
    sym (row_at-cut_rows offsets column v within)
    ∙ ap (λ (rows : List (List ℤ)). row_at rows v) (ap (cut_rows offsets) read ∙ sym (column_at-shown offsets targets keys columns place column named h))

-- a column of rows has a value beside each target
pub beside-shown : (offsets targets : List ℕ) (keys : List (List ℕ)) (columns : List (List ℤ)) (place : ℕ) → AreRows offsets targets keys columns → place < length columns → IsBeside (shown offsets targets keys columns).rows (column_at (shown offsets targets keys columns).columns place)
beside-shown offsets targets keys columns place are h =
    let column : List ℤ = get_or columns place [] in
    let read : column_at (shown offsets targets keys columns).columns place ≡ cut_rows offsets column = column_at-shown offsets targets keys columns place [] are.named h in
    let long : length column ≡ length targets = are.beside place [] h in
    subst (IsBeside (cut_rows offsets targets)) (sym read)
    (record {
      many = length-cut_rows offsets column ∙ sym (length-cut_rows offsets targets);
      long = λ v v_in.
          let within : v + 1 < length offsets = omega (arith, length-cut_rows offsets targets) in
          ap (λ (xs : List ℤ). length xs) (row_at-cut_rows offsets column v within)
          ∙ length-cut_row offsets column targets v long
          ∙ sym (ap (λ (xs : List ℕ). length xs) (row_at-cut_rows offsets targets v within));
    })

-- so has each column of rows
pub columns_beside : (offsets targets : List ℕ) (keys : List (List ℕ)) (columns : List (List ℤ)) → AreRows offsets targets keys columns → HasColumnsBeside (shown offsets targets keys columns)
columns_beside offsets targets keys columns are place h =
    beside-shown offsets targets keys columns place are (omega (arith, h, length-columns-shown offsets targets keys columns are.named))

-- the same of the place of a key
pub beside-found : (offsets targets : List ℕ) (keys : List (List ℕ)) (columns : List (List ℤ)) (key : List ℕ) (place : Option ℕ) → AreRows offsets targets keys columns → MatchOption place (IsUnnamed keys key (length keys)) (IsFirstNamed keys key) → IfSome place (λ p. IsBeside (shown offsets targets keys columns).rows (column_at (shown offsets targets keys columns).columns p))
beside-found offsets targets keys columns key None are absent = tt
beside-found offsets targets keys columns key (Some place) are first = beside-shown offsets targets keys columns place are (omega (arith, first.0, are.named))

-- the targets of rows lie below the number of nodes
pub targets_below : (offsets targets : List ℕ) → All (λ target. target + 1 < length offsets) targets → HasTargetsBelow (cut_rows offsets targets)
targets_below offsets targets below = record {
  below = λ v v_in.
      let within : v + 1 < length offsets = omega (arith, length-cut_rows offsets targets) in
      let row = All-cut_row {X = ℕ} (λ (target : ℕ). target + 1 < length offsets) offsets targets v below in
      subst (All (λ (target : ℕ). target < length (cut_rows offsets targets))) (sym (row_at-cut_rows offsets targets v within))
      (λ k d h. omega (arith, row k d h, length-cut_rows offsets targets));
}
