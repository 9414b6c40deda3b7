-- Rows whose turned arcs stand in them again are their own reverse.
use Rattle.std.proofs.Common.{◌≡◌, ◌≢◌, ℕ, ℤ, pos, ◌+◌, ◌-◌, ◌<◌, ◌≤◌, Bool, true, false, cond, List, [], ◌∷◌, ◌++◌, length, map, filter, get_or, set, take, drop, slice_index, refl, sym, ap, ap₂, ◌∙◌, subst, ⊎_elim, arith}
use Rattle.std.specs.List.{All, flat_map, range_with_len, zip}
use Rattle.std.proofs.lemmas.List.{length-map, length-drop, length-set, get_or-map, get_or-take, get_or-drop, get_or-set_same, get_or-set_other, length-take, map-append, append-nil, take_all, take_more}
use Rattle.std.proofs.lemmas.List.Elements.{All-head, All-tail, filter-append}
use Rattle.std.proofs.lemmas.List.FromFn.{length-map-range_with_len, get_or-map-range_with_len, take-map-range_with_len}
use Rattle.std.proofs.lemmas.Bool.{cases_eq, eq-eqb, ne_eqb}
use Rattle.graph_model.specs.Arcs.{leaves, out_degree, targets_of}
use Rattle.csr_columns.specs.Rows.{arc_from, arcs_at, arcs_of, column_of, is_beside, listed, listed_column, row_at, rows_of, turned, turned_rows, values_of}
use Rattle.csr_columns.specs.Offsets.{CountsArcs, CutsRows, arcs_before, cut_row, cut_rows, shown}
use Rattle.csr_columns.specs.Parts.{IsLong}
use Rattle.csr_columns.specs.Mirror.{FindsArcs, FindsValues, HasEqual, HasMirroredRows, IsMirrored, turned_arcs}
use Rattle.csr_columns.proofs.ArcCounts.{by_induction, arcs_before-zero, arcs_before-suc, out_degree_more-same, out_degree_more-other, targets_of-more_same, targets_of-more_other}
use Rattle.csr_columns.proofs.Gathered.{zip-more}
use Rattle.csr_columns.proofs.GrownRows.{part-listed}
use Rattle.csr_columns.proofs.OffsetRows.{ArcRows-agree, cut_rows-counted, cut_rows-grouped, flat_map-listed, length-cut_rows, listed-cut_rows, listed-rows_below, row_at-cut_rows}
use Rattle.csr_columns.proofs.Shown.{sum-rows-shown}
use Rattle.csr_columns.proofs.Taken.{length-arcs_of, length-flat_maps}
use Rattle.csr_columns.proofs.TurnedRows.{get_or-cut_row}

-- a part with one item more
part-more : {X : Type 0} (items : List X) (from count : ℕ) (d : X) → from + count < length items → take (count + 1) (drop from items) ≡ take count (drop from items) ++ get_or items (from + count) d ∷ []
part-more {X} items from count d h =
    take_more (drop from items) count d (omega (arith, length-drop from items))
    ∙ ap (λ (x : X). take count (drop from items) ++ x ∷ []) (get_or-drop from items count d)

-- the values beside the arcs from v, with one arc more
values_of-more : (arcs : List (ℕ × ℕ)) (column : List ℤ) (i v : ℕ) (d : ℕ × ℕ) → i < length arcs → length column ≡ length arcs → values_of (take (i + 1) arcs) (take (i + 1) column) v ≡ values_of (take i arcs) (take i column) v ++ cond (leaves v (get_or arcs i d)) (get_or column i (pos 0) ∷ []) []
values_of-more arcs column i v d h long =
    let value : (ℕ × ℕ) × ℤ → ℤ = λ entry. entry.1 in
    let entry : (ℕ × ℕ) × ℤ = (get_or arcs i d, get_or column i (pos 0)) in
    let front : List ((ℕ × ℕ) × ℤ) = zip (take i arcs) (take i column) in
    ap (λ (es : List ((ℕ × ℕ) × ℤ)). map value (filter (is_beside v) es)) (zip-more arcs column i d (pos 0) h long)
    ∙ ap (map value) (filter-append (is_beside v) front (entry ∷ []))
    ∙ map-append value (filter (is_beside v) front) (filter (is_beside v) (entry ∷ []))
    ∙ ap (λ (vs : List ℤ). values_of (take i arcs) (take i column) v ++ vs) (one (leaves v (get_or arcs i d)))
  where
    one : (b : Bool) → map (λ (entry : (ℕ × ℕ) × ℤ). entry.1) (cond b ((get_or arcs i d, get_or column i (pos 0)) ∷ []) []) ≡ cond b (get_or column i (pos 0) ∷ []) []
    one true = refl
    one false = refl

module _ (offsets targets : List ℕ) (cuts : CutsRows offsets (length targets)) where
  abbrev arcs : List (ℕ × ℕ)
  arcs = turned_arcs offsets targets

  abbrev nodes : ℕ
  nodes = length offsets - 1

  abbrev pieces : List (List (ℕ × ℕ))
  pieces = map (arcs_at (cut_rows offsets targets)) (range_with_len 0 nodes)

  length-arcs : length arcs ≡ length targets
  length-arcs = length-map (arcs_of (cut_rows offsets targets)) turned ∙ length-arcs_of (cut_rows offsets targets) ∙ sum-rows-shown offsets targets cuts

  -- the arcs of the rows are the pieces, one after another
  arcs-pieces : arcs_of (cut_rows offsets targets) ≡ listed pieces
  arcs-pieces =
      ap (λ (n : ℕ). flat_map (arcs_at (cut_rows offsets targets)) (range_with_len 0 n)) (length-cut_rows offsets targets)
      ∙ flat_map-listed (arcs_at (cut_rows offsets targets)) (range_with_len 0 nodes)

  -- as many arcs stand before a row as its offset says
  starts : (v : ℕ) → v < length offsets → length (listed (take v pieces)) ≡ slice_index offsets v
  starts v h =
      let rows : List (List ℕ) = cut_rows offsets targets in
      let low : v ≤ nodes = omega arith in
      let few : slice_index offsets v ≤ length targets = omega (arith, cuts.ascends v (length offsets - 1) (omega arith) (omega (arith, cuts.some)), cuts.last) in
      ap (λ (ps : List (List (ℕ × ℕ))). length (listed ps)) (take-map-range_with_len (arcs_at rows) 0 nodes v low)
      ∙ ap (λ (xs : List (ℕ × ℕ)). length xs) (sym (flat_map-listed (arcs_at rows) (range_with_len 0 v)))
      ∙ length-flat_maps (cut_row offsets targets) (arcs_at rows) 0 v
      (λ u from to. length-map (row_at rows u) (arc_from u) ∙ ap (λ (xs : List ℕ). length xs) (row_at-cut_rows offsets targets u (omega arith)))
      ∙ ap (λ (xs : List ℕ). length xs) (flat_map-listed (cut_row offsets targets) (range_with_len 0 v) ∙ listed-rows_below offsets targets cuts v h)
      ∙ omega (arith, length-take (slice_index offsets v) targets)

  -- the arc at a place of a row
  arc-at : (v place : ℕ) → v + 1 < length offsets → slice_index offsets v ≤ place → place < slice_index offsets (v + 1) → get_or arcs place (0, 0) ≡ (get_or targets place 0, v)
  arc-at v place v_in from to =
      let rows : List (List ℕ) = cut_rows offsets targets in
      let k : ℕ = place - slice_index offsets v in
      let at : slice_index offsets v + k ≡ place = omega arith in
      let count : ℕ = slice_index offsets (v + 1) - slice_index offsets v in
      let k_in : k < count = omega arith in
      let end : slice_index offsets (v + 1) ≤ length targets = omega (arith, cuts.ascends (v + 1) (length offsets - 1) (omega arith) (omega (arith, cuts.some)), cuts.last) in
      let long : length pieces ≡ nodes = length-map-range_with_len (arcs_at rows) 0 nodes in
      let piece : take count (drop (slice_index offsets v) (listed pieces)) ≡ map (arc_from v) (cut_row offsets targets v) =
      ap₂ (λ (a b : ℕ). take (b - a) (drop a (listed pieces))) (sym (starts v (omega arith))) (sym (starts (v + 1) v_in))
      ∙ part-listed pieces v (omega (arith, long))
      ∙ get_or-map-range_with_len (arcs_at rows) 0 nodes v v [] (omega arith) (omega arith)
      ∙ ap (map (arc_from v)) (row_at-cut_rows offsets targets v v_in) in
      let row_long : k < length (cut_row offsets targets v) = omega (arith, length-take count (drop (slice_index offsets v) targets), length-drop (slice_index offsets v) targets) in
      get_or-map turned (arcs_of rows) place (0, 0) (0, 0) (omega (arith, length-arcs, length-map (arcs_of rows) turned))
      ∙ ap turned
      (ap (λ (xs : List (ℕ × ℕ)). get_or xs place (0, 0)) arcs-pieces
      ∙ ap (λ (n : ℕ). get_or (listed pieces) n (0, 0)) (sym at)
      ∙ sym (get_or-drop (slice_index offsets v) (listed pieces) k (0, 0))
      ∙ sym (get_or-take count (drop (slice_index offsets v) (listed pieces)) k (0, 0) k_in)
      ∙ ap (λ (xs : List (ℕ × ℕ)). get_or xs k (0, 0)) piece
      ∙ get_or-map (arc_from v) (cut_row offsets targets v) k 0 (0, 0) row_long
      ∙ ap (arc_from v) (get_or-cut_row offsets targets v k 0 k_in ∙ ap (λ (n : ℕ). get_or targets n 0) at))

  -- before the first arc the cursors stand at the starts of the rows
  pub FindsArcs-none : (columns : List (List ℤ)) (cursors : List ℕ) → length cursors + 1 ≡ length offsets → ((v : ℕ) → v < length cursors → slice_index cursors v ≡ slice_index offsets v) → FindsArcs offsets targets columns 0 cursors
  FindsArcs-none columns cursors long same = record {
    long = long;
    cursor = λ v h. omega (arith, same v h);
    row = λ v h. refl;
    values = λ k d h v v_in. refl;
  }

  -- one arc more is found
  module _ (columns : List (List ℤ)) (place : ℕ) (cursors : List ℕ) (v : ℕ) (finds : FindsArcs offsets targets columns place cursors) (v_in : v + 1 < length offsets) (from : slice_index offsets v ≤ place) (to : place < slice_index offsets (v + 1)) (inside : get_or targets place 0 + 1 < length offsets) where
    abbrev t : ℕ
    t = get_or targets place 0

    abbrev at : ℕ
    at = get_or cursors t 0

    place_in : place < length arcs
    place_in = omega (arith, cuts.ascends (v + 1) (length offsets - 1) (omega arith) (omega (arith, cuts.some)), cuts.last, length-arcs)

    source-same : (u : ℕ) → t ≡ u → (get_or arcs place (0, 0)).0 ≡ u
    source-same u e = ap (λ (arc : ℕ × ℕ). arc.0) (arc-at v place v_in from to) ∙ e

    source-other : (u : ℕ) → t ≢ u → (get_or arcs place (0, 0)).0 ≢ u
    source-other u other = λ e. other (sym (ap (λ (arc : ℕ × ℕ). arc.0) (arc-at v place v_in from to)) ∙ e)

    cursor-more : (u : ℕ) → u < length cursors → get_or (set cursors t (at + 1)) u 0 ≡ slice_index offsets u + out_degree (take (place + 1) arcs) u
    cursor-more u u_in =
        ⊎_elim
        (λ (e : t ≡ u).
        let here : at ≡ get_or cursors u 0 = ap (λ (n : ℕ). get_or cursors n 0) e in
        let end : u ≡ t = sym e in
        ap (λ (n : ℕ). get_or (set cursors t (at + 1)) n 0) end ∙ get_or-set_same cursors t (at + 1) 0 (omega arith)
        ∙ omega (arith, finds.cursor u u_in, out_degree_more-same arcs place u (0, 0) place_in (source-same u e)))
        (λ (other : t ≢ u).
        let ne : u ≢ t = omega arith in
        get_or-set_other cursors t u (at + 1) 0 ne ∙ omega (arith, finds.cursor u u_in, out_degree_more-other arcs place u (0, 0) place_in (source-other u other)))
        (cases_eq t u)

    row-more : at < length targets → get_or targets at 0 ≡ v → (u : ℕ) → u < length cursors → take (out_degree (take (place + 1) arcs) u) (drop (slice_index offsets u) targets) ≡ targets_of (take (place + 1) arcs) u
    row-more at_in is u u_in =
        let had : ℕ = out_degree (take place arcs) u in
        ⊎_elim
        (λ (e : t ≡ u).
        let here : at ≡ slice_index offsets u + had = ap (λ (n : ℕ). get_or cursors n 0) e ∙ finds.cursor u u_in in
        ap (λ (n : ℕ). take n (drop (slice_index offsets u) targets)) (out_degree_more-same arcs place u (0, 0) place_in (source-same u e))
        ∙ part-more targets (slice_index offsets u) had 0 (omega arith)
        ∙ ap (λ (xs : List ℕ). xs ++ get_or targets (slice_index offsets u + had) 0 ∷ []) (finds.row u u_in)
        ∙ ap (λ (x : ℕ). targets_of (take place arcs) u ++ x ∷ []) (ap (λ (n : ℕ). get_or targets n 0) (sym here) ∙ is ∙ sym (ap (λ (arc : ℕ × ℕ). arc.1) (arc-at v place v_in from to)))
        ∙ sym (targets_of-more_same arcs place u (0, 0) place_in (source-same u e)))
        (λ (other : t ≢ u).
        ap (λ (n : ℕ). take n (drop (slice_index offsets u) targets)) (out_degree_more-other arcs place u (0, 0) place_in (source-other u other))
        ∙ finds.row u u_in
        ∙ sym (targets_of-more_other arcs place u (0, 0) place_in (source-other u other)))
        (cases_eq t u)

    values-more : at < length targets → (column : List ℤ) → length column ≡ length targets → HasEqual at place column → FindsValues offsets arcs place (length cursors) column → FindsValues offsets arcs (place + 1) (length cursors) column
    values-more at_in column long same found u u_in =
        let had : ℕ = out_degree (take place arcs) u in
        let value : ℤ = get_or column place (pos 0) in
        let more = values_of-more arcs column place u (0, 0) place_in (long ∙ sym length-arcs) in
        ⊎_elim
        (λ (e : t ≡ u).
        let here : at ≡ slice_index offsets u + had = ap (λ (n : ℕ). get_or cursors n 0) e ∙ finds.cursor u u_in in
        ap (λ (n : ℕ). take n (drop (slice_index offsets u) column)) (out_degree_more-same arcs place u (0, 0) place_in (source-same u e))
        ∙ part-more column (slice_index offsets u) had (pos 0) (omega arith)
        ∙ ap (λ (xs : List ℤ). xs ++ get_or column (slice_index offsets u + had) (pos 0) ∷ []) (found u u_in)
        ∙ ap (λ (x : ℤ). values_of (take place arcs) (take place column) u ++ x ∷ []) (ap (λ (n : ℕ). get_or column n (pos 0)) (sym here) ∙ same)
        ∙ ap (λ (b : Bool). values_of (take place arcs) (take place column) u ++ cond b (value ∷ []) []) (sym (eq-eqb (get_or arcs place (0, 0)).0 u (source-same u e)))
        ∙ sym more)
        (λ (other : t ≢ u).
        ap (λ (n : ℕ). take n (drop (slice_index offsets u) column)) (out_degree_more-other arcs place u (0, 0) place_in (source-other u other))
        ∙ found u u_in
        ∙ sym (append-nil (values_of (take place arcs) (take place column) u))
        ∙ ap (λ (b : Bool). values_of (take place arcs) (take place column) u ++ cond b (value ∷ []) []) (sym (ne_eqb (get_or arcs place (0, 0)).0 u (source-other u other)))
        ∙ sym more)
        (cases_eq t u)

    pub FindsArcs-more : at < length targets → get_or targets at 0 ≡ v → All (IsLong (length targets)) columns → All (HasEqual at place) columns → FindsArcs offsets targets columns (place + 1) (set cursors t (at + 1))
    FindsArcs-more at_in is long same =
        let kept = length-set cursors t (at + 1) in
        record {
          long = omega (arith, kept, finds.long);
          cursor = λ u u_in. cursor-more u (omega (arith, kept));
          row = λ u u_in. row-more at_in is u (omega (arith, kept));
          values = λ k d h u u_in. values-more at_in (get_or columns k d) (long k d h) (same k d h) (finds.values k d h) u (omega (arith, kept));
        }

  -- all arcs are found, and the cursors stand at the ends of the rows
  module _ (columns : List (List ℤ)) (cursors : List ℕ) (finds : FindsArcs offsets targets columns (length targets) cursors) (ends : (v : ℕ) → v < length cursors → slice_index cursors v ≡ slice_index offsets (v + 1)) where
    whole : take (length targets) arcs ≡ arcs
    whole = take_all (length targets) arcs (omega (arith, length-arcs))

    degrees : (v : ℕ) → v < nodes → slice_index offsets (v + 1) ≡ slice_index offsets v + out_degree arcs v
    degrees v h =
        let v_in : v < length cursors = omega (arith, finds.long) in
        sym (ends v v_in) ∙ finds.cursor v v_in ∙ ap (λ (xs : List (ℕ × ℕ)). slice_index offsets v + out_degree xs v) whole

    counts : (v : ℕ) → v ≤ nodes → slice_index offsets v ≡ arcs_before arcs v
    counts =
        by_induction (λ (v : ℕ). v ≤ nodes → slice_index offsets v ≡ arcs_before arcs v)
        (λ _. cuts.first ∙ sym (arcs_before-zero arcs))
        (λ v before h. omega (arith, degrees v (omega arith), before (omega arith), arcs_before-suc arcs v))

    counted : CountsArcs nodes arcs offsets
    counted = record {
      long = omega (arith, cuts.some);
      counts = counts;
    }

    cut-whole : {X : Type 0} (items : List X) (v : ℕ) → v < nodes → cut_row offsets items v ≡ take (out_degree arcs v) (drop (slice_index offsets v) items)
    cut-whole items v h =
        let count : slice_index offsets (v + 1) - slice_index offsets v ≡ out_degree arcs v = omega (arith, degrees v h) in
        ap (λ (n : ℕ). take n (drop (slice_index offsets v) items)) count

    pub mirrored-found : All (IsLong (length targets)) columns → IsMirrored offsets targets columns
    mirrored-found long = record {
      grouped = record {
        counted = counted;
        many = sym length-arcs;
        rows = λ v h.
            cut-whole targets v h
            ∙ subst (λ (xs : List (ℕ × ℕ)). take (out_degree xs v) (drop (slice_index offsets v) targets) ≡ targets_of xs v) whole (finds.row v (omega (arith, finds.long)));
      };
      values = λ k d h.
          let column : List ℤ = get_or columns k d in
          let all : take (length targets) column ≡ column = take_all (length targets) column (omega (arith, long k d h)) in
          cut_rows-counted nodes arcs offsets column (values_of arcs column) counted
          (λ v v_in.
          cut-whole column v v_in
          ∙ subst (λ (xs : List (ℕ × ℕ)). take (out_degree xs v) (drop (slice_index offsets v) column) ≡ values_of xs (take (length targets) column) v) whole (finds.values k d h v (omega (arith, finds.long)))
          ∙ ap (λ (values : List ℤ). values_of arcs values v) all);
    }

  -- columns that are mirrored are those of the turned arcs
  columns-mirrored : (keys : List (List ℕ)) (columns : List (List ℤ)) → All (IsLong (length targets)) columns → All (HasMirroredRows offsets arcs) columns → map (column_of nodes arcs) (map listed_column (zip keys (map (cut_rows offsets) columns))) ≡ zip keys (map (cut_rows offsets) columns)
  columns-mirrored [] columns long same = refl
  columns-mirrored (key ∷ keys) [] long same = refl
  columns-mirrored (key ∷ keys) (column ∷ columns) long same =
      let here : length column ≡ length targets = All-head (IsLong (length targets)) column columns long in
      let values : listed (cut_rows offsets column) ≡ column = listed-cut_rows offsets column (subst (λ (n : ℕ). CutsRows offsets n) (sym here) cuts) in
      ap (λ (vs : List ℤ). (key, map (values_of arcs vs) (range_with_len 0 nodes)) ∷ map (column_of nodes arcs) (map listed_column (zip keys (map (cut_rows offsets) columns)))) values
      ∙ ap (λ (rows : List (List ℤ)). (key, rows) ∷ map (column_of nodes arcs) (map listed_column (zip keys (map (cut_rows offsets) columns)))) (sym (All-head (HasMirroredRows offsets arcs) column columns same))
      ∙ ap (λ (cs : List (List ℕ × List (List ℤ))). (key, cut_rows offsets column) ∷ cs) (columns-mirrored keys columns (All-tail (IsLong (length targets)) column columns long) (All-tail (HasMirroredRows offsets arcs) column columns same))

  -- such rows are their own reverse
  pub turned-mirrored : (keys : List (List ℕ)) (columns : List (List ℤ)) → All (IsLong (length targets)) columns → IsMirrored offsets targets columns → turned_rows (shown offsets targets keys columns) ≡ shown offsets targets keys columns
  turned-mirrored keys columns long mirrored =
      let listed_columns : List (List ℕ × List ℤ) = map listed_column (zip keys (map (cut_rows offsets) columns)) in
      ap (λ (n : ℕ). record { rows = rows_of n arcs; columns = map (column_of n arcs) listed_columns }) (length-cut_rows offsets targets)
      ∙ ArcRows-agree (rows_of nodes arcs) (cut_rows offsets targets) (map (column_of nodes arcs) listed_columns) (zip keys (map (cut_rows offsets) columns))
      (sym (cut_rows-grouped nodes arcs offsets targets mirrored.grouped)) (columns-mirrored keys columns long mirrored.values)
