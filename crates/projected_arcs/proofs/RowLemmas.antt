-- Items in rows of arcs, with a column for each field of theirs, read back as plain arcs.
use Rattle.std.proofs.Common.{◌≡◌, ℕ, ◌+◌, ℤ, List, [], ◌∷◌, ◌++◌, Bor, length, map, get_or, refl, sym, ap, ◌∙◌, arith}
use Rattle.std.proofs.lemmas.List.{length-map, get_or-map}
use Rattle.std.specs.List.{AllByRecursion, enumerate_from}
use Rattle.graph_model.specs.declared.graph.Rel.{Rel}
use Rattle.graph_model.specs.Projection.{ProjectedArc, missing_value}
use Rattle.projection_spec.specs.declared.entries.RelProp.{RelProp}
use Rattle.projected_arcs.specs.declared.flat.FlatArc.{FlatArc}
use Rattle.projected_arcs.specs.Flat.{no_rel, kept_value, arc_value, arc_column, picked_value, IsWithin}
use Rattle.projected_arcs.proofs.RelLemmas.{shown, map-shown}
use Rattle.std.specs.List.{All}
use Rattle.std.specs.List.Sorted.{IsSorted}
use Rattle.csr_columns.specs.Rows.{ArcRows, LiesBelow, arc_cmp, arcs_of, rows_of, column_of, listed_column, arc_rows_of, names_of}
use Rattle.csr_columns.specs.Plain.{plain_arc, plain_arcs, values_at, value_of}
use Rattle.csr_columns.proofs.Listing.{arcs_of-rows_of, listed-values_of}
use Rattle.projected_arcs.proofs.ListLemmas.{map-at-middle, length-push, push-front}

module _ {A : Type 0} (ids : List ℕ) (source target : A → ℕ) (end : A → ℕ × ℕ) (fields : List (List ℕ × (A → ℤ))) where
  -- a field's column over items
  abbrev pub column_over : List A → List ℕ × (A → ℤ) → List ℕ × List ℤ
  column_over items field = (field.0, map field.1 items)

  -- the arc that an item is
  abbrev pub arc_over : A → ProjectedArc
  arc_over item = record { source = source item; target = target item; values = map (λ field. field.1 item) fields }

  -- the ends of an item stand at their places among the ids
  pub record EndsStand (item : A) : Type 0 where
    pub source_stands : get_or ids (end item).0 0 ≡ source item
    pub target_stands : get_or ids (end item).1 0 ≡ target item

  values-over : (fs : List (List ℕ × (A → ℤ))) (front : List A) (item : A) (back : List A) → values_at (map (column_over (front ++ item ∷ back)) fs) (length front) ≡ map (λ field. field.1 item) fs
  values-over [] front item back = refl
  values-over (field ∷ fs) front item back =
      ap (λ v. v ∷ values_at (map (column_over (front ++ item ∷ back)) fs) (length front)) (map-at-middle field.1 front item back missing_value)
      ∙ ap (λ vs. field.1 item ∷ vs) (values-over fs front item back)

  arcs-behind : (front items : List A) → AllByRecursion EndsStand items → map (plain_arc ids (map (column_over (front ++ items)) fields)) (enumerate_from (length front) (map end items)) ≡ map arc_over items
  arcs-behind front [] stand = refl
  arcs-behind front (item ∷ items) stand =
      let columns = map (column_over (front ++ item ∷ items)) fields in
      let here : plain_arc ids columns (length front, end item) ≡ arc_over item =
      ap (λ s. record { source = s; target = get_or ids (end item).1 0; values = values_at columns (length front) }) stand.0.source_stands
      ∙ ap (λ t. record { source = source item; target = t; values = values_at columns (length front) }) stand.0.target_stands
      ∙ ap (λ vs. record { source = source item; target = target item; values = vs }) (values-over fields front item items) in
      ap (λ arc. arc ∷ map (plain_arc ids columns) (enumerate_from (length front + 1) (map end items))) here
      ∙ ap (λ arcs. arc_over item ∷ arcs)
      (ap (λ n. map (plain_arc ids columns) (enumerate_from n (map end items))) (sym (length-push front item))
      ∙ ap (λ all. map (plain_arc ids (map (column_over all) fields)) (enumerate_from (length (front ++ item ∷ [])) (map end items))) (sym (push-front front item items))
      ∙ arcs-behind (front ++ item ∷ []) items stand.1)

  -- the items in columns, read back
  pub arcs-over : (items : List A) → AllByRecursion EndsStand items → map (plain_arc ids (map (column_over items) fields)) (enumerate_from 0 (map end items)) ≡ map arc_over items
  arcs-over items stand = arcs-behind [] items stand

  module _ (n : ℕ) (items : List A) (below : All (LiesBelow n) (map end items)) (sorted : IsSorted arc_cmp (map end items)) where
    listed-over : (fs : List (List ℕ × (A → ℤ))) → map listed_column (map (column_of n (map end items)) (map (column_over items) fs)) ≡ map (column_over items) fs
    listed-over [] = refl
    listed-over (field ∷ fs) =
        let values = map field.1 items in
        let here : listed_column (column_of n (map end items) (field.0, values)) ≡ (field.0, values) =
        ap (λ vs. (field.0, vs)) (listed-values_of n (map end items) values below sorted (length-map items field.1 ∙ sym (length-map items end))) in
        ap (λ column. column ∷ map listed_column (map (column_of n (map end items)) (map (column_over items) fs))) here
        ∙ ap (λ columns. column_over items field ∷ columns) (listed-over fs)

    -- rows of the items, read back
    pub plain-over : (rows : ArcRows) → rows ≡ arc_rows_of n (map end items) (map (column_over items) fields) → AllByRecursion EndsStand items → plain_arcs ids rows ≡ map arc_over items
    plain-over rows is stand =
        ap (plain_arcs ids) is
        ∙ ap (λ columns. map (plain_arc ids columns) (enumerate_from 0 (arcs_of (rows_of n (map end items))))) (listed-over fields)
        ∙ ap (λ arcs. map (plain_arc ids (map (column_over items) fields)) (enumerate_from 0 arcs)) (arcs_of-rows_of n (map end items) below sorted)
        ∙ arcs-over items stand

    names-over : (fs : List (List ℕ × (A → ℤ))) → names_of (map (column_of n (map end items)) (map (column_over items) fs)) ≡ map (λ field. field.0) fs
    names-over [] = refl
    names-over (field ∷ fs) = ap (λ names. field.0 ∷ names) (names-over fs)

    -- the keys of rows of the items
    pub keys-over : (rows : ArcRows) → rows ≡ arc_rows_of n (map end items) (map (column_over items) fields) → names_of rows.columns ≡ map (λ field. field.0) fields
    keys-over rows is = ap (λ r. names_of r.columns) is ∙ names-over fields

-- ---- columns of flat arcs

-- the values of relationships, picked by arcs, are those of the arcs
pub picked-arcs : (rels : List (Bor Rel)) (prop : RelProp) (values : List ℤ) (arcs : List FlatArc) → values ≡ map (λ rel. kept_value rel.now.props prop) rels → AllByRecursion (IsWithin (length rels)) arcs → map (picked_value values) arcs ≡ map (arc_value (shown rels) prop) arcs
picked-arcs rels prop values [] are within = refl
picked-arcs rels prop values (arc ∷ arcs) are within =
    let here : picked_value values arc ≡ arc_value (shown rels) prop arc =
    ap (λ vs. get_or vs arc.place missing_value) (are ∙ map-shown (λ rel. kept_value rel.props prop) rels)
    ∙ get_or-map (λ rel. kept_value rel.props prop) (shown rels) arc.place no_rel missing_value (omega (arith, within.0, length-map rels (λ (rel : Bor Rel). rel.now))) in
    ap (λ v. v ∷ map (picked_value values) arcs) here ∙ ap (λ vs. arc_value (shown rels) prop arc ∷ vs) (picked-arcs rels prop values arcs are within.1)

-- each column is as long as there are arcs
pub columns-long : (rels : List Rel) (arcs : List FlatArc) (props : List RelProp) → AllByRecursion (λ column. length column.1 ≡ length arcs) (map (arc_column rels arcs) props)
columns-long rels arcs [] = tt
columns-long rels arcs (prop ∷ props) = (length-map arcs (arc_value rels prop), columns-long rels arcs props)

-- the names of the columns are the keys
pub columns-named : (rels : List Rel) (arcs : List FlatArc) (props : List RelProp) → map (λ column. column.0) (map (arc_column rels arcs) props) ≡ map (λ prop. prop.key) props
columns-named rels arcs [] = refl
columns-named rels arcs (prop ∷ props) = ap (λ names. prop.key ∷ names) (columns-named rels arcs props)
