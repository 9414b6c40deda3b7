use Rattle.std.proofs.Common.{ℕ, List, length, ap, ◌∙◌, arith}
use Rattle.std.proofs.lemmas.List.FromFn.{length-map-range_with_len}
use Rattle.csr_columns.specs.Choosing.{is_kept, kept_flags}
use Rattle.csr_columns.specs.Keeping.{kept_of}
use Rattle.csr_columns.proofs.Increasing.{Ascends-from_increasing, increasing-from_Ascends}
use Rattle.csr_columns.proofs.Numbering.{IsNumbering-kept, length-kept_places}
use Rattle.csr_columns.proofs.Renumbering.{Ascends-kept, length-kept, length-renumbered, HasPlacesBelow-kept}
use Rattle.csr_columns.proofs.projection.Projection.keep.Goals as goal

pub kept_ids-requires : goal.kept_ids-requires
kept_ids-requires c =
    rw (c.deref.ensures.value, c.in_ok-kept.ensures, c.ids.ensures.ids)
    (length-map-range_with_len (is_kept c.args.labels.now c.args.self.now.labels) 0 (length c.args.self.now.ids))

pub new_places-requires : goal.new_places-requires
new_places-requires c =
    rw (c.deref-2.ensures.value, c.in_ok-kept.ensures)
    (omega (arith, length-map-range_with_len (is_kept c.args.labels.now c.args.self.now.labels) 0 (length c.args.self.now.ids), c.ids.ensures.few, ap (λ (xs : List ℕ). length xs) c.ids.ensures.ids))

pub returns-clause-long : goal.returns-clause-long
returns-clause-long c =
    let flags = kept_flags c.args.labels.now c.args.self.now.labels (length c.args.self.now.ids) in
    rw (c.in_ok-places.ensures, c.deref-2.ensures.value, c.in_ok-kept.ensures)
    (length-renumbered 0 flags ∙ length-map-range_with_len (is_kept c.args.labels.now c.args.self.now.labels) 0 (length c.args.self.now.ids))

pub returns-clause-below : goal.returns-clause-below
returns-clause-below c =
    let flags = kept_flags c.args.labels.now c.args.self.now.labels (length c.args.self.now.ids) in
    rw (c.in_ok-places.ensures, c.deref-2.ensures.value, c.in_ok-ids.ensures, c.deref.ensures.value, c.ids.ensures.ids, c.in_ok-kept.ensures)
    (HasPlacesBelow-kept flags c.args.self.now.ids (length-map-range_with_len (is_kept c.args.labels.now c.args.self.now.labels) 0 (length c.args.self.now.ids)))

pub returns-clause-few : goal.returns-clause-few
returns-clause-few c =
    let flags = kept_flags c.args.labels.now c.args.self.now.labels (length c.args.self.now.ids) in
    rw (c.in_ok-ids.ensures, c.deref.ensures.value, c.ids.ensures.ids, c.in_ok-kept.ensures)
    (omega (arith, length-kept flags c.args.self.now.ids, c.ids.ensures.few, ap (λ (xs : List ℕ). length xs) c.ids.ensures.ids))

pub returns-clause-ascend : goal.returns-clause-ascend
returns-clause-ascend c =
    let flags = kept_flags c.args.labels.now c.args.self.now.labels (length c.args.self.now.ids) in
    let up = rw c.ids.ensures.ids at c.ids.ensures.ascend in
    rw (c.in_ok-ids.ensures, c.deref.ensures.value, c.ids.ensures.ids, c.in_ok-kept.ensures)
    (increasing-from_Ascends (kept_of flags c.args.self.now.ids) (Ascends-kept flags c.args.self.now.ids (Ascends-from_increasing c.args.self.now.ids up)))

pub kept_nodes-requires : goal.kept_nodes-requires
kept_nodes-requires c =
    rw (c.deref-3.ensures.value, c.in_ok-kept.ensures)
    (omega (arith, length-map-range_with_len (is_kept c.args.labels.now c.args.self.now.labels) 0 (length c.args.self.now.ids), c.ids.ensures.few, ap (λ (xs : List ℕ). length xs) c.ids.ensures.ids))

pub returns-clause-numbered : goal.returns-clause-numbered
returns-clause-numbered c =
    rw (c.in_ok-places.ensures, c.deref-2.ensures.value, c.in_ok-nodes.ensures, c.deref-3.ensures.value)
    (IsNumbering-kept c.in_ok-kept.kept.items)

pub returns-clause-many : goal.returns-clause-many
returns-clause-many c =
    let flags = kept_flags c.args.labels.now c.args.self.now.labels (length c.args.self.now.ids) in
    rw (c.in_ok-nodes.ensures, c.deref-3.ensures.value, c.in_ok-kept.ensures, c.in_ok-ids.ensures, c.deref.ensures.value, c.ids.ensures.ids, c.in_ok-kept.ensures)
    (length-kept_places 0 flags c.args.self.now.ids (length-map-range_with_len (is_kept c.args.labels.now c.args.self.now.labels) 0 (length c.args.self.now.ids)))
