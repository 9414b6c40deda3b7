use Rattle.std.proofs.Common.{◌≡◌, ℤ, List, [], length, refl, arith}
use Rattle.std.proofs.lemmas.List.Elements.{All-nil}
use Rattle.csr_columns.proofs.OffsetRows.{AreRows-grouped, ArcRows-agree, cut_rows-grouped}
use Rattle.csr_columns.proofs.arc_columns.ArcColumns.by_source.Goals as goal

pub invariant_of-result : goal.invariant_of-result
invariant_of-result c =
    rw (c.new.ensures, c.new-2.ensures.items)
    (AreRows-grouped c.args.nodes c.args.ends.now _ _ [] [] (omega arith) (omega arith) c.requires c.in_ok-offsets.ensures (All-nil (λ (column : List ℤ). length column ≡ length c.args.ends.now)) refl (λ i j d h j_in. absurd (omega arith)))

pub returns : goal.returns
returns c =
    rw c.new.ensures
    (ArcRows-agree _ _ [] [] (cut_rows-grouped c.args.nodes c.args.ends.now _ _ c.in_ok-offsets.ensures) refl)
