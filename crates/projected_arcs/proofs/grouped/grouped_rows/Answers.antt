use Rattle.std.proofs.Common.{◌≡◌, ◌∙◌, sym, ap, subst, List, ℕ, ℤ, map, length}
use Rattle.std.proofs.lemmas.List.{length-map}
use Rattle.std.proofs.lemmas.List.Elements.{All-from_recursion}
use Rattle.csr_columns.specs.Rows.{AreDistinct}
use Rattle.projected_arcs.specs.Types.{grouped_columns, grouped_ends}
use Rattle.projected_arcs.proofs.KindLemmas.{grouped-long, grouped-named}
use Rattle.projected_arcs.proofs.grouped.grouped_rows.Goals as goal

pub build-requires-clause-beside : goal.build-requires-clause-beside
build-requires-clause-beside c =
    let kept = c.args.kept.now in
    let props = c.args.props.now in
    let many = length c.as_slice.result.now in
    let same : length kept ≡ many = sym (ap length (c.as_slice.ensures.value ∙ c.in_ok-ends.ensures) ∙ length-map kept (grouped_ends c.args.places.now)) in
    rw c.in_ok-columns.ensures (λ k d h. All-from_recursion (λ (column : List ℕ × List ℤ). length column.1 ≡ length kept) (grouped_columns kept 0 props) (grouped-long kept 0 props) k d h ∙ same)

pub build-requires-clause-distinct : goal.build-requires-clause-distinct
build-requires-clause-distinct c =
    subst AreDistinct (sym (ap (map (λ (column : List ℕ × List ℤ). column.0)) c.in_ok-columns.ensures ∙ grouped-named c.args.kept.now 0 c.args.props.now)) c.requires.distinct
