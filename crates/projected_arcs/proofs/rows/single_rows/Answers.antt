use Rattle.std.proofs.Common.{◌≡◌, ◌∙◌, sym, ap, subst, List, ℕ, ℤ, map, length}
use Rattle.std.proofs.lemmas.List.{length-map}
use Rattle.std.proofs.lemmas.List.Elements.{All-from_recursion}
use Rattle.csr_columns.specs.Rows.{AreDistinct}
use Rattle.projected_arcs.specs.Flat.{arc_column, flat_ends}
use Rattle.projected_arcs.proofs.RelLemmas.{shown}
use Rattle.projected_arcs.proofs.RowLemmas.{columns-long, columns-named}
use Rattle.projected_arcs.proofs.rows.single_rows.Goals as goal

pub build-requires-clause-beside : goal.build-requires-clause-beside
build-requires-clause-beside c =
    let rels = shown c.args.rels.now in
    let arcs = c.args.arcs.now in
    let props = c.args.props.now in
    let many = length c.as_slice.result.now in
    let same : length arcs ≡ many = sym (ap length (c.as_slice.ensures.value ∙ c.in_ok-ends.ensures) ∙ length-map arcs (flat_ends c.args.places.now)) in
    rw c.in_ok-columns.ensures (λ k d h. All-from_recursion (λ (column : List ℕ × List ℤ). length column.1 ≡ length arcs) (map (arc_column rels arcs) props) (columns-long rels arcs props) k d h ∙ same)

pub build-requires-clause-distinct : goal.build-requires-clause-distinct
build-requires-clause-distinct c =
    let rels = shown c.args.rels.now in
    subst AreDistinct (sym (ap (map (λ (column : List ℕ × List ℤ). column.0)) c.in_ok-columns.ensures ∙ columns-named rels c.args.arcs.now c.args.props.now)) c.requires.distinct
