use Rattle.std.proofs.Common.{◌≡◌, ℕ, ℤ, List, length, map, sym, ◌∙◌, arith}
use Rattle.std.proofs.lemmas.List.{length-map}
use Rattle.std.proofs.lemmas.List.Elements.{All-map}
use Rattle.csr_columns.proofs.Ascending.{GroupsArcs-ascending, columns-ascending}
use Rattle.csr_columns.proofs.OffsetRows.{AreRows-grouped, ArcRows-agree, cut_rows-grouped}
use Rattle.csr_columns.proofs.arc_columns.ArcColumns.build.Goals as goal

pub invariant_of-result : goal.invariant_of-result
invariant_of-result c =
    let arcs = c.args.ends.now in
    let first : List ℕ × List ℤ → List ℕ = λ prop. prop.0 in
    let second : List ℕ × List ℤ → List ℤ = λ prop. prop.1 in
    let beside = All-map (λ (column : List ℤ). length column ≡ length arcs) second c.args.props c.requires.beside in
    let named : length (map first c.args.props) ≡ length (map second c.args.props) = length-map c.args.props first ∙ sym (length-map c.args.props second) in
    rw (c.in_ok-targets.ensures, c.in_ok-keys.ensures.keys, c.in_ok-keys.ensures.columns)
    (AreRows-grouped c.args.nodes arcs c.in_ok-offsets.offsets.items (map (λ (arc : ℕ × ℕ). arc.1) arcs) (map first c.args.props) (map second c.args.props) (omega arith) (omega arith) c.requires.below
    (GroupsArcs-ascending c.args.nodes arcs c.in_ok-offsets.offsets.items c.in_ok-offsets.ensures c.requires.ascend) beside named c.requires.distinct)

pub returns : goal.returns
returns c =
    let arcs = c.args.ends.now in
    let grouped = GroupsArcs-ascending c.args.nodes arcs c.in_ok-offsets.offsets.items c.in_ok-offsets.ensures c.requires.ascend in
    rw (c.in_ok-targets.ensures, c.in_ok-keys.ensures.keys, c.in_ok-keys.ensures.columns)
    (ArcRows-agree _ _ _ _ (cut_rows-grouped c.args.nodes arcs c.in_ok-offsets.offsets.items _ grouped) (columns-ascending c.args.nodes arcs c.in_ok-offsets.offsets.items c.args.props c.in_ok-offsets.ensures c.requires.ascend c.requires.beside))
