use Rattle.std.proofs.Common.{◌≡◌, ◌∙◌, List, ℤ, map, length}
use Rattle.std.proofs.lemmas.Result.{IfOk-weaker}
use Rattle.std.proofs.lemmas.List.Elements.{recursion_from_All}
use Rattle.projected_arcs.specs.Flat.{arc_value, picked_value, IsWithin}
use Rattle.projected_arcs.proofs.RelLemmas.{shown}
use Rattle.projected_arcs.proofs.RowLemmas.{picked-arcs}
use Rattle.projected_arcs.proofs.rows.column_of.Goals as goal

pub returns : goal.returns
returns c =
    let rels = c.args.rels.now in
    let prop = c.args.prop.now in
    let arcs = c.args.arcs.now in
    let values = c.as_slice.result.now in
    IfOk-weaker c.picked.result (λ (p : List ℤ). p ≡ map (picked_value values) arcs) (λ (p : List ℤ). p ≡ map (arc_value (shown rels) prop) arcs)
    (λ p is. is ∙ picked-arcs rels prop values arcs (c.as_slice.ensures.value ∙ c.in_ok-values.ensures) (recursion_from_All (IsWithin (length rels)) arcs c.requires))
    c.picked.ensures
