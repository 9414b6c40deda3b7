use Rattle.std.proofs.Common.{◌≡◌, ◌∙◌, ap, subst, sym, List, length, map}
use Rattle.std.specs.List.{AllByRecursion}
use Rattle.projection_spec.specs.declared.arcs.RawArc.{RawArc}
use Rattle.projection_spec.specs.declared.entries.RelProp.{RelProp}
use Rattle.projection_spec.specs.Fields.{RelFields}
use Rattle.projected_arcs.specs.Flat.{raw_of}
use Rattle.projected_arcs.proofs.RelLemmas.{shown}
use Rattle.projected_arcs.proofs.KindLemmas.{raws-have_cells}
use Rattle.projected_arcs.proofs.grouped.grouped_arcs.Goals as goal

pub group-requires-clause-cells : goal.group-requires-clause-cells
group-requires-clause-cells c =
    let props = c.args.entry.now.props in
    subst (AllByRecursion (λ (arc : RawArc). length arc.cells ≡ length props)) (sym (c.as_slice-2.ensures.value ∙ c.in_ok-raws.ensures ∙ ap (λ (ps : List RelProp). map (raw_of (shown c.args.rels.now) ps) c.args.arcs.now) (c.as_slice.ensures.value ∙ ap (λ (f : RelFields). f.props) c.entry.view_is))) (raws-have_cells (shown c.args.rels.now) props c.args.arcs.now)
