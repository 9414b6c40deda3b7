-- Arcs that are each kept, read from their relationships.
use Rattle.std.proofs.Common.{◌≡◌, ℕ, ◌+◌, ℤ, false, List, [], ◌∷◌, ◌++◌, length, map, get_or, Option, Some, None, Result, Ok, Err, unwrap_or, refl, sym, ap, ◌∙◌}
use Rattle.std.specs.List.{AllByRecursion}
use Rattle.std.specs.Option.{option_or}
use Rattle.graph_model.specs.declared.graph.Prop.{Prop}
use Rattle.graph_model.specs.declared.graph.Rel.{Rel}
use Rattle.graph_model.specs.declared.refusal.Refusal.{Refusal}
use Rattle.graph_model.specs.Projection.{ProjectedArc, ProjectedType}
use Rattle.projection_spec.specs.declared.arcs.RawArc.{RawArc}
use Rattle.projection_spec.specs.declared.arcs.Grouped.{Grouped}
use Rattle.projection_spec.specs.declared.entries.Rule.{Rule}
use Rattle.projection_spec.specs.declared.entries.Rule.TheVariants.{Keep}
use Rattle.projection_spec.specs.declared.entries.RelProp.{RelProp}
use Rattle.projection_spec.specs.Fields.{HasFittingRule}
use Rattle.projection_spec.specs.RawArcs.{stored_cell, cells_of}
use Rattle.projection_spec.specs.KeptArcs.{SumOut, alone, missing, single_value, rule_value, with_value, group_values, kept_arc, with_kept, kept_groups}
use Rattle.projected_arcs.specs.declared.flat.FlatArc.{FlatArc}
use Rattle.projected_arcs.specs.Flat.{rel_of, raw_of, kept_value}
use Rattle.projected_arcs.proofs.ListLemmas.{at-middle, length-push, push-front}

-- the value of one arc whose cell at a place is this
single-alone : (arc : RawArc) (place : ℕ) (default cell : Option ℤ) → get_or arc.cells place None ≡ cell → single_value place default (arc ∷ []) ≡ unwrap_or (option_or cell default) missing
single-alone arc place default cell is = ap (λ c. unwrap_or (option_or c default) missing) is

-- the values of one arc, where each arc is kept
values-alone : (front : List (Option ℤ)) (own : List Prop) (props : List RelProp) (arc : RawArc) → arc.cells ≡ front ++ cells_of own props → AllByRecursion (HasFittingRule false) props
    → group_values (length front) props (arc ∷ []) ≡ Ok (map (kept_value own) props)
values-alone front own [] arc cells fits = refl
values-alone front own (prop ∷ props) arc cells fits =
    let cell = stored_cell own prop.store in
    let here : get_or arc.cells (length front) None ≡ cell = ap (λ cs. get_or cs (length front) None) cells ∙ at-middle front cell (cells_of own props) None in
    let value : rule_value prop.rule (length front) prop (arc ∷ []) ≡ Some (kept_value own prop) =
    ap (λ rule. rule_value rule (length front) prop (arc ∷ [])) fits.0.0 ∙ ap Some (single-alone arc (length front) prop.default cell here) in
    let others : group_values (length front + 1) props (arc ∷ []) ≡ Ok (map (kept_value own) props) =
    ap (λ n. group_values n props (arc ∷ [])) (sym (length-push front cell))
    ∙ values-alone (front ++ cell ∷ []) own props arc (cells ∙ sym (push-front front cell (cells_of own props))) fits.1 in
    ap (λ v. with_value prop.key v (group_values (length front + 1) props (arc ∷ []))) value
    ∙ ap (λ vs. with_value prop.key (Some (kept_value own prop)) vs) others

-- the arc that is kept of a flat arc
abbrev pub kept_of : List Rel → List RelProp → FlatArc → Grouped
kept_of rels props arc = record {
  source = arc.source;
  target = arc.target;
  rel = (rel_of rels arc).id;
  values = map (kept_value (rel_of rels arc).props) props;
}

-- each arc is kept
pub kept-alone : (rels : List Rel) (props : List RelProp) (arcs : List FlatArc) → AllByRecursion (HasFittingRule false) props
    → kept_groups props (map alone (map (raw_of rels props) arcs)) ≡ Ok (map (kept_of rels props) arcs)
kept-alone rels props [] fits = refl
kept-alone rels props (arc ∷ arcs) fits =
    let raw = raw_of rels props arc in
    let first : kept_arc (alone raw) (group_values 0 props (raw ∷ [])) ≡ Ok (kept_of rels props arc) =
    ap (λ vs. kept_arc (alone raw) vs) (values-alone [] (rel_of rels arc).props props raw refl fits) in
    ap (λ k. with_kept k (kept_groups props (map alone (map (raw_of rels props) arcs)))) first
    ∙ ap (λ ks. with_kept (Ok (kept_of rels props arc)) ks) (kept-alone rels props arcs fits)
