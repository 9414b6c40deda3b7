-- What is made of a list, one item after another: what is made so far, and what the rest makes.
use Rattle.std.proofs.Common.{◌≡◌, ℕ, zero, suc, ◌<◌, ◌≤◌, ℤ, List, [], ◌∷◌, ◌++◌, length, get_or, drop, Result, Ok, Err, refl, sym, ap, ◌∙◌, arith, append_assoc, append-nil, drop_of_length-le}
use Rattle.projection_spec.specs.declared.arcs.RawArc.{RawArc}
use Rattle.projection_spec.specs.declared.arcs.Grouped.{Grouped}
use Rattle.projection_spec.specs.declared.entries.RelProp.{RelProp}
use Rattle.projection_spec.specs.KeptArcs.{ArcGroup, SumOut, group_values, kept_arc, with_kept, kept_groups}
use Rattle.graph_model.specs.Lists.{Pairwise}
use Rattle.rel_aggregate.specs.Groups.{LeastFirst, group_from}
use Rattle.rel_aggregate.proofs.Least.{first_is_least}

-- what is made so far, before what the rest makes
abbrev pub onto : {A E : Type 0} → List A → Result (List A) E → Result (List A) E
onto made (Ok rest) = Ok (made ++ rest)
onto made (Err e) = Err e

-- with no key left, the values are all
pub values_all : (values : List ℤ) (place : ℕ) (props : List RelProp) (arcs : List RawArc) → length props ≤ place → onto values (group_values place (drop place props) arcs) ≡ group_values 0 props arcs → group_values 0 props arcs ≡ Ok values
values_all values place props arcs past so_far =
    sym so_far ∙ ap (λ list. onto values (group_values place list arcs)) (drop_of_length-le props past) ∙ ap Ok (append-nil values)

-- the arc that arcs become has the ends and the id of the first
pub kept_arc-first : (arcs : List RawArc) (first : RawArc) (values : List ℤ) → 0 < length arcs → first ≡ get_or arcs 0 first → LeastFirst arcs
    → kept_arc (group_from arcs) (Ok values) ≡ Ok (record { source = first.source; target = first.target; rel = first.rel; values = values })
kept_arc-first [] first values some is order = absurd (omega (arith, some))
kept_arc-first (arc ∷ arcs) first values some is order = rw (first_is_least arc arcs order, is)

group_from-arcs : (arcs : List RawArc) → (group_from arcs).arcs ≡ arcs
group_from-arcs [] = refl
group_from-arcs (arc ∷ arcs) = refl

onto-kept : (kept : List Grouped) (arc : Grouped) (rest : Result (List Grouped) SumOut) → onto (kept ++ arc ∷ []) rest ≡ onto kept (with_kept (Ok arc) rest)
onto-kept kept arc (Ok more) = ap Ok (append_assoc kept (arc ∷ []) more)
onto-kept kept arc (Err out) = refl

-- one more group
pub group_step : (kept : List Grouped) (props : List RelProp) (arcs : List RawArc) (groups : List ArcGroup) (arc : Grouped) → kept_arc (group_from arcs) (group_values 0 props arcs) ≡ Ok arc
    → onto (kept ++ arc ∷ []) (kept_groups props groups) ≡ onto kept (kept_groups props (group_from arcs ∷ groups))
group_step kept props arcs groups arc known =
    rw (group_from-arcs arcs, known) (onto-kept kept arc (kept_groups props groups))

pub Pairwise-drop : {A : Type 0} (R : A → A → Type 0) (count : ℕ) (xs : List A) → Pairwise R xs → Pairwise R (drop count xs)
Pairwise-drop R zero xs h = h
Pairwise-drop R (suc count) [] h = h
Pairwise-drop R (suc count) (x ∷ xs) h = Pairwise-drop R count xs h.1
