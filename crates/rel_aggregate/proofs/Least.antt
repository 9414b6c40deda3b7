-- The first of arcs in order has the least relationship id.
use Rattle.std.proofs.Common.{◌≡◌, ℕ, ℤ, List, [], ◌∷◌, Option, Some, None, ltb, slice_get, unwrap_or, IfSome, refl, sym, ap, ◌∙◌, inl, inr, le-ltb}
use Rattle.std.specs.List.{AllByRecursion}
use Rattle.std.proofs.lemmas.Bool.{cases_Bool}
use Rattle.projection_spec.specs.declared.arcs.RawArc.{RawArc}
use Rattle.projection_spec.specs.KeptArcs.{lesser_arc, least_arc, known_value, single_value, missing}
use Rattle.rel_aggregate.specs.Groups.{RelInOrder, LeastFirst}

lesser_arc-above : (low : RawArc) (arc : RawArc) (other : Option RawArc) → RelInOrder low arc → IfSome other (RelInOrder low) → RelInOrder low (lesser_arc arc other)
lesser_arc-above low arc None first rest = first
lesser_arc-above low arc (Some other) first rest =
    elim (cases_Bool (ltb other.rel arc.rel)) [ inl is ↦ rw is rest | inr isnt ↦ rw isnt first ]

least_arc-above : (low : RawArc) (arcs : List RawArc) → AllByRecursion (RelInOrder low) arcs → IfSome (least_arc arcs) (RelInOrder low)
least_arc-above low [] h = tt
least_arc-above low (arc ∷ arcs) h = lesser_arc-above low arc (least_arc arcs) h.0 (least_arc-above low arcs h.1)

lesser_arc-first : (arc : RawArc) (other : Option RawArc) → IfSome other (RelInOrder arc) → lesser_arc arc other ≡ arc
lesser_arc-first arc None h = refl
lesser_arc-first arc (Some other) h = rw (le-ltb other.rel arc.rel h)

pub first_is_least : (arc : RawArc) (arcs : List RawArc) → LeastFirst (arc ∷ arcs) → lesser_arc arc (least_arc arcs) ≡ arc
first_is_least arc arcs h = lesser_arc-first arc (least_arc arcs) (least_arc-above arc arcs h)

-- so the single value of arcs in order is that of the first
pub single_value-first : (place : ℕ) (default : Option ℤ) (arcs : List RawArc) (arc : RawArc) → LeastFirst arcs → Some arc ≡ slice_get arcs 0 → unwrap_or (known_value place default arc) missing ≡ single_value place default arcs
single_value-first place default [] arc h e = absurd cc
single_value-first place default (first ∷ arcs) arc h e =
    let same : arc ≡ first = cc in
    ap (λ a. unwrap_or (known_value place default a) missing) (same ∙ sym (first_is_least first arcs h))
