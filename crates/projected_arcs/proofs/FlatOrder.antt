-- The order of flat arcs.
use Rattle.std.proofs.Common.{◌≡◌, false, List, refl, ap, ◌∙◌, sym, true≢false}
use Rattle.std.proofs.lemmas.Cmp.{nat_cmp_total, on_total, then_total}
use Rattle.std.specs.Cmp.{IsTotalOrder}
use Rattle.std.proofs.lemmas.Map.Lookups.{exact_unsigned}
use Rattle.std.specs.Ordering.{nat_cmp, ordering_then, is_eq}
use Rattle.std.specs.declared.cmp.Ordering.{Ordering}
use Rattle.std.specs.declared.cmp.Ordering.TheVariants.{Less, Equal, Greater}
use Rattle.std.specs.List.Sorted.{IsPermutation, IsSorted}
use Rattle.graph_model.specs.Lists.{Pairwise, in_order}
use Rattle.projected_arcs.specs.declared.flat.FlatArc.{FlatArc}
use Rattle.projected_arcs.specs.Flat.{flat_cmp, flat_before}
use Rattle.projected_arcs.proofs.Sorting.{sorted-in_order, in_order-ascends}

flat_total : IsTotalOrder flat_cmp
flat_total = then_total (on_total (λ (arc : FlatArc). arc.source) nat_cmp_total) (then_total (on_total (λ (arc : FlatArc). arc.target) nat_cmp_total) (on_total (λ (arc : FlatArc). arc.place) nat_cmp_total))

both-equal : (r s : Ordering) → ordering_then r s ≡ Equal → (r ≡ Equal) × (s ≡ Equal)
both-equal Less s is = absurd (true≢false (sym (ap is_eq is)))
both-equal Equal s is = (refl, is)
both-equal Greater s is = absurd (true≢false (sym (ap is_eq is)))

-- arcs that compare as equal are equal
flat_apart : (x y : FlatArc) → flat_cmp x y ≡ Equal → x ≡ y
flat_apart x y is =
    let outer = both-equal (nat_cmp x.source y.source) (ordering_then (nat_cmp x.target y.target) (nat_cmp x.place y.place)) is in
    let inner = both-equal (nat_cmp x.target y.target) (nat_cmp x.place y.place) outer.1 in
    ap (λ n. record { source = n; target = x.target; place = x.place }) (exact_unsigned x.source y.source outer.0)
    ∙ ap (λ n. record { source = y.source; target = n; place = x.place }) (exact_unsigned x.target y.target inner.0)
    ∙ ap (λ n. record { source = y.source; target = y.target; place = n }) (exact_unsigned x.place y.place inner.1)

-- sorted arcs are the arcs in order
pub sorted-flat : (xs ys : List FlatArc) → IsPermutation xs ys → IsSorted flat_cmp ys → ys ≡ in_order flat_before xs
sorted-flat xs ys moved up = sorted-in_order flat_total flat_apart xs ys moved up

-- of arcs in order, none comes before an earlier one
pub flat-ascends : (xs : List FlatArc) → Pairwise (λ a b. flat_before b a ≡ false) (in_order flat_before xs)
flat-ascends xs = in_order-ascends flat_total flat_apart xs
