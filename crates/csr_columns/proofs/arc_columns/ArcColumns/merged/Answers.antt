use Rattle.std.proofs.Common.{◌≡◌, ℕ, ◌<◌, ◌≤◌, ℤ, Bool, List, Option, Some, None, Bor, map, refl, sym, ◌∙◌, subst, arith}
use Rattle.std.specs.Option.{is_some, option_copied}
use Rattle.std.specs.List.{All}
use Rattle.std.proofs.lemmas.List.{length-map}
use Rattle.graph_model.specs.Projection.{most_arcs}
use Rattle.csr_columns.specs.Rows.{ArcRows}
use Rattle.csr_columns.specs.Merging.{HoldsRows, merged_row}
use Rattle.csr_columns.specs.Parts.{arcs_in_rows}
use Rattle.csr_columns.proofs.MergedRows.{AreRows-held, few-held, merged-below, shown-held}
use Rattle.csr_columns.proofs.arc_columns.ArcColumns.merged.Goals as goal

copied-some : {T : Type 0} (o : Option (Bor T)) → is_some o ≡ is_some (option_copied o)
copied-some None = refl
copied-some (Some x) = refl

pub invariant_of-result : goal.invariant_of-result
invariant_of-result c =
    let made = c.in_ok-rows.rows in
    let kept = c.args.kept.now in
    let rows : List (List (ℕ × ℤ)) = map (merged_row c.args.nodes c.args.places.now c.args.types.now) kept in
    let holds = subst (λ (b : Bool). HoldsRows b rows made.offsets.items made.targets.items made.weights.items) (c.is_some.ensures ∙ copied-some c.args.key) c.in_ok-rows.ensures in
    let below = subst (All (λ (target : ℕ). target < c.args.nodes)) (sym holds.to) (merged-below c.args.nodes c.args.places.now c.args.types.now kept c.requires.places) in
    rw (c.in_ok-keys.ensures, c.in_ok-columns.ensures)
    (AreRows-held rows made.offsets.items made.targets.items made.weights.items (option_copied c.args.key) c.args.nodes holds (length-map kept (merged_row c.args.nodes c.args.places.now c.args.types.now) ∙ c.requires.many) (omega arith) below)

pub returns-clause-rows : goal.returns-clause-rows
returns-clause-rows c =
    let made = c.in_ok-rows.rows in
    let rows : List (List (ℕ × ℤ)) = map (merged_row c.args.nodes c.args.places.now c.args.types.now) c.args.kept.now in
    let holds = subst (λ (b : Bool). HoldsRows b rows made.offsets.items made.targets.items made.weights.items) (c.is_some.ensures ∙ copied-some c.args.key) c.in_ok-rows.ensures in
    rw (c.in_ok-keys.ensures, c.in_ok-columns.ensures)
    (shown-held rows made.offsets.items made.targets.items made.weights.items (option_copied c.args.key) holds)

pub returns-clause-few : goal.returns-clause-few
returns-clause-few c =
    let made = c.in_ok-rows.rows in
    let rows : List (List (ℕ × ℤ)) = map (merged_row c.args.nodes c.args.places.now c.args.types.now) c.args.kept.now in
    let holds = subst (λ (b : Bool). HoldsRows b rows made.offsets.items made.targets.items made.weights.items) (c.is_some.ensures ∙ copied-some c.args.key) c.in_ok-rows.ensures in
    subst (λ (r : ArcRows). arcs_in_rows r ≤ most_arcs) (sym (returns-clause-rows c)) (few-held rows made.offsets.items made.targets.items made.weights.items (option_copied c.args.key) holds)
