-- Rules that fit their entry.
use Rattle.std.proofs.Common.{◌≡◌, ◌≢◌, ℕ, Bool, true, false, List, [], ◌∷◌, map, Option, Some, None, refl, sym, ◌∙◌, ap, true≢false}
use Rattle.std.specs.Prelude.{◌||◌, ◌&&◌, is_some}
use Rattle.std.specs.Option.{option_map_or}
use Rattle.std.specs.List.{list_any, list_all}
use Rattle.projection_spec.specs.declared.entries.Rule.{Rule}
use Rattle.projection_spec.specs.declared.entries.Rule.TheVariants.{Keep, Single, Count, Min, Max, Sum}
use Rattle.projection_spec.specs.declared.written.WrittenProp.{WrittenProp}
use Rattle.projection_spec.specs.declared.written.WrittenEntry.{WrittenEntry}
use Rattle.projection_spec.specs.Fields.{FitsGroups, FitsStore, HasFittingRules}
use Rattle.projection_spec.specs.Written.{rule_in, is_count, has_source, HasSources}
use Rattle.projection_spec.specs.Projected.{is_keep, is_grouping, some_rule, is_grouped, is_mixed, settled_prop}

or_false : (a b : Bool) → (a || b) ≡ false → (a ≡ false) × (b ≡ false)
or_false true b h = absurd (true≢false h)
or_false false b h = (refl, h)

and_true : (a b : Bool) → (a && b) ≡ true → (a ≡ true) × (b ≡ true)
and_true true b h = (refl, h)
and_true false b h = absurd (true≢false (sym h))

not_keep : (rule : Rule) → is_keep rule ≡ false → rule ≢ Keep
not_keep rule h e = true≢false (sym (ap is_keep e) ∙ h)

no_groups : (rule : Rule) → is_grouping rule ≡ false → rule ≡ Keep
no_groups Keep h = refl
no_groups Single h = absurd (true≢false h)
no_groups Count h = absurd (true≢false h)
no_groups Min h = absurd (true≢false h)
no_groups Max h = absurd (true≢false h)
no_groups Sum h = absurd (true≢false h)

counts : (rule : Rule) → is_count rule ≡ true → rule ≡ Count
counts Count h = refl
counts Keep h = absurd (true≢false (sym h))
counts Single h = absurd (true≢false (sym h))
counts Min h = absurd (true≢false (sym h))
counts Max h = absurd (true≢false (sym h))
counts Sum h = absurd (true≢false (sym h))

fits_store : (store : Option (List ℕ)) (rule : Rule) → (is_some store || is_count rule) ≡ true → FitsStore store rule
fits_store None rule h = counts rule h
fits_store (Some key) rule h = tt

-- the test of rules that stand in no such entry
abbrev if_other : Bool → Rule → Bool
if_other true = is_keep
if_other false = is_grouping

-- keys none of which has a rule of the other kind fit
fit_all : (grouped : Bool) (aggregation : Option Rule) (props : List WrittenProp)
    → ((rule : Rule) → (if_other grouped rule ≡ false) → FitsGroups grouped rule)
    → list_any (if_other grouped) (map (rule_in aggregation) props) ≡ false
    → list_all (has_source aggregation) props ≡ true
    → HasFittingRules grouped (map (settled_prop aggregation) props)
fit_all grouped aggregation [] fits none sources = tt
fit_all grouped aggregation (prop ∷ props) fits none sources =
    let here = or_false (if_other grouped (rule_in aggregation prop)) (list_any (if_other grouped) (map (rule_in aggregation) props)) none in
    let source = and_true (has_source aggregation prop) (list_all (has_source aggregation) props) sources in
    ((fits (rule_in aggregation prop) here.0, fits_store prop.store (rule_in aggregation prop) source.0), fit_all grouped aggregation props fits here.1 source.1)

-- the rules of an entry that isn't mixed fit
pub rules_fit : (entry : WrittenEntry) → HasSources entry → is_mixed entry ≡ false
    → HasFittingRules (is_grouped entry) (map (settled_prop entry.aggregation) entry.props)
rules_fit entry sources unmixed = go (is_grouped entry) refl unmixed
  where
    go : (grouped : Bool) → is_grouped entry ≡ grouped → (grouped && some_rule is_keep entry) ≡ false
        → HasFittingRules grouped (map (settled_prop entry.aggregation) entry.props)
    go true e h =
        fit_all true entry.aggregation entry.props not_keep
        (or_false (option_map_or is_keep entry.aggregation false) (list_any is_keep (map (rule_in entry.aggregation) entry.props)) h).1 sources
    go false e h =
        fit_all false entry.aggregation entry.props no_groups
        (or_false (option_map_or is_grouping entry.aggregation false) (list_any is_grouping (map (rule_in entry.aggregation) entry.props)) e).1 sources
