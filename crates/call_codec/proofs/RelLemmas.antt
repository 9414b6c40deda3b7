-- Relationships whose new ends lie below the number of new nodes.
use Rattle.std.proofs.Common.{◌≡◌, ℕ, Bool, true, false, List, [], ◌∷◌, refl}
use Rattle.std.specs.Prelude.{◌&&◌}
use Rattle.std.specs.List.{AllByRecursion, list_all}
use Rattle.std.proofs.lemmas.Bool.{ltb-true}
use Rattle.graph_model.specs.declared.change.NewRel.{NewRel}
use Rattle.graph_model.specs.declared.change.Place.{Place}
use Rattle.graph_model.specs.declared.change.Place.TheVariants.{Old, New}
use Rattle.graph_model.specs.Change.{IsPlaceBelow, IsDistinctRel}
use Rattle.json_forms.specs.Elements.{HasDistinctKeys}
use Rattle.call_codec.specs.Calls.{is_end_below, are_ends_below}

both_true : (a b : Bool) → (a && b) ≡ true → (a ≡ true) × (b ≡ true)
both_true true b both = (refl, both)
both_true false b both = cc

end_below : (count : ℕ) (end : Place) → is_end_below count end ≡ true → IsPlaceBelow count end
end_below count (Old id) below = tt
end_below count (New index) below = ltb-true index count below

pub rels_formed : (count : ℕ) (rels : List NewRel) → list_all (are_ends_below count) rels ≡ true → AllByRecursion HasDistinctKeys rels → AllByRecursion (IsDistinctRel count) rels
rels_formed count [] below distinct = tt
rels_formed count (rel ∷ rels) below distinct =
    let here = both_true (are_ends_below count rel) (list_all (are_ends_below count) rels) below in
    let ends = both_true (is_end_below count rel.source) (is_end_below count rel.target) here.0 in
    ((end_below count rel.source ends.0, end_below count rel.target ends.1, distinct.0), rels_formed count rels here.1 distinct.1)
