-- Names that are in order are distinct, and so are the keys of an object.
use Rattle.std.proofs.Common.{◌≡◌, ℕ, ℤ, ◌<◌, length, arith, Bool, true, false, cond, List, [], ◌∷◌, map, Option, Some, None, String, string_bytes, string_cmp, Less, Equal, nat_cmp, refl, sym, ap, subst, ◌∙◌}
use Rattle.std.specs.List.{AllByRecursion}
use Rattle.std.specs.List.Sorted.{IsStrictlySortedBy}
use Rattle.std.specs.Map.{keys_of}
use Rattle.std.specs.declared.alloc.Global.{Global}
use Rattle.std.specs.Cmp.Lexicographic.{slice_cmp}
use Rattle.std.proofs.lemmas.Cmp.{nat_list_cmp_total, tied_itself}
use Rattle.serde_json.specs.View.{view, members_view}
use Rattle.serde_json.proofs.Views.{Entry}
use Rattle.graph_model.specs.declared.graph.Prop.{Prop}
use Rattle.graph_model.specs.Names.{is_name}
use Rattle.graph_model.specs.Lists.{Pairwise}
use Rattle.graph_model.specs.Change.{NamesDiffer, KeysDiffer}
use Rattle.json_forms.specs.Forms.{read_whole, before_others}
use Rattle.json_forms.specs.Elements.{prop_from, props_of, each_once}

-- a text that comes before another is another one
differ_by_order : (a b : List ℕ) → slice_cmp nat_cmp a b ≡ Less → NamesDiffer a b
differ_by_order a b less same =
    let tied : slice_cmp nat_cmp a b ≡ Equal = rw (← same) (tied_itself nat_list_cmp_total a) in
    cc

all_differ : (a : List ℕ) (names : List (List ℕ)) → AllByRecursion (λ b. slice_cmp nat_cmp a b ≡ Less) names → AllByRecursion (NamesDiffer a) names
all_differ a [] less = tt
all_differ a (b ∷ names) less = (differ_by_order a b less.0, all_differ a names less.1)

-- names that ascend are distinct
pub names_differ : (names : List (List ℕ)) → IsStrictlySortedBy (slice_cmp nat_cmp) names → Pairwise NamesDiffer names
unfolding IsStrictlySortedBy
names_differ [] ordered = tt
names_differ (a ∷ names) ordered = (all_differ a names ordered.0, names_differ names ordered.1)

-- the texts of an object's keys
abbrev key_texts : List Entry → List (List ℕ)
key_texts entries = map (λ (e : Entry). string_bytes e.0) entries

key_texts-differ : (a : String Global) (entries : List Entry) → AllByRecursion (λ b. string_cmp a b ≡ Less) (keys_of entries) → AllByRecursion (NamesDiffer (string_bytes a)) (key_texts entries)
key_texts-differ a [] less = tt
key_texts-differ a (e ∷ entries) less = (differ_by_order (string_bytes a) (string_bytes e.0) less.0, key_texts-differ a entries less.1)

object_keys-differ : (entries : List Entry) → IsStrictlySortedBy string_cmp (keys_of entries) → Pairwise NamesDiffer (key_texts entries)
unfolding IsStrictlySortedBy
object_keys-differ [] ordered = tt
object_keys-differ (e ∷ entries) ordered = (key_texts-differ e.0 entries ordered.0, object_keys-differ entries ordered.1)

-- values have these keys, where there are values
abbrev HaveKeys : Option (List Prop) → List (List ℕ) → Type 0
HaveKeys None keys = Unit {0}
HaveKeys (Some props) keys = map (λ (prop : Prop). prop.key) props ≡ keys

HaveKeys-one : (named : Bool) (key : List ℕ) (value : Option ℤ) (rest : Option (List Prop)) (keys : List (List ℕ)) → HaveKeys rest keys
    → HaveKeys (before_others (prop_from (cond named (Some key) None) value) rest) (key ∷ keys)
HaveKeys-one true key (Some value) (Some props) keys have = ap (λ ks. key ∷ ks) have
HaveKeys-one true key (Some value) None keys have = tt
HaveKeys-one true key None rest keys have = tt
HaveKeys-one false key value rest keys have = tt

HaveKeys-object : (entries : List Entry) → HaveKeys (props_of (members_view entries)) (key_texts entries)
HaveKeys-object [] = refl
HaveKeys-object (e ∷ entries) =
    HaveKeys-one (is_name (string_bytes e.0)) (string_bytes e.0) (read_whole (view e.1)) (props_of (members_view entries)) (key_texts entries) (HaveKeys-object entries)

all_keys_differ : (key : List ℕ) (props : List Prop) → AllByRecursion (NamesDiffer key) (map (λ (prop : Prop). prop.key) props) → (first : Prop) → first.key ≡ key → AllByRecursion (KeysDiffer first) props
all_keys_differ key [] differ first is = tt
all_keys_differ key (prop ∷ props) differ first is = ((λ same. differ.0 (sym is ∙ same)), all_keys_differ key props differ.1 first is)

keys_differ : (props : List Prop) → Pairwise NamesDiffer (map (λ (prop : Prop). prop.key) props) → Pairwise KeysDiffer props
keys_differ [] differ = tt
keys_differ (prop ∷ props) differ = (all_keys_differ prop.key props differ.0 prop refl, keys_differ props differ.1)

-- the values that an object gives have distinct keys
pub object_props-differ : (entries : List Entry) (props : List Prop) → props_of (members_view entries) ≡ Some props → IsStrictlySortedBy string_cmp (keys_of entries) → Pairwise KeysDiffer props
object_props-differ entries props is ordered =
    let have : HaveKeys (Some props) (key_texts entries) = subst (λ read. HaveKeys read (key_texts entries)) is (HaveKeys-object entries) in
    keys_differ props (subst (Pairwise NamesDiffer) (sym have) (object_keys-differ entries ordered))

-- a name alone is in order
pub few_once : (names : List (List ℕ)) → length names < 2 → names ≡ each_once names
few_once [] few = refl
few_once (name ∷ []) few = refl
few_once (name ∷ other ∷ names) few = absurd (omega arith)

pub few_differ : (names : List (List ℕ)) → length names < 2 → Pairwise NamesDiffer names
few_differ [] few = tt
few_differ (name ∷ []) few = (tt, tt)
few_differ (name ∷ other ∷ names) few = absurd (omega arith)
