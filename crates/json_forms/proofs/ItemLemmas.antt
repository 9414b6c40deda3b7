-- Items that are read one by one.
use Rattle.std.proofs.Common.{◌≡◌, ℕ, List, [], ◌∷◌, ◌++◌, Option, Some, None, ◌<◌, ◌≤◌, length, refl, sym, ap, append_assoc, arith}
use Rattle.graph_model.specs.declared.graph.Choice.{Choice}
use Rattle.graph_model.specs.declared.graph.Choice.TheVariants.{All, Of}
use Rattle.serde_json.specs.View.{items_view}
use Rattle.serde_json.specs.declared.value.Value.{Value}
use Rattle.json_forms.specs.Forms.{before_others, with_chosen, pair_of}

-- items behind others that are there already, where all are there
abbrev pub behind : {A : Type 0} → List A → Option (List A) → Option (List A)
behind front None = None
behind front (Some rest) = Some (front ++ rest)

pub behind_one : {A : Type 0} (front : List A) (x : A) (rest : Option (List A)) → behind front (before_others (Some x) rest) ≡ behind (front ++ x ∷ []) rest
behind_one front x None = refl
behind_one front x (Some rest) = ap Some (sym (append_assoc front (x ∷ []) rest))

-- names behind others that were chosen already
abbrev pub with_names : List (List ℕ) → Choice → Choice
with_names front All = All
with_names front (Of names) = Of (front ++ names)

pub with_names-one : (front : List (List ℕ)) (name : List ℕ) (choice : Choice) → with_names front (with_chosen (Some name) choice) ≡ with_names (front ++ name ∷ []) choice
with_names-one front name All = refl
with_names-one front name (Of names) = ap Of (sym (append_assoc front (name ∷ []) names))

pub with_names-none : (choice : Choice) → with_names [] choice ≡ choice
with_names-none All = refl
with_names-none (Of names) = refl

-- fewer or more than two items are no pair
pub no_pair_below : (vs : List Value) → length vs < 2 → pair_of (items_view vs) ≡ None
no_pair_below [] few = refl
no_pair_below (v ∷ []) few = refl
no_pair_below (v ∷ w ∷ vs) few = absurd (omega arith)

pub no_pair_above : (vs : List Value) → 3 ≤ length vs → pair_of (items_view vs) ≡ None
no_pair_above [] many = absurd (omega arith)
no_pair_above (v ∷ []) many = absurd (omega arith)
no_pair_above (v ∷ w ∷ []) many = absurd (omega arith)
no_pair_above (v ∷ w ∷ x ∷ vs) many = refl
