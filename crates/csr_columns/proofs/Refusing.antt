-- Why a view is refused, told from the columns.
use Rattle.std.proofs.Common.{◌≡◌, ℕ, Bool, true, false, ◌&&◌, cond, List, [], ◌∷◌, map, Option, Some, None, refl, sym, ap, ◌∙◌}
use Rattle.std.specs.Option.{option_map}
use Rattle.std.specs.List.{list_all}
use Rattle.std.proofs.lemmas.Simd.{map-map}
use Rattle.std.proofs.lemmas.Bool.{cond-true, cond-false}
use Rattle.graph_model.specs.Lists.{first_there}
use Rattle.graph_model.specs.declared.graph.Choice.{Choice}
use Rattle.graph_model.specs.declared.graph.Choice.TheVariants.{All, Of}
use Rattle.graph_model.specs.declared.refusal.Refusal.{Refusal}
use Rattle.graph_model.specs.declared.refusal.Refusal.TheVariants.{NoSuchLabel, NoSuchType, NoSuchProperty}
use Rattle.graph_model.specs.View.{view_refusal, unknown_choice, missing_key, chosen_types, chooses_type, type_name, has_key, first_directed, is_undirected}
use Rattle.csr_columns.specs.Rows.{names_of}
use Rattle.csr_columns.specs.Parts.{kind_of}
use Rattle.csr_columns.specs.Plain.{plain, plain_type}
use Rattle.csr_columns.specs.Choosing.{chosen, chooses_kind, has_column, first_directed_kind}
use Rattle.csr_columns.specs.declared.parts.Parts.{Parts}
use Rattle.csr_columns.specs.declared.parts.TypeColumns.{TypeColumns}
use Rattle.csr_columns.proofs.Grouping.{filter-map}

-- a plain type is chosen where its columns are
chooses-plain : (choice : Choice) (ids : List ℕ) (type : TypeColumns) → chooses_type choice (plain_type ids type) ≡ chooses_kind choice type
chooses-plain All ids type = refl
chooses-plain (Of names) ids type = refl

-- the chosen plain types are those of the chosen columns
pub chosen_types-plain : (parts : Parts) (choice : Choice) → chosen_types (plain parts) choice ≡ map (plain_type parts.ids) (chosen choice parts.types)
chosen_types-plain parts choice =
    filter-map (chooses_type choice) (chooses_kind choice) (plain_type parts.ids) parts.types (chooses-plain choice parts.ids)

all-plain : (key : List ℕ) (ids : List ℕ) (types : List TypeColumns) → list_all (has_key key) (map (plain_type ids) types) ≡ list_all (has_column key) types
all-plain key ids [] = refl
all-plain key ids (type ∷ types) = ap (λ (b : Bool). has_column key type && b) (all-plain key ids types)

-- a weight key that some type lacks
abbrev pub lacking_key : List TypeColumns → Option (List ℕ) → Option (List ℕ)
lacking_key types None = None
lacking_key types (Some key) = cond (list_all (has_column key) types) None (Some key)

missing_key-plain : (ids : List ℕ) (types : List TypeColumns) (weight : Option (List ℕ)) → missing_key (map (plain_type ids) types) weight ≡ lacking_key types weight
missing_key-plain ids types None = refl
missing_key-plain ids types (Some key) = ap (λ (b : Bool). cond {A = Option (List ℕ)} b None (Some key)) (all-plain key ids types)

-- the first of three causes
abbrev pub first_cause : Option (List ℕ) → Option (List ℕ) → Option (List ℕ) → Option Refusal
first_cause label type key = first_there (option_map NoSuchLabel label) (first_there (option_map NoSuchType type) (option_map NoSuchProperty key))

pub view_refusal-columns : (parts : Parts) (labels types : Choice) (weight : Option (List ℕ)) → view_refusal (plain parts) labels types weight ≡ first_cause (unknown_choice (names_of parts.labels) labels) (unknown_choice (map kind_of parts.types) types) (lacking_key (chosen types parts.types) weight)
view_refusal-columns parts labels types weight =
    let label = unknown_choice (names_of parts.labels) labels in
    ap (λ (names : List (List ℕ)). first_cause label (unknown_choice names types) (missing_key (chosen_types (plain parts) types) weight)) (map-map type_name (plain_type parts.ids) parts.types)
    ∙ ap (λ (key : Option (List ℕ)). first_cause label (unknown_choice (map kind_of parts.types) types) key)
    (ap (λ ts. missing_key ts weight) (chosen_types-plain parts types) ∙ missing_key-plain parts.ids (chosen types parts.types) weight)

module _ (parts : Parts) (labels types : Choice) (weight : Option (List ℕ)) where
  pub refused-label : (name : List ℕ) → unknown_choice (names_of parts.labels) labels ≡ Some name → view_refusal (plain parts) labels types weight ≡ Some (NoSuchLabel name)
  refused-label name label =
      view_refusal-columns parts labels types weight
      ∙ ap (λ (l : Option (List ℕ)). first_cause l (unknown_choice (map kind_of parts.types) types) (lacking_key (chosen types parts.types) weight)) label

  pub refused-type : (name : List ℕ) → unknown_choice (names_of parts.labels) labels ≡ None → unknown_choice (map kind_of parts.types) types ≡ Some name → view_refusal (plain parts) labels types weight ≡ Some (NoSuchType name)
  refused-type name label type =
      view_refusal-columns parts labels types weight
      ∙ ap (λ (l : Option (List ℕ)). first_cause l (unknown_choice (map kind_of parts.types) types) (lacking_key (chosen types parts.types) weight)) label
      ∙ ap (λ (t : Option (List ℕ)). first_cause None t (lacking_key (chosen types parts.types) weight)) type

  pub refused-key : (key : Option (List ℕ)) → unknown_choice (names_of parts.labels) labels ≡ None → unknown_choice (map kind_of parts.types) types ≡ None → lacking_key (chosen types parts.types) weight ≡ key → view_refusal (plain parts) labels types weight ≡ option_map NoSuchProperty key
  refused-key key label type lacking =
      view_refusal-columns parts labels types weight
      ∙ ap (λ (l : Option (List ℕ)). first_cause l (unknown_choice (map kind_of parts.types) types) (lacking_key (chosen types parts.types) weight)) label
      ∙ ap (λ (t : Option (List ℕ)). first_cause None t (lacking_key (chosen types parts.types) weight)) type
      ∙ ap (λ (k : Option (List ℕ)). first_cause None None k) lacking

-- whether each chosen type has the weight key
pub lacking-some : (types : List TypeColumns) (key : List ℕ) → list_all (has_column key) types ≡ false → lacking_key types (Some key) ≡ Some key
lacking-some types key e = cond-false (list_all (has_column key) types) None (Some key) e

pub lacking-none : (types : List TypeColumns) (key : List ℕ) → list_all (has_column key) types ≡ true → lacking_key types (Some key) ≡ None
lacking-none types key e = cond-true (list_all (has_column key) types) None (Some key) e

-- the first type that isn't undirected
pub first_directed-plain : (ids : List ℕ) (types : List TypeColumns) → first_directed (map (plain_type ids) types) ≡ first_directed_kind types
first_directed-plain ids [] = refl
first_directed-plain ids (type ∷ types) = ap (λ (o : Option (List ℕ)). cond (is_undirected type.orientation) o (Some type.kind)) (first_directed-plain ids types)

-- where a view isn't refused, each chosen type has the weight key
pub key-there : (parts : Parts) (labels types : Choice) (key : List ℕ) → view_refusal (plain parts) labels types (Some key) ≡ None → list_all (has_column key) (chosen types parts.types) ≡ true
key-there parts labels types key none =
    told (list_all (has_column key) (chosen types parts.types))
    (last (unknown_choice (names_of parts.labels) labels) (unknown_choice (map kind_of parts.types) types) (lacking_key (chosen types parts.types) (Some key)) (sym (view_refusal-columns parts labels types (Some key)) ∙ none))
  where
    last : (l t k : Option (List ℕ)) → first_cause l t k ≡ None → k ≡ None
    last None None None h = refl
    last None None (Some k) h = absurd cc
    last None (Some t) k h = absurd cc
    last (Some l) t k h = absurd cc

    told : (b : Bool) → cond b None (Some key) ≡ None → b ≡ true
    told true h = refl
    told false h = absurd cc
