-- Entries with other values under their names: what stands there, what is put in or goes, and why no graph can be kept.
use Rattle.std.proofs.Common.{◌≡◌, ℕ, true, false, cond, List, [], ◌∷◌, length, Option, Some, None, refl, ap, ◌∙◌, suc}
use Rattle.std.specs.Option.{option_map}
use Rattle.graph_model.specs.declared.refusal.Refusal.{Refusal}
use Rattle.graph_model.specs.Lists.{first_there}
use Rattle.graph_model.specs.Projection.{under}
use Rattle.user_catalog.specs.Catalog.{is_named, is_behind, inserted, removed, mapped, name_taken, graphs_spent, versions_spent, refused_graph}

-- what stands under a name is the other value of what stood there
pub under-mapped : {A B : Type 0} (f : A → B) (name : List ℕ) (entries : List (List ℕ × A)) → under name (mapped f entries) ≡ option_map f (under name entries)
under-mapped f name [] = refl
under-mapped f name (e ∷ entries) =
    elim (is_named name e) as (λ b. cond b (Some (f e.1)) (under name (mapped f entries)) ≡ option_map f (cond b (Some e.1) (under name entries))) [
      | true ↦ refl
      | false ↦ under-mapped f name entries
    ]

-- there are as many entries
pub length-mapped : {A B : Type 0} (f : A → B) (entries : List (List ℕ × A)) → length (mapped f entries) ≡ length entries
length-mapped f [] = refl
length-mapped f (e ∷ entries) = ap suc (length-mapped f entries)

-- an entry that is put in, before or after
pub inserted-mapped : {A B : Type 0} (f : A → B) (name : List ℕ) (a : A) (entries : List (List ℕ × A)) → mapped f (inserted name a entries) ≡ inserted name (f a) (mapped f entries)
inserted-mapped f name a [] = refl
inserted-mapped f name a (e ∷ entries) =
    elim (is_behind name e) as (λ b. mapped f (cond b ((name, a) ∷ e ∷ entries) (e ∷ inserted name a entries)) ≡ cond b ((name, f a) ∷ (e.0, f e.1) ∷ mapped f entries) ((e.0, f e.1) ∷ inserted name (f a) (mapped f entries))) [
      | true ↦ refl
      | false ↦ ap (λ rest. (e.0, f e.1) ∷ rest) (inserted-mapped f name a entries)
    ]

-- an entry that goes, before or after
pub removed-mapped : {A B : Type 0} (f : A → B) (name : List ℕ) (entries : List (List ℕ × A)) → mapped f (removed name entries) ≡ removed name (mapped f entries)
removed-mapped f name [] = refl
removed-mapped f name (e ∷ entries) =
    elim (is_named name e) as (λ b. mapped f (cond b entries (e ∷ removed name entries)) ≡ cond b (mapped f entries) ((e.0, f e.1) ∷ removed name (mapped f entries))) [
      | true ↦ refl
      | false ↦ ap (λ rest. (e.0, f e.1) ∷ rest) (removed-mapped f name entries)
    ]

-- a name is taken alike
pub name_taken-mapped : {A B : Type 0} (f : A → B) (name : List ℕ) (found : Option A) → name_taken name (option_map f found) ≡ name_taken name found
name_taken-mapped f name None = refl
name_taken-mapped f name (Some a) = refl

-- and no graph can be kept for the same cause
pub refused_graph-mapped : {A B : Type 0} (f : A → B) (name : List ℕ) (entries : List (List ℕ × A)) (last : ℕ) → refused_graph name (mapped f entries) last ≡ refused_graph name entries last
refused_graph-mapped f name entries last =
    ap (λ (taken : Option Refusal). first_there taken (first_there (graphs_spent (length (mapped f entries))) (versions_spent last)))
    (ap (name_taken name) (under-mapped f name entries) ∙ name_taken-mapped f name (under name entries))
    ∙ ap (λ (count : ℕ). first_there (name_taken name (under name entries)) (first_there (graphs_spent count) (versions_spent last))) (length-mapped f entries)
