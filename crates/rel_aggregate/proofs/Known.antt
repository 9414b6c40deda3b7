-- Values over arcs, one arc after another.
use Rattle.std.proofs.Common.{◌≡◌, ℕ, ◌+◌, ◌<◌, ℤ, List, [], ◌∷◌, ◌++◌, length, get_or, take, Option, Some, None, refl, ap, ◌∙◌, append-nil, sym, option_to_list}
use Rattle.std.specs.List.{reduce, cons_option}
use Rattle.std.proofs.lemmas.List.{take_more}
use Rattle.std.proofs.lemmas.List.Elements.{filter_map-append}
use Rattle.std.proofs.lemmas.List.Sums.{fold_push}
use Rattle.projection_spec.specs.declared.arcs.RawArc.{RawArc}
use Rattle.projection_spec.specs.KeptArcs.{known_value, known_values}

-- a value beside what was made so far
reduce-joined : (f : ℤ → ℤ → ℤ) (xs : List ℤ) (value : Option ℤ) → reduce f (xs ++ cons_option value []) ≡ reduce f (option_to_list (reduce f xs) ++ option_to_list value)
reduce-joined f [] None = refl
reduce-joined f [] (Some x) = refl
reduce-joined f (y ∷ xs) None = rw (append-nil xs)
reduce-joined f (y ∷ xs) (Some x) = ap Some (fold_push f y xs x)

-- one more arc
pub known_more : (f : ℤ → ℤ → ℤ) (place : ℕ) (default : Option ℤ) (arcs : List RawArc) (i : ℕ) (arc : RawArc) → i < length arcs → arc ≡ get_or arcs i arc
    → reduce f (option_to_list (reduce f (known_values place default (take i arcs))) ++ option_to_list (known_value place default arc)) ≡ reduce f (known_values place default (take (i + 1) arcs))
known_more f place default arcs i arc inside is =
    sym (ap (λ xs. reduce f (known_values place default xs)) (take_more arcs i arc inside)
    ∙ ap (reduce f) (filter_map-append (known_value place default) (take i arcs) (get_or arcs i arc ∷ []))
    ∙ ap (λ a. reduce f (known_values place default (take i arcs) ++ cons_option (known_value place default a) [])) (sym is)
    ∙ reduce-joined f (known_values place default (take i arcs)) (known_value place default arc))
