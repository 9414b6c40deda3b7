-- Reading arcs line by line.
use Rattle.std.proofs.Common.{◌≡◌, ℕ, ◌+◌, ◌<◌, true, List, [], ◌∷◌, ◌++◌, length, Result, Ok, Err, Some, refl, ap, sym, ◌∙◌, arith, append_assoc, length-append, lt-ltb, ltb}
use Rattle.std.specs.List.{AllByRecursion}
use Rattle.gds_session.specs.OnceText.{most_arcs, arc_of, with_arc, arcs_of}
use Rattle.gds_session.specs.Reading.{with_arcs}

-- an arc before others, behind those in front
with_arcs-more : (front : List (ℕ × ℕ)) (arc : ℕ × ℕ) (number : ℕ) (read : Result (List (ℕ × ℕ)) ℕ)
    → with_arcs front (with_arc (Some arc) number read) ≡ with_arcs (front ++ arc ∷ []) read
with_arcs-more front arc number (Ok arcs) = ap Ok (sym (append_assoc front (arc ∷ []) arcs))
with_arcs-more front arc number (Err first) = refl

-- a line that says an arc, before others
arcs_of-line : (nodes number : ℕ) (line : List ℕ) (rest : List (List ℕ)) (arc : ℕ × ℕ) → number < most_arcs + 2 → arc_of nodes line ≡ Some arc
    → arcs_of nodes number (line ∷ rest) ≡ with_arc (Some arc) number (arcs_of nodes (number + 1) rest)
arcs_of-line nodes number line rest arc few says =
    let room : ltb number (most_arcs + 2) ≡ true = lt-ltb number (most_arcs + 2) few in
    rw (room, says) refl

-- one line more was read, and the arcs of the whole stay
pub with_arcs-line : (nodes : ℕ) (front : List (ℕ × ℕ)) (line : List ℕ) (rest : List (List ℕ)) (arc : ℕ × ℕ) (whole : Result (List (ℕ × ℕ)) ℕ)
    → length front < most_arcs → arc_of nodes line ≡ Some arc → with_arcs front (arcs_of nodes (length front + 2) (line ∷ rest)) ≡ whole
    → with_arcs (front ++ arc ∷ []) (arcs_of nodes (length (front ++ arc ∷ []) + 2) rest) ≡ whole
with_arcs-line nodes front line rest arc whole few says so_far =
    let next : length (front ++ arc ∷ []) + 2 ≡ length front + 2 + 1 = omega (arith, length-append front (arc ∷ [])) in
    ap (λ n. with_arcs (front ++ arc ∷ []) (arcs_of nodes n rest)) next
    ∙ sym (with_arcs-more front arc (length front + 2) (arcs_of nodes (length front + 2 + 1) rest))
    ∙ ap (with_arcs front) (sym (arcs_of-line nodes (length front + 2) line rest arc (omega arith) says)) ∙ so_far

-- what holds of each item and of one more
pub AllByRecursion-push : {A : Type 0} (P : A → Type 0) (xs : List A) (x : A) → AllByRecursion P xs → P x → AllByRecursion P (xs ++ x ∷ [])
AllByRecursion-push P [] x all here = (here, tt)
AllByRecursion-push P (y ∷ xs) x all here = (all.0, AllByRecursion-push P xs x all.1 here)
