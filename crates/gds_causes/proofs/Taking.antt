-- What is read or written, a piece after another.
use Rattle.std.proofs.Common.{◌≡◌, ℕ, ◌+◌, ◌-◌, List, ◌++◌, length, take, drop, Option, Some, None, append_assoc, sym, subst, arith}
use Rattle.std.proofs.lemmas.List.{length-drop, take_all, take-append-drop, drop-take, drop-drop, take-take}
use Rattle.std.proofs.Math.Seq.{take-append_seam}
use Rattle.std.specs.Io.KnownBytes.{Appends}

-- bytes that are appended after others are appended together
pub Appends-++ : (before mid after : Option (List ℕ)) (xs ys : List ℕ) → Appends before mid xs → Appends mid after ys → Appends before after (xs ++ ys)
Appends-++ None mid after xs ys first second = tt
Appends-++ (Some bytes) None after xs ys first second = absurd first
Appends-++ (Some bytes) (Some more) None xs ys first second = second
Appends-++ (Some bytes) (Some more) (Some most) xs ys first second = rw (second, first) (append_assoc bytes xs ys)

-- a front, and the front of what follows it
pub take-+ : {X : Type 0} (n m : ℕ) (xs : List X) → take n xs ++ take m (drop n xs) ≡ take (n + m) xs
take-+ n m xs =
    let front : take n (take (n + m) xs) ≡ take n xs = take-take n (n + m) xs (omega arith) in
    rw (← front, ← drop-take n m xs) (take-append-drop n (take (n + m) xs))

-- the rest of a slice, as `&bytes[n..]` reads it
pub rest-drop : {X : Type 0} (n : ℕ) (xs : List X) → take (length xs - n) (drop n xs) ≡ drop n xs
rest-drop n xs = take_all (length xs - n) (drop n xs) (omega (arith, length-drop n xs))

-- a piece of `&bytes[n..]` that was appended after a front makes a longer front
pub Appends-take : (before mid after : Option (List ℕ)) (bytes : List ℕ) (n m : ℕ) → Appends before mid (take n bytes) → Appends mid after (take m (take (length bytes - n) (drop n bytes))) → Appends before after (take (n + m) bytes)
Appends-take before mid after bytes n m first second =
    rw (← take-+ n m bytes) (Appends-++ before mid after _ _ first (rw (rest-drop n bytes) at second))

-- a buffer begins with the bytes that were put there, and what follows them is left
pub taken-put : (bytes given buffer : List ℕ) (at n : ℕ) → given ≡ take n (drop at bytes) → length given ≡ n → drop at bytes ≡ take n (given ++ drop n buffer) ++ drop (at + n) bytes
taken-put bytes given buffer at n same count =
    let seam : take n (given ++ drop n buffer) ≡ given = subst (λ (k : ℕ). take k (given ++ drop n buffer) ≡ given) count (take-append_seam given (drop n buffer)) in
    rw (seam, same, ← drop-drop n at bytes) (sym (take-append-drop n (drop at bytes)))
