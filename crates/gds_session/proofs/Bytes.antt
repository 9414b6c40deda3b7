-- What a sink took, one piece after another.
use Rattle.std.proofs.Common.{◌≡◌, ℕ, ◌+◌, ◌<◌, ◌≤◌, List, [], ◌∷◌, ◌++◌, length, take, drop, Option, Some, None, Result, Ok, Err, OnErr, refl, ap, sym, ◌∙◌, arith, append_assoc, append-nil, length-append, drop-cons, add-one}
use Rattle.std.proofs.lemmas.List.{take-append-le, take-append-drop}
use Rattle.std.proofs.Math.Seq.{take-append-add}
use Rattle.std.specs.Io.KnownBytes.{Appends}
use Rattle.gds_causes.specs.Front.{AppendsFront}
use Rattle.gds_session.specs.Ending.{WroteFront, line_of_degree, lines_of_rows}
use Rattle.csr_columns.specs.Rows.{row_at}

-- one piece after another
pub Appends-more : (a b c : Option (List ℕ)) (xs ys : List ℕ) → Appends a b xs → Appends b c ys → Appends a c (xs ++ ys)
Appends-more None b c xs ys first second = tt
Appends-more (Some x) None c xs ys first second = absurd first
Appends-more (Some x) (Some y) None xs ys first second = absurd second
Appends-more (Some x) (Some y) (Some z) xs ys first second = second ∙ ap (λ s. s ++ ys) first ∙ append_assoc x xs ys

-- nothing was taken
pub Appends-nothing : (a : Option (List ℕ)) → Appends a a []
Appends-nothing None = tt
Appends-nothing (Some x) = sym (append-nil x)

-- a front of a whole text: what was written, and a front of the piece after it
pub front_of : (a b c : Option (List ℕ)) (written piece rest whole : List ℕ) → Appends a b written → AppendsFront b c piece
    → (written ++ piece) ++ rest ≡ whole → AppendsFront a c whole
front_of a b c written piece rest whole first second is =
    let n = second.0 in
    let regrouped = ap (take (length written + n)) (sym is ∙ append_assoc written piece rest) in
    let front : take (length written + n) whole ≡ written ++ take n piece =
    regrouped ∙ take-append-add written (piece ++ rest) n ∙ ap (λ s. written ++ s) (take-append-le n piece rest second.1) in
    let fits : length written + n ≤ length whole =
    omega (arith, second.1, length-append (written ++ piece) rest, length-append written piece, ap length is) in
    (length written + n, fits, rw front (Appends-more a b c written (take n piece) first second.2))

-- a front of a whole text: what was written
pub front_written : (a b : Option (List ℕ)) (written piece rest whole : List ℕ) → Appends a b written
    → (written ++ piece) ++ rest ≡ whole → AppendsFront a b whole
front_written a b written piece rest whole first is = front_of a b b written piece rest whole first (0, omega arith, Appends-nothing b) is

-- the lines of the nodes from one on: its own, and then those of the next ones
lines_of_rows-drop : (node : ℕ) (rows : List (List ℕ)) → node < length rows
    → lines_of_rows node (drop node rows) ≡ line_of_degree node (length (row_at rows node)) ++ lines_of_rows (node + 1) (drop (node + 1) rows)
lines_of_rows-drop node rows inside =
    let first : drop node rows ≡ row_at rows node ∷ drop (node + 1) rows = rw (add-one, drop-cons rows node []) refl in
    ap (lines_of_rows node) first

-- the line of one node more was put behind what waits
pub line_waits : (written text : List ℕ) (node : ℕ) (rows : List (List ℕ)) (whole more : List ℕ) → node < length rows
    → (written ++ text) ++ lines_of_rows node (drop node rows) ≡ whole
    → more ≡ text ++ line_of_degree node (length (row_at rows node))
    → (written ++ more) ++ lines_of_rows (node + 1) (drop (node + 1) rows) ≡ whole
line_waits written text node rows whole more inside is put =
    let line = line_of_degree node (length (row_at rows node)) in
    let later = lines_of_rows (node + 1) (drop (node + 1) rows) in
    ap (λ s. (written ++ s) ++ later) put ∙ ap (λ s. s ++ later) (sym (append_assoc written text line))
    ∙ append_assoc (written ++ text) line later ∙ ap (λ s. (written ++ text) ++ s) (sym (lines_of_rows-drop node rows inside)) ∙ is

-- a piece of what waits was written
pub piece_written : (written more piece rest later whole : List ℕ) → (written ++ more) ++ later ≡ whole → more ≡ piece ++ rest
    → ((written ++ piece) ++ rest) ++ later ≡ whole
piece_written written more piece rest later whole is parts =
    ap (λ s. s ++ later) (append_assoc written piece rest ∙ ap (λ s. written ++ s) (sym parts)) ∙ is

-- what follows from what stands after an Err
pub OnErr-map : {T E : Type 0} {P Q : Type 0} (r : Result T E) → (P → Q) → OnErr r P → OnErr r Q
OnErr-map (Ok x) f h = tt
OnErr-map (Err e) f h = f h

-- what was written is a front of the text that an input makes
pub wrote_front : (before after : Option (List ℕ)) (made : Result (List ℕ) ℕ) (text : List ℕ) → made ≡ Ok text → AppendsFront before after text
    → (written : List ℕ) × Appends before after written × WroteFront made written
wrote_front before after made text is front =
    (take front.0 text, front.2, (text, drop front.0 text, is, sym (take-append-drop front.0 text)))
