-- The line of a node, written from its end to its front.
use Rattle.std.proofs.Common.{◌≡◌, ℕ, ◌+◌, ◌<◌, ◌≤◌, ◌^◌, List, ◌∷◌, ◌++◌, length, drop, decimal, codes, ap, sym, ◌∙◌, arith, append_assoc}
use Rattle.std.specs.Prelude.{slice_set}
use Rattle.std.proofs.lemmas.Fmt.{length-decimal-le}
use Rattle.std.proofs.lemmas.List.{drop-set, drop_all}
use Rattle.gds_session.specs.Ending.{line_of_degree}

-- a number has at most 20 digits
pub decimal_short : (n : ℕ) → n < 2 ^ 64 → length (decimal n) ≤ 20
decimal_short n small = length-decimal-le 20 n (omega arith) (omega arith) small

-- an LF at the end, the degree before it, a space before that, and the id before that make the line
pub line_written_back : (node degree start space end : ℕ) (empty second first : List ℕ) → end + 1 ≡ length empty → space < length second
    → drop (space + 1) second ≡ decimal degree ++ drop end (slice_set empty end 10)
    → drop start first ≡ decimal node ++ drop space (slice_set second space 32)
    → drop start first ≡ line_of_degree node degree
line_written_back node degree start space end empty second first last inside wrote_degree wrote_node =
    let feed : drop end (slice_set empty end 10) ≡ codes "\n" =
    drop-set empty end 10 (omega arith) ∙ ap (λ rest. 10 ∷ rest) (drop_all (end + 1) empty (omega arith)) in
    let back : drop space (slice_set second space 32) ≡ codes " " ++ (decimal degree ++ codes "\n") =
    drop-set second space 32 inside ∙ ap (λ rest. 32 ∷ rest) (wrote_degree ∙ ap (λ rest. decimal degree ++ rest) feed) in
    wrote_node ∙ ap (λ rest. decimal node ++ rest) back
    ∙ sym (append_assoc (decimal node ++ codes " ") (decimal degree) (codes "\n") ∙ append_assoc (decimal node) (codes " ") (decimal degree ++ codes "\n"))
