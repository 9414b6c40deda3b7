use Rattle.std.proofs.Common.{◌≡◌, ℤ, w64, pos, to_z, to_z-of_z, ◌+◌, ◌∷◌, [], ◌++◌, List, take, sym, ap, subst, ◌∙◌, arith, rules}
use Rattle.std.proofs.lemmas.List.{take_all, take_more}
use Rattle.std.proofs.lemmas.List.Elements.{All-push}
use Rattle.csr_columns.specs.Mirror.{HasEqual}
use Rattle.csr_columns.proofs.mirroring.have_equal.Goals as goal

pub loop-column-preserved : goal.loop-column-preserved
loop-column-preserved c =
    let columns = c.args.columns.now in
    let i = c.loop-column.column-index in
    let column = c.column-item.result in
    let more : take (i + 1) columns ≡ take i columns ++ column ∷ [] = take_more columns i column (omega arith) ∙ ap (λ (x : List ℤ). take i columns ++ x ∷ []) (sym c.column-item.is) in
    let same : c.item.result ≡ c.item-in-loop-column.result =
    sym (to_z-of_z {w = w64} {z = c.item.result} (search rules)) ∙ ap (to_z w64) c.if-item.false ∙ to_z-of_z {w = w64} {z = c.item-in-loop-column.result} (search rules) in
    let equal : HasEqual c.args.a c.args.b column =
    subst (HasEqual c.args.a c.args.b) c.as_slice-values.ensures.value (sym (c.item.ensures (pos 0)) ∙ same ∙ c.item-in-loop-column.ensures (pos 0)) in
    rw more (All-push (HasEqual c.args.a c.args.b) (take i columns) column c.loop-column.invariant equal)

pub returns : goal.returns
returns c = λ yes. rw (← take_all c.loop-column.column-index c.args.columns.now (omega arith)) c.loop-column.invariant
