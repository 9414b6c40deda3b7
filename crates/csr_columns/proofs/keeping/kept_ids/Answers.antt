use Rattle.std.proofs.Common.{◌+◌, ℕ, false, List, ◌++◌, ◌∷◌, [], get_or, drop, sym, ap, ◌∙◌, append_assoc, arith}
use Rattle.std.proofs.lemmas.Bool.{cond-true, cond-false}
use Rattle.csr_columns.specs.Keeping.{kept_of}
use Rattle.csr_columns.proofs.Chosen.{kept_of-more}
use Rattle.csr_columns.proofs.keeping.kept_ids.Goals as goal
use Rattle.csr_columns.proofs.keeping.kept_ids.Goals.{then-kept-v+in_ok-push, else-kept-v}

pub loop-v-preserved : goal.loop-v-preserved
loop-v-preserved c =
    let kept = c.args.kept.now in
    let ids = c.args.ids.now in
    let v = c.loop-v.v in
    let so_far = c.loop-v.list.items in
    let id : ℕ = get_or ids v 0 in
    let rest : List ℕ = kept_of (drop (v + 1) kept) (drop (v + 1) ids) in
    let more = kept_of-more kept ids v (omega arith) c.requires in
    elim c.if-kept-v.branch [
      | then-kept-v+in_ok-push w ↦
          rw (w.list-is, w.in_ok-push.ensures.items)
          (append_assoc so_far (id ∷ []) rest
          ∙ ap (λ (xs : List ℕ). so_far ++ xs) (sym (more ∙ cond-true (get_or kept v false) (id ∷ rest) rest w.if-kept-v.true))
          ∙ c.loop-v.invariant)
      | else-kept-v w ↦
          rw w.list-is
          (ap (λ (xs : List ℕ). so_far ++ xs) (sym (more ∙ cond-false (get_or kept v false) (id ∷ rest) rest w.if-kept-v.false))
          ∙ c.loop-v.invariant)
    ]
