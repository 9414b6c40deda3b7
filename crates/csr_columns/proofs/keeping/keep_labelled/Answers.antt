use Rattle.std.proofs.Common.{◌+◌, ◌<◌, Bool, [], ◌||◌, false, length, get_or, sym, ap, ◌∙◌, arith}
use Rattle.csr_columns.proofs.Chosen.{any_label, kept-among, kept-other, same_default}
use Rattle.csr_columns.proofs.keeping.keep_labelled.Goals as goal
use Rattle.csr_columns.proofs.keeping.keep_labelled.Goals.{then-is_among, else-is_among}

pub loop-place-preserved : goal.loop-place-preserved
loop-place-preserved c =
    let names = c.args.names.now in
    let labels = c.args.labels.now in
    let flags = c.args.flags.now in
    let i = c.loop-place.place in
    let label = c.index-labels-place.result in
    elim c.if-is_among.branch [
      | then-is_among w ↦
          let column = w.index-flags-place.result in
          let done = rw (w.as_slice.ensures.value, w.get.ensures) at w.keep_flagged.ensures in
          rw w.kept-is
          (λ v h.
          ap (λ (b : Bool). b || any_label names labels flags (i + 1) v) (done v h)
          ∙ kept-among names labels flags i v label column (omega arith) c.requires.named c.index-labels-place.is w.index-flags-place.is _ (get_or c.loop-place.kept v false) (sym c.is_among.ensures ∙ w.if-is_among.true) (c.loop-place.invariant v (omega arith)))
      | else-is_among w ↦
          let column = get_or flags i [] in
          let in_flags : i < length flags = omega arith in
          rw w.kept-is
          (λ v h.
          kept-other names labels flags i v label column (omega arith) c.requires.named c.index-labels-place.is (same_default flags i [] column in_flags) _ (get_or c.loop-place.kept v false) (sym c.is_among.ensures ∙ w.if-is_among.false) (c.loop-place.invariant v h))
    ]
