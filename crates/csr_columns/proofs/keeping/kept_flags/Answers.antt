use Rattle.std.proofs.Common.{◌≡◌, ◌∙◌, length, arith}
use Rattle.std.specs.List.{zip}
use Rattle.csr_columns.proofs.Chosen.{all-kept, labelled-kept, take-front}
use Rattle.csr_columns.proofs.keeping.kept_flags.Goals as goal

pub returns-in_ok-all-in-All : goal.returns-in_ok-all-in-All
returns-in_ok-all-in-All c =
    rw c.in-All.is (all-kept (zip c.args.labels.now c.args.flags.now) c.args.nodes c.in_ok-all-in-All.all.items c.in_ok-all-in-All.ensures.len c.in_ok-all-in-All.ensures.same)

pub returns-in_ok-kept-in-Of : goal.returns-in_ok-kept-in-Of
returns-in_ok-kept-in-Of c =
    let long : length c.keep_labelled.new.kept ≡ c.args.nodes = omega (arith, c.in_ok-kept-in-Of.ensures.len) in
    rw c.in-Of.is
    (take-front c.in_ok-kept-in-Of.kept.len c.keep_labelled.new.kept _ (omega arith)
    ∙ labelled-kept _ (zip c.args.labels.now c.args.flags.now) c.args.nodes c.keep_labelled.new.kept long (rw c.as_slice.ensures.value at c.keep_labelled.ensures))
