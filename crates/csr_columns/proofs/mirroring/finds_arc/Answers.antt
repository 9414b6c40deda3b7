use Rattle.std.proofs.Common.{◌+◌, ◌-◌, ◌<◌, length, arith}
use Rattle.csr_columns.proofs.Mirrored.{FindsArcs-more}
use Rattle.csr_columns.proofs.mirroring.finds_arc.Goals as goal

pub returns : goal.returns
returns c =
    let offsets = c.args.offsets.now in
    let targets = c.args.targets.now in
    let cuts = c.requires.cuts in
    let place_in : c.args.place < length targets = omega (arith, cuts.ascends (c.args.v + 1) (length offsets - 1) (omega (arith, c.requires.node)) (omega (arith, cuts.some)), cuts.last, c.requires.to) in
    λ yes.
    FindsArcs-more offsets targets cuts c.args.columns.now c.args.place c.args.cursors.now c.args.v c.requires.found c.requires.node c.requires.from c.requires.to (c.requires.below c.args.place 0 place_in)
    (omega (arith, c.if-cursor-targets.false)) (omega (arith, c.if-targets-cursor.false)) c.requires.beside
    (c.have_equal.ensures c.if-not-have_equal.false)
