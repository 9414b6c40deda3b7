use Rattle.std.proofs.Common.{◌≡◌, ℕ, ◌-◌, length, ap, slice_index, subst, ◌∙◌, arith}
use Rattle.csr_columns.specs.Mirror.{FindsArcs}
use Rattle.csr_columns.proofs.Mirrored.{mirrored-found}
use Rattle.csr_columns.proofs.mirroring.mirrors.Goals as goal

pub returns : goal.returns
returns c =
    let offsets = c.args.offsets.now in
    let targets = c.args.targets.now in
    let columns = c.args.columns.now in
    let last : c.loop-v.v ≡ length offsets - 1 = omega (arith, c.loop-v-test.false) in
    let all : slice_index offsets c.loop-v.v ≡ length targets = ap (λ (v : ℕ). slice_index offsets v) last ∙ c.requires.cuts.last in
    let found = subst (λ (n : ℕ). FindsArcs offsets targets columns n c.loop-v.cursors.items) all c.loop-v.invariant in
    λ yes. mirrored-found offsets targets c.requires.cuts columns c.loop-v.cursors.items found (rw c.deref.ensures.value at (c.stand_at_ends.ensures yes)) c.requires.beside
