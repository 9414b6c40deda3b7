use Rattle.std.proofs.Common.{◌≡◌, ◌+◌, ◌-◌, ◌≤◌, take, drop, length, ap, ◌∙◌, arith}
use Rattle.std.proofs.lemmas.List.{length-drop, length-append, length-take-le, drop_all}
use Rattle.gds_causes.proofs.Taking.{taken-put}
use Rattle.gds_causes.proofs.mem_source.MemSourceSource.read.Goals as goal

pub returns-clause-bytes : goal.returns-clause-bytes
returns-clause-bytes c =
    let source = c.self.inside in
    let bytes = source.bytes.items in
    let count = c.min-count.result in
    let given = c.copy_from_slice.new.self in
    let difference : source.at + count - source.at ≡ count = omega arith in
    let is : drop source.at bytes ≡ c.args.self.now.remaining = ap (λ s. s.remaining) c.self.view_is in
    let front : given ≡ take count (drop source.at bytes) = rw (← c.deref-2.ensures.value, ← difference) c.copy_from_slice.ensures.after in
    let within : count ≤ length (drop source.at bytes) = omega (arith, length-drop source.at bytes) in
    let whole : length given ≡ count = ap length front ∙ length-take-le count _ within in (
      rw (← is) (taken-put bytes given c.args.into.now source.at count front whole),
      λ none room. drop_all (source.at + count) bytes (omega (arith, length-append given (drop count c.args.into.now), length-drop count c.args.into.now)),
    )
