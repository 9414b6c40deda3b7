use Rattle.std.proofs.Common.{◌≡◌, [], ◌∷◌, Option, IfSome, length, sym, subst, arith}
use Rattle.std.proofs.lemmas.List.Sums.{length-filter}
use Rattle.csr_columns.specs.Choosing.{chooses_kind, chosen}
use Rattle.csr_columns.specs.declared.parts.TypeColumns.{TypeColumns}
use Rattle.csr_columns.proofs.Chosen.{only-first}
use Rattle.csr_columns.proofs.choosing.only_chosen.Goals as goal

pub returns-then-chosen_count-eq1 : goal.returns-then-chosen_count-eq1
returns-then-chosen_count-eq1 c =
    let types = chosen c.args.choice.now c.args.types.now in
    let P : Option TypeColumns → Type 0 = λ o. IfSome o (λ type. types ≡ type ∷ []) in
    let one : length types ≡ 1 = omega (arith, length-filter (chooses_kind c.args.choice.now) c.args.types.now) in
    subst P (sym c.first_chosen.ensures) (only-first types one)
