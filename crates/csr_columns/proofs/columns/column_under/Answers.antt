use Rattle.std.proofs.Common.{List, Some, ap, sym, ◌∙◌}
use Rattle.csr_columns.proofs.Shown.{under-none, under-first}
use Rattle.csr_columns.proofs.columns.column_under.Goals as goal

pub returns-in-Some : goal.returns-in-Some
returns-in-Some g c =
    let item = c.index-columns-place in
    ap (λ (xs : List g.row.T.Denot). Some xs) (c.as_slice.ensures.value ∙ c.get.ensures ∙ item.is)
    ∙ sym (under-first c.args.names.now c.args.columns.now c.args.name.now c.in-Some.place item.result (sym c.requires) c.in-Some.ensures)

pub returns-in-None : goal.returns-in-None
returns-in-None g c = sym (under-none c.args.names.now c.args.columns.now c.args.name.now c.in-None.ensures)
