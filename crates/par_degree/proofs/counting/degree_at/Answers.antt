use Rattle.std.proofs.Common.{rules, ℕ, pos, length, w64, to_z-of_z, sym, ap, ◌∙◌, arith, List}
use Rattle.std.proofs.lemmas.Int.{ints}
use Rattle.csr_columns.specs.Rows.{ArcRows, row_at}
use Rattle.par_degree.proofs.Rows.{taken-row, degree-heavy, degree-bare}
use Rattle.par_degree.proofs.counting.degree_at.Goals as goal

pub weight_sum-requires-clause-taken : goal.weight_sum-requires-clause-taken
weight_sum-requires-clause-taken c =
    let view = c.args.view.now in
    let rows = ap (λ (arcs : ArcRows). length arcs.rows) (sym c.arcs.ensures.arcs) ∙ c.arcs.ensures.rows in
    taken-row view c.requires.beside c.requires.taken c.args.v c.in-Some.weights.now (omega (arith, c.requires.in_range, rows)) c.in-Some.ensures.weights c.in-Some.ensures.beside

pub returns-in-Some : goal.returns-in-Some
returns-in-Some c =
    let view = c.args.view.now in
    let rows = ap (λ (arcs : ArcRows). length arcs.rows) (sym c.arcs.ensures.arcs) ∙ c.arcs.ensures.rows in
    to_z-of_z {w = w64} {z = c.weight_sum.result} (search rules) ∙ c.weight_sum.ensures
    ∙ degree-heavy view c.requires.beside c.arcs.ensures.ascend rows c.args.v c.in-Some.weights.now c.requires.in_range c.in-Some.ensures.weights c.in-Some.ensures.beside

pub returns-in-None : goal.returns-in-None
returns-in-None c =
    let view = c.args.view.now in
    let rows = ap (λ (arcs : ArcRows). length arcs.rows) (sym c.arcs.ensures.arcs) ∙ c.arcs.ensures.rows in
    let row = c.row-row.ensures.row ∙ ap (λ (arcs : ArcRows). row_at arcs.rows c.args.v) c.arcs.ensures.arcs in
    omega (arith, ints, c.row-row.type_inv) ∙ ap (λ (xs : List ℕ). pos (length xs)) row
    ∙ degree-bare view c.requires.beside c.arcs.ensures.ascend rows c.args.v c.requires.in_range c.in-None.ensures.weights
