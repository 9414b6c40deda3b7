use Rattle.std.proofs.Common.{◌≡◌, ◌∙◌, ap}
use Rattle.std.proofs.lemmas.List.Elements.{All-from_recursion}
use Rattle.std.proofs.lemmas.List.Sorted.{All-permutation}
use Rattle.csr_columns.specs.Rows.{ArcRows, LiesBelow, rows_of}
use Rattle.gds_session.specs.Ending.{lines_of_rows}
use Rattle.gds_session.specs.OnceText.{degree_lines}
use Rattle.gds_session.proofs.RowLines.{lines_of_rows-permutation}
use Rattle.gds_session.proofs.command.write_input.Goals as goal

pub returns-clause-ok : goal.returns-clause-ok
returns-clause-ok g c =
    let e : lines_of_rows 0 c.in-Ok.csr.rows ≡ degree_lines c.args.input.nodes c.args.input.arcs.items =
    ap (λ (csr : ArcRows). lines_of_rows 0 csr.rows) c.in-Ok.ensures
    ∙ ap (λ arcs. lines_of_rows 0 (rows_of c.args.input.nodes arcs)) c.deref.ensures.value
    ∙ lines_of_rows-permutation c.args.input.nodes c.args.input.arcs.items c.sort_unstable.new.self.items c.sort_unstable.ensures.permutation in
    rw e at c.write_degrees.ensures.ok

pub returns-clause-err : goal.returns-clause-err
returns-clause-err g c =
    let e : lines_of_rows 0 c.in-Ok.csr.rows ≡ degree_lines c.args.input.nodes c.args.input.arcs.items =
    ap (λ (csr : ArcRows). lines_of_rows 0 csr.rows) c.in-Ok.ensures
    ∙ ap (λ arcs. lines_of_rows 0 (rows_of c.args.input.nodes arcs)) c.deref.ensures.value
    ∙ lines_of_rows-permutation c.args.input.nodes c.args.input.arcs.items c.sort_unstable.new.self.items c.sort_unstable.ensures.permutation in
    rw e at c.write_degrees.ensures.err

pub by_source-requires : goal.by_source-requires
by_source-requires g c =
    let arcs = c.args.input.arcs.items in
    let below =
    All-permutation (LiesBelow c.args.input.nodes) arcs c.sort_unstable.new.self.items c.sort_unstable.ensures.permutation
    (All-from_recursion (LiesBelow c.args.input.nodes) arcs c.requires) in
    rw c.deref.ensures.value below
