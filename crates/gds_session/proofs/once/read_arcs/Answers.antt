use Rattle.std.proofs.Common.{◌+◌, [], ◌∷◌, length, length-append, sym, ◌∙◌, ap, arith}
use Rattle.gds_session.specs.OnceText.{arcs_of, lines_of}
use Rattle.gds_session.specs.Printing.{JoinsNodes}
use Rattle.gds_session.specs.Reading.{with_arcs}
use Rattle.gds_session.proofs.ReadArcs.{with_arcs-line, AllByRecursion-push}
use Rattle.gds_session.proofs.once.read_arcs.Goals as goal

pub loop-rest-preserved : goal.loop-rest-preserved
loop-rest-preserved c =
    let front = c.loop-rest.arcs.items in
    let first = c.in-Some.ensures in
    let so_far = ap (λ lines. with_arcs front (arcs_of c.args.nodes (length front + 2) lines)) (sym first.lines) ∙ c.loop-rest.invariant.whole in
    rw c.in_ok-push.ensures.items (record {
      whole = with_arcs-line c.args.nodes front first.line (lines_of c.in-Some.after.now) c.in-Some.arc _ (omega arith) first.says so_far;
      ends = AllByRecursion-push (JoinsNodes c.args.nodes) front c.in-Some.arc c.loop-rest.invariant.ends first.joins;
      few = omega (arith, length-append front (c.in-Some.arc ∷ []));
    })
