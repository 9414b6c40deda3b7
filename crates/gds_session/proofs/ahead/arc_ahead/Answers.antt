use Rattle.std.proofs.Common.{◌≡◌, ◌∷◌, ◌++◌, codes, sym, ap, ◌∙◌, arith}
use Rattle.std.proofs.lemmas.Bool.Decides.{nat_tests}
use Rattle.gds_session.proofs.Arcs.{arc_text}
use Rattle.gds_session.proofs.Lines.{starts_with-front}
use Rattle.gds_session.proofs.FirstArc.{arc_text-parts, arc_line-feed, arc_line-last}
use Rattle.gds_session.proofs.ahead.arc_ahead.Goals as goal

pub returns-in_default : goal.returns-in_default
returns-in_default c =
    let word = starts_with-front c.args.text.now (codes "rel ") c.in_ok-ends.ensures.found.0 ∙ ap (λ rest. codes "rel " ++ rest) (sym c.in_ok-ends.ensures.found.1) in
    let space = starts_with-front c.in_ok-source.rest.now (codes " ") c.in_ok-rest.ensures.found.0 ∙ ap (λ rest. codes " " ++ rest) (sym c.in_ok-rest.ensures.found.1) in
    let whole =
    arc_text-parts c.args.text.now c.in_ok-ends.ends.now c.in_ok-source.rest.now c.in_ok-rest.rest.now c.in_ok-target.rest.now c.in_ok-source.source
    c.in_ok-target.target word c.in_ok-source.ensures.text space c.in_ok-target.ensures.text in
    arc_line-last c.args.nodes c.args.text.now c.in_ok-target.rest.now c.in_ok-source.source c.in_ok-target.target (omega arith)
    c.in_ok-source.ensures.below c.in_ok-target.ensures.below whole c.in_default.ensures.cases

pub returns : goal.returns
returns c =
    let word = starts_with-front c.args.text.now (codes "rel ") c.in_ok-ends.ensures.found.0 ∙ ap (λ rest. codes "rel " ++ rest) (sym c.in_ok-ends.ensures.found.1) in
    let space = starts_with-front c.in_ok-source.rest.now (codes " ") c.in_ok-rest.ensures.found.0 ∙ ap (λ rest. codes " " ++ rest) (sym c.in_ok-rest.ensures.found.1) in
    let whole =
    arc_text-parts c.args.text.now c.in_ok-ends.ends.now c.in_ok-source.rest.now c.in_ok-rest.rest.now c.in_ok-target.rest.now c.in_ok-source.source
    c.in_ok-target.target word c.in_ok-source.ensures.text space c.in_ok-target.ensures.text in
    let feed : c.in_ok-target.rest.now ≡ 10 ∷ c.in-Some.after.now = grind (arith, nat_tests, c.in-Some.ensures.cases, c.if-feed-ne10.false) in
    arc_line-feed c.args.nodes c.args.text.now c.in-Some.after.now c.in_ok-source.source c.in_ok-target.target (omega arith)
    c.in_ok-source.ensures.below c.in_ok-target.ensures.below (whole ∙ ap (λ rest. arc_text (c.in_ok-source.source, c.in_ok-target.target) ++ rest) feed)
