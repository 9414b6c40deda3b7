use Rattle.std.proofs.Common.{◌≡◌, inl, true, false, ◌<◌, length, take, replicate, sym, ap, ◌∙◌, subst, arith}
use Rattle.std.proofs.lemmas.List.{length-replicate, get_or-replicate}
use Rattle.std.specs.List.{All}
use Rattle.round_engine.specs.Frontier.{IsMarked}
use Rattle.round_engine.proofs.Rounding.{refill}
use Rattle.round_engine.proofs.rounds.Rounds.start.Goals as goal

-- src/rounds.rt:62:9
pub invariant_of-result : goal.invariant_of-result
invariant_of-result g c =
    let size = g.K.Kernel.size c.args.kernel in
    let start : c.deref_mut.result.now ≡ replicate c.len-size.result true = c.deref_mut.ensures.value ∙ c.in_ok-marks.ensures in
    let size_is : c.len-size.result ≡ size = c.len-size.ensures in
    let marks_long : length c.list_marked-count.new.marks ≡ size = c.list_marked-count.ensures.marks_long ∙ (ap length start ∙ (length-replicate c.len-size.result true ∙ size_is)) in
    let places_long : length c.list_marked-count.new.places ≡ size = c.list_marked-count.ensures.places_long ∙ (c.deref_mut-2.ensures.len ∙ (c.in_ok-places.ensures.len ∙ size_is)) in
    rw (refill c.in_ok-places.places.len c.list_marked-count.new.places c.in_ok-places.places.items (c.list_marked-count.ensures.places_long ∙ c.deref_mut-2.ensures.len), refill c.in_ok-marks.marks.len c.list_marked-count.new.marks c.in_ok-marks.marks.items (c.list_marked-count.ensures.marks_long ∙ c.deref_mut.ensures.len)) (
      record {
        column_long = c.requires.as_long;
        places_long = places_long;
        marks_long = marks_long;
        within = omega (arith, c.list_marked-count.ensures.within, places_long);
        in_range = subst (λ n. All (λ v. v < n) (take c.list_marked-count.result c.list_marked-count.new.places)) c.len-size.ensures c.list_marked-count.ensures.in_range;
        unmarked = c.list_marked-count.ensures.unmarked;
        frontier =
            λ v below.
            inl (c.list_marked-count.ensures.listed v (omega (arith, c.len-size.ensures, c.requires.as_long, below))
            (subst (λ marks. IsMarked marks v) (sym start) (get_or-replicate c.len-size.result v true false (omega (arith, size_is, c.requires.as_long, below)))));
      },
      omega (arith, c.in_ok-values.ensures.len, c.in_ok-values.values.ok.0, size_is),
    )
