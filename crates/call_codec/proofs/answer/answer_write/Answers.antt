use Rattle.std.proofs.Common.{rules, ◌≡◌, append-nil, refl}
use Rattle.text_sinks.proofs.ToldLemmas.{wrote_front, wrote_later, wrote_taken, wrote_then}
use Rattle.call_codec.proofs.answer.answer_write.Goals as goal

pub returns-in_err-put_answer-clause-later : goal.returns-in_err-put_answer-clause-later
returns-in_err-put_answer-clause-later g c =
    let same : c.in_err-put_answer.sink-1-own.given.0 ≡ c.put_answer.new.text.sink.now = c.in_err-put_answer.sink-1-own.given.1 (search rules) in
    rw same (wrote_later (rw (c.new-text.ensures.sink, c.new-text.ensures.piece) at c.in_err-put_answer.ensures.wrote))

-- the reference that was lent holds what the sink of pieces left there
pub returns-clause-ok : goal.returns-clause-ok
returns-clause-ok g c =
    let same : c.sink-2-1.given.0 ≡ c.hand_on.new.self.sink.now = c.sink-2-1.given.1 (search rules) in
    rw same (wrote_taken refl c.hand_on.ensures.piece (simp append-nil at (wrote_then (rw (c.new-text.ensures.sink, c.new-text.ensures.piece) at c.in_ok-put_answer.ensures.wrote.ok) c.hand_on.ensures.wrote)))

pub returns-clause-err : goal.returns-clause-err
returns-clause-err g c =
    let same : c.sink-2-1.given.0 ≡ c.hand_on.new.self.sink.now = c.sink-2-1.given.1 (search rules) in
    rw same (wrote_front refl (simp append-nil at (wrote_then (rw (c.new-text.ensures.sink, c.new-text.ensures.piece) at c.in_ok-put_answer.ensures.wrote.ok) c.hand_on.ensures.wrote)))

pub returns-clause-later : goal.returns-clause-later
returns-clause-later g c =
    let same : c.sink-2-1.given.0 ≡ c.hand_on.new.self.sink.now = c.sink-2-1.given.1 (search rules) in
    rw same (wrote_later (simp append-nil at (wrote_then (rw (c.new-text.ensures.sink, c.new-text.ensures.piece) at c.in_ok-put_answer.ensures.wrote.ok) c.hand_on.ensures.wrote)))
