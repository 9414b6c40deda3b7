-- A shell, one read after another.
use Rattle.std.proofs.Common.{◌≡◌, ℕ, ◌+◌, ◌-◌, ◌<◌, ◌≤◌, Bool, true, false, List, [], ◌∷◌, ◌++◌, length, Option, Some, None, refl, sym, ap, ◌∙◌, arith, append_assoc, append-nil, length-append}
use Rattle.std.specs.List.{list_any}
use Rattle.std.specs.Io.KnownBytes.{Consumes, IsAtEnd}
use Rattle.call_codec.specs.Lines.{Item, line_items, is_lf, rest_of, asked_by_line}
use Rattle.call_codec.proofs.LineLemmas.{last_line_waits, pieces_are_joined, rest_of-no_lf, rest_of-join}
use Rattle.gds_session.specs.declared.ends.End.{End}
use Rattle.gds_session.specs.declared.ends.End.TheVariants as end
use Rattle.gds_session.specs.declared.input.ReadStop.{ReadStop}
use Rattle.gds_session.specs.declared.input.ReadStop.TheVariants as read
use Rattle.gds_session.specs.declared.asking.Turn.TheVariants as turn
use Rattle.gds_session.specs.declared.degrees.WriteStop.{WriteStop}
use Rattle.gds_session.specs.declared.degrees.WriteStop.TheVariants as stop
use Rattle.gds_session.specs.Serving.{Moment, Serves, Halts, HaltsWithin, EndsWith, EndsBy, IsPending, asks_with, ServesPiece, HaltsPiece, TurnEnds, Turned, Shelled, ShellEnds, end_of_stop, end_of_read}
use Rattle.gds_session.proofs.ServingLemmas.{serves_nothing, serves_on, halts_after, halts_before, halts_at_once, asks_is}

-- ---- what a source gave

pub consumes_on : (a b c : Option (List ℕ)) (xs ys : List ℕ) → Consumes a b xs → Consumes b c ys → Consumes a c (xs ++ ys)
consumes_on None b c xs ys first second = tt
consumes_on (Some x) None c xs ys first second = absurd first
consumes_on (Some x) (Some y) None xs ys first second = absurd second
consumes_on (Some x) (Some y) (Some z) xs ys first second = first ∙ ap (λ r. xs ++ r) second ∙ sym (append_assoc xs ys z)

pub consumes_nothing : (a : Option (List ℕ)) → Consumes a a []
consumes_nothing None = tt
consumes_nothing (Some x) = refl

-- ---- where it stopped

-- what the lines ask that are whole is a front of what all ask
all_ask : (bytes : List ℕ) → line_items bytes true ≡ line_items bytes false ++ line_items (rest_of bytes) true
all_ask bytes =
    ap (λ b. line_items b true) (sym (append-nil bytes))
    ∙ pieces_are_joined bytes [] true
    ∙ ap (λ b. line_items bytes false ++ line_items b true) (append-nil (rest_of bytes))

pub halts_within : (why : WriteStop) (bytes : List ℕ) (rest : Option (List ℕ)) (old new : Moment) → Halts why (line_items bytes false) old new → HaltsWithin why bytes rest old new
halts_within why bytes None old new h = (false, tt, h)
halts_within why bytes (Some []) old new h = (true, refl, rw (all_ask bytes) (halts_before why (line_items bytes false) (line_items (rest_of bytes) true) old new h))
halts_within why bytes (Some (b ∷ left)) old new h = (false, refl, h)

ends_true : (rest : Option (List ℕ)) → IsAtEnd rest → EndsWith true rest
ends_true None at_end = tt
ends_true (Some []) at_end = refl
ends_true (Some (b ∷ left)) at_end = absurd (let e : b ∷ left ≡ [] = at_end in cc)

-- ---- one read

-- what the last line asks
last_asks : (was_long : Bool) (kept waiting : List ℕ) → list_any is_lf waiting ≡ false → IsPending was_long kept waiting → asks_with was_long kept [] ≡ line_items waiting true
last_asks was_long kept waiting alone pending =
    asks_is was_long kept waiting [] pending ∙ ap asked_by_line (append-nil waiting) ∙ sym (last_line_waits waiting alone).1

last_ends : (done : End) (items : List Item) (waiting : List ℕ) (rest : Option (List ℕ)) (is_long : Bool) (keeps : List ℕ) (old new : Moment) → EndsBy done items old new → items ≡ line_items waiting true → IsAtEnd rest → TurnEnds (turn.Over done) waiting [] rest is_long keeps old new
last_ends end.Done items waiting rest is_long keeps old new ends is at_end = (refl, at_end, rw (← is) ends)
last_ends end.WriteFault items waiting rest is_long keeps old new ends is at_end = (true, ends_true rest at_end, rw (append-nil waiting, ← is) ends)
last_ends end.Mem items waiting rest is_long keeps old new ends is at_end = (true, ends_true rest at_end, rw (append-nil waiting, ← is) ends)
last_ends end.ReadFault items waiting rest is_long keeps old new ends is at_end = absurd ends
last_ends end.Spent items waiting rest is_long keeps old new ends is at_end = absurd ends
last_ends end.BadWords items waiting rest is_long keeps old new ends is at_end = absurd ends
last_ends (end.BadInput line) items waiting rest is_long keeps old new ends is at_end = absurd ends

empty_piece : (remaining rest : Option (List ℕ)) (piece : List ℕ) → length piece ≡ 0 → Consumes remaining rest piece → Consumes remaining rest []
empty_piece remaining rest [] none consumed = consumed
empty_piece remaining rest (b ∷ piece) none consumed = absurd (omega arith)

pub turned_last : (done : End) (room : ℕ) (remaining rest : Option (List ℕ)) (piece : List ℕ) (was_long : Bool) (kept : List ℕ) (is_long : Bool) (keeps : List ℕ) (old new : Moment) → length piece ≡ 0 → Consumes remaining rest piece → IsAtEnd rest → EndsBy done (asks_with was_long kept []) old new → Turned (turn.Over done) room remaining rest was_long kept is_long keeps old new
turned_last done room remaining rest piece was_long kept is_long keeps old new none consumed at_end ends = record {
  more = [];
  consumed = empty_piece remaining rest piece none consumed;
  within = omega arith;
  ends = λ waiting alone pending. last_ends done (asks_with was_long kept []) waiting rest is_long keeps old new ends (last_asks was_long kept waiting alone pending) at_end;
}

pub turned_more : (n room : ℕ) (remaining rest : Option (List ℕ)) (piece : List ℕ) (was_long : Bool) (kept : List ℕ) (is_long : Bool) (keeps : List ℕ) (old new : Moment) → length piece ≡ n → 0 < n → n ≤ room → Consumes remaining rest piece → ServesPiece was_long kept piece is_long keeps old new → Turned (turn.More n) room remaining rest was_long kept is_long keeps old new
turned_more n room remaining rest piece was_long kept is_long keeps old new long some within consumed serves = record {
  more = piece;
  consumed = consumed;
  within = omega arith;
  ends = λ waiting alone pending. let served = serves waiting alone pending in (long, some, served.0, served.1);
}

over_stopped : (why : WriteStop) (waiting piece : List ℕ) (rest : Option (List ℕ)) (is_long : Bool) (keeps : List ℕ) (old new : Moment) → Halts why (line_items (waiting ++ piece) false) old new → TurnEnds (turn.Over (end_of_stop why)) waiting piece rest is_long keeps old new
over_stopped stop.Fault waiting piece rest is_long keeps old new h = halts_within stop.Fault (waiting ++ piece) rest old new h
over_stopped stop.OutOfMemory waiting piece rest is_long keeps old new h = halts_within stop.OutOfMemory (waiting ++ piece) rest old new h

pub turned_stopped : (why : WriteStop) (room : ℕ) (remaining rest : Option (List ℕ)) (piece : List ℕ) (was_long : Bool) (kept : List ℕ) (is_long : Bool) (keeps : List ℕ) (old new : Moment) → length piece ≤ room → Consumes remaining rest piece → HaltsPiece why was_long kept piece old new → Turned (turn.Over (end_of_stop why)) room remaining rest was_long kept is_long keeps old new
turned_stopped why room remaining rest piece was_long kept is_long keeps old new within consumed halts = record {
  more = piece;
  consumed = consumed;
  within = within;
  ends = λ waiting alone pending. over_stopped why waiting piece rest is_long keeps old new (halts waiting alone pending);
}

turned_fault : (room : ℕ) (remaining rest : Option (List ℕ)) (was_long : Bool) (kept : List ℕ) (is_long : Bool) (keeps : List ℕ) (now : Moment) → Consumes remaining rest [] → Turned (turn.Over end.ReadFault) room remaining rest was_long kept is_long keeps now now
turned_fault room remaining rest was_long kept is_long keeps now consumed = record {
  more = [];
  consumed = consumed;
  within = omega arith;
  ends = λ waiting alone pending. (refl, serves_nothing now);
}

turned_memory : (room : ℕ) (remaining rest : Option (List ℕ)) (was_long : Bool) (kept : List ℕ) (is_long : Bool) (keeps : List ℕ) (now : Moment) → Consumes remaining rest [] → Turned (turn.Over end.Mem) room remaining rest was_long kept is_long keeps now now
turned_memory room remaining rest was_long kept is_long keeps now consumed = record {
  more = [];
  consumed = consumed;
  within = omega arith;
  ends = λ waiting alone pending. halts_within stop.OutOfMemory (waiting ++ []) rest now now (halts_at_once (line_items (waiting ++ []) false) now);
}

pub turned_unread : (why : ReadStop) (room : ℕ) (remaining rest : Option (List ℕ)) (was_long : Bool) (kept : List ℕ) (is_long : Bool) (keeps : List ℕ) (now : Moment) → Consumes remaining rest [] → Turned (turn.Over (end_of_read why)) room remaining rest was_long kept is_long keeps now now
turned_unread read.Fault room remaining rest was_long kept is_long keeps now consumed = turned_fault room remaining rest was_long kept is_long keeps now consumed
turned_unread read.Spent room remaining rest was_long kept is_long keeps now consumed = turned_memory room remaining rest was_long kept is_long keeps now consumed
turned_unread read.OutOfMemory room remaining rest was_long kept is_long keeps now consumed = turned_memory room remaining rest was_long kept is_long keeps now consumed

-- ---- all reads

-- so much was read, and the lines that are whole were answered
pub record Reading (budget left : ℕ) (remaining rest : Option (List ℕ)) (is_long : Bool) (kept : List ℕ) (old now : Moment) : Type 0 where
  pub read : List ℕ
  pub consumed : Consumes remaining rest read
  pub counted : length read + left ≡ budget
  pub served : Serves (line_items read false) old now
  pub pending : IsPending is_long kept (rest_of read)

pub reading_first : (budget : ℕ) (remaining : Option (List ℕ)) (now : Moment) → Reading budget budget remaining remaining false [] now now
reading_first budget remaining now =
    record { read = []; consumed = consumes_nothing remaining; counted = omega arith; served = serves_nothing now; pending = refl }

pub reading_more : (budget left n room : ℕ) (remaining mid rest : Option (List ℕ)) (was_long : Bool) (kept : List ℕ) (is_long : Bool) (keeps : List ℕ) (old now new : Moment) → Reading budget left remaining mid was_long kept old now → Turned (turn.More n) room mid rest was_long kept is_long keeps now new → room ≤ left → Reading budget (left - n) remaining rest is_long keeps old new
reading_more budget left n room remaining mid rest was_long kept is_long keeps old now new r t within =
    let done = t.ends (rest_of r.read) (rest_of-no_lf r.read) r.pending in
    record {
      read = r.read ++ t.more;
      consumed = consumes_on remaining mid rest r.read t.more r.consumed t.consumed;
      counted = omega (arith, length-append r.read t.more, r.counted, t.within, done.0);
      served = rw (pieces_are_joined r.read t.more false) (serves_on (line_items r.read false) (line_items (rest_of r.read ++ t.more) false) old now new r.served done.2);
      pending = rw (rest_of-join r.read t.more) done.3;
    }

over_within : (why : WriteStop) (read more : List ℕ) (rest : Option (List ℕ)) (old now new : Moment) → Serves (line_items read false) old now → HaltsWithin why (rest_of read ++ more) rest now new → HaltsWithin why (read ++ more) rest old new
over_within why read more rest old now new served h =
    (h.0, h.1, rw (pieces_are_joined read more h.0) (halts_after why (line_items read false) (line_items (rest_of read ++ more) h.0) old now new served h.2))

over_ends : (done : End) (budget : ℕ) (read more : List ℕ) (rest : Option (List ℕ)) (is_long : Bool) (keeps : List ℕ) (old now new : Moment) → Serves (line_items read false) old now → TurnEnds (turn.Over done) (rest_of read) more rest is_long keeps now new → ShellEnds done budget (read ++ more) rest old new
over_ends end.Done budget read more rest is_long keeps old now new served e =
    (e.1, rw (e.0, append-nil read, all_ask read) (serves_on (line_items read false) (line_items (rest_of read) true) old now new served e.2))
over_ends end.ReadFault budget read more rest is_long keeps old now new served e =
    rw (e.0, append-nil read, ← append-nil (line_items read false)) (serves_on (line_items read false) [] old now new served e.1)
over_ends end.WriteFault budget read more rest is_long keeps old now new served e = over_within stop.Fault read more rest old now new served e
over_ends end.Mem budget read more rest is_long keeps old now new served e = over_within stop.OutOfMemory read more rest old now new served e
over_ends end.Spent budget read more rest is_long keeps old now new served e = absurd e
over_ends end.BadWords budget read more rest is_long keeps old now new served e = absurd e
over_ends (end.BadInput line) budget read more rest is_long keeps old now new served e = absurd e

pub shelled_over : (done : End) (budget left room : ℕ) (remaining mid rest : Option (List ℕ)) (was_long : Bool) (kept : List ℕ) (is_long : Bool) (keeps : List ℕ) (old now new : Moment) → Reading budget left remaining mid was_long kept old now → Turned (turn.Over done) room mid rest was_long kept is_long keeps now new → room ≤ left → Shelled done budget remaining rest old new
shelled_over done budget left room remaining mid rest was_long kept is_long keeps old now new r t within = record {
  read = r.read ++ t.more;
  consumed = consumes_on remaining mid rest r.read t.more r.consumed t.consumed;
  within = omega (arith, length-append r.read t.more, r.counted, t.within);
  ends = over_ends done budget r.read t.more rest is_long keeps old now new r.served (t.ends (rest_of r.read) (rest_of-no_lf r.read) r.pending);
}

pub shelled_spent : (budget left : ℕ) (remaining rest : Option (List ℕ)) (is_long : Bool) (kept : List ℕ) (old now : Moment) → Reading budget left remaining rest is_long kept old now → left ≤ 0 → Shelled end.Spent budget remaining rest old now
shelled_spent budget left remaining rest is_long kept old now r none = record {
  read = r.read;
  consumed = r.consumed;
  within = omega (arith, r.counted);
  ends = (omega (arith, r.counted), r.served);
}

pub shelled_memory : (budget : ℕ) (remaining : Option (List ℕ)) (now : Moment) → Shelled end.Mem budget remaining remaining now now
shelled_memory budget remaining now = record {
  read = [];
  consumed = consumes_nothing remaining;
  within = omega arith;
  ends = halts_within stop.OutOfMemory [] remaining now now (halts_at_once (line_items [] false) now);
}
