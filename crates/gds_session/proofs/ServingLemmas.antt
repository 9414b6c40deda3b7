-- Items that are answered one after another.
use Rattle.std.proofs.Common.{◌≡◌, inl, inr, ℕ, ◌<◌, ◌≤◌, Bool, true, false, cond, List, [], ◌∷◌, ◌++◌, length, Option, Some, None, refl, sym, ap, ◌∙◌, subst, ⊎_elim, arith, append_assoc, append-nil, length-append}
use Rattle.std.specs.Prelude.{IsTrue, nat_lt}
use Rattle.std.specs.List.{AllByRecursion, sum_by}
use Rattle.std.proofs.lemmas.List.Sums.{sum_by-append, sum_by-cons}
use Rattle.std.proofs.lemmas.Bool.{cases_Bool, true≢false, lt-ltb, le-ltb}
use Rattle.std.specs.Io.KnownBytes.{Appends}
use Rattle.std.specs.Io.KnownBytes.{Keeps}
use Rattle.std.proofs.lemmas.List.{take-append-drop}
use Rattle.std.specs.Prelude.{take, drop}
use Rattle.std.specs.Prelude.{Result, Ok, Err, OnOk, OnErr, IfErr}
use Rattle.std.specs.Result.{is_err}
use Rattle.std.specs.Option.{option_map}
use Rattle.gds_causes.specs.Faults.{Rose}
use Rattle.gds_causes.specs.Front.{AppendsFront}
use Rattle.graph_model.specs.declared.refusal.Refusal.{Refusal}
use Rattle.graph_model.specs.declared.refusal.Refusal.TheVariants as refusal
use Rattle.graph_model.specs.declared.refusal.LongPart.TheVariants as long
use Rattle.graph_model.specs.Refusals.{UnlessMem}
use Rattle.desk_model.specs.declared.asked.Event.{Event}
use Rattle.desk_model.specs.declared.call.Call.{Call}
use Rattle.desk_model.specs.declared.call.Call.TheVariants as call
use Rattle.desk_model.specs.State.{State}
use Rattle.desk_model.specs.Replies.{PlainReply, Refused}
use Rattle.desk_model.specs.Step.{IsStep, mark_of, is_fault}
use Rattle.desk_model.specs.History.{HistoryEntry, AreLegal, Permits, own_entries, state_after, state_after_entry}
use Rattle.desk_model.specs.Script.{IsScript, IsFormedCall}
use Rattle.call_codec.specs.Answers.{line_answer}
use Rattle.call_codec.specs.Lines.{Item, Calls, Refuses, line_item, is_blank, asked_by_line, most_line_bytes}
use Rattle.gds_session.specs.declared.degrees.WriteStop.{WriteStop}
use Rattle.gds_session.specs.declared.degrees.WriteStop.TheVariants as stop
use Rattle.gds_session.specs.Serving.{IsAnswered, AreAnswered, IsBegun, is_flagged, Counts, IsOfShell, Leads, Moment, Performs, Serves, TookFront, Halts, IsFlushed, CountsBy, IsPending, asks_with, event_for, stopped_by}
use Rattle.gds_session.proofs.Bytes.{Appends-more, Appends-nothing}

-- ---- entries

AreLegal-append : (xs ys : List HistoryEntry) (state : State) (earlier : List HistoryEntry) → AreLegal state earlier xs → ((before : List HistoryEntry) → AreLegal (state_after state xs) before ys) → AreLegal state earlier (xs ++ ys)
AreLegal-append [] ys state earlier legal rest = rest earlier
AreLegal-append (x ∷ xs) ys state earlier legal rest =
    (legal.0, AreLegal-append xs ys (state_after_entry state x) (earlier ++ x ∷ []) legal.1 rest)

state_after-append : (xs ys : List HistoryEntry) (state : State) → state_after state (xs ++ ys) ≡ state_after (state_after state xs) ys
state_after-append [] ys state = refl
state_after-append (x ∷ xs) ys state = state_after-append xs ys (state_after_entry state x)

all-append : {A : Type 0} (P : A → Type 0) (xs ys : List A) → AllByRecursion P xs → AllByRecursion P ys → AllByRecursion P (xs ++ ys)
all-append P [] ys first second = second
all-append P (x ∷ xs) ys first second = (first.0, all-append P xs ys first.1 second)

-- an entry counts as one where it is flagged
abbrev flag : HistoryEntry → ℕ
flag entry = cond (is_flagged entry) 1 0

counts-append : (xs ys : List HistoryEntry) (f g h : ℕ) → Counts xs f g → Counts ys g h → Counts (xs ++ ys) f h
counts-append xs ys f g h first second = omega (arith, sum_by-append flag xs ys, first, second)

pub leads_nowhere : (state : State) (faults : ℕ) → Leads [] state state faults faults
leads_nowhere state faults = record { legal = λ earlier. tt; own = tt; state = refl; counted = omega arith }

pub leads_on : (xs ys : List HistoryEntry) (a b c : State) (f g h : ℕ) → Leads xs a b f g → Leads ys b c g h → Leads (xs ++ ys) a c f h
leads_on xs ys a b c f g h first second = record {
  legal = λ earlier. AreLegal-append xs ys a earlier (first.legal earlier) (λ before. let P : State → Type 0 = λ s. AreLegal s before ys in subst P first.state (second.legal before));
  own = all-append IsOfShell xs ys first.own second.own;
  state = second.state ∙ ap (λ s. state_after s ys) first.state ∙ sym (state_after-append xs ys a);
  counted = counts-append xs ys f g h first.counted second.counted;
}

-- ---- answers

pub answered_on : (items others : List Item) (xs ys : List HistoryEntry) (text more : List ℕ) → AreAnswered items xs text → AreAnswered others ys more → AreAnswered (items ++ others) (xs ++ ys) (text ++ more)
answered_on [] others xs ys text more first second = rw (first.0, first.1) second
answered_on (item ∷ items) others xs ys text more first second = (
  first.0,
  first.1 ++ ys,
  first.2,
  first.3 ++ more,
  ap (λ e. e ++ ys) first.4 ∙ append_assoc first.0 first.1 ys,
  first.5,
  ap (λ t. t ++ more) first.6 ∙ append_assoc (line_answer first.2) first.3 more,
  answered_on items others first.1 ys first.3 more first.7 second,
)

pub begun_on : (left more : List Item) (begun : List HistoryEntry) (front : List ℕ) → IsBegun left begun front → IsBegun (left ++ more) begun front
begun_on [] [] begun front h = h
begun_on [] (item ∷ more) begun front h = inl h
begun_on (item ∷ left) more begun front h = h

-- ---- serving

pub serves_nothing : (now : Moment) → Serves [] now now
serves_nothing now = record {
  entries = [];
  written = [];
  answered = (refl, refl);
  leads = leads_nowhere now.state now.faults;
  appended = Appends-nothing now.taken;
  flushed = inl (refl, refl);
  calm = refl;
}

-- what was flushed stays so where nothing is taken
flushed_on : (old mid new : Moment) → IsFlushed old mid → IsFlushed mid new → IsFlushed old new
flushed_on old mid new first (inr all) = inr all
flushed_on old mid new (inl kept) (inl same) = inl (same.0 ∙ kept.0, same.1 ∙ kept.1)
flushed_on old mid new (inr all) (inl same) = inr (same.1 ∙ all ∙ ap (option_map length) (sym same.0))

pub serves_on : (items others : List Item) (old mid new : Moment) → Serves items old mid → Serves others mid new → Serves (items ++ others) old new
serves_on items others old mid new first second = record {
  entries = first.entries ++ second.entries;
  written = first.written ++ second.written;
  answered = answered_on items others first.entries second.entries first.written second.written first.answered second.answered;
  leads = leads_on first.entries second.entries old.state mid.state new.state old.faults mid.faults new.faults first.leads second.leads;
  appended = Appends-more old.taken mid.taken new.taken first.written second.written first.appended second.appended;
  flushed = flushed_on old mid new first.flushed second.flushed;
  calm = second.calm ∙ first.calm;
}

counts_on : (why : WriteStop) (a b c : ℕ) → b ≡ a → CountsBy why b c → CountsBy why a c
counts_on stop.Fault a b c same rose = rw (← same) rose
counts_on stop.OutOfMemory a b c same stands = stands ∙ same

pub halts_after : (why : WriteStop) (items others : List Item) (old mid new : Moment) → Serves items old mid → Halts why others mid new → Halts why (items ++ others) old new
halts_after why items others old mid new first second = record {
  done = items ++ second.done;
  left = second.left;
  entries = first.entries ++ second.entries;
  begun = second.begun;
  written = first.written ++ second.written;
  front = second.front;
  cut = ap (λ t. items ++ t) second.cut ∙ sym (append_assoc items second.done second.left);
  answered = answered_on items second.done first.entries second.entries first.written second.written first.answered second.answered;
  next = second.next;
  unbegun = second.unbegun;
  leads = rw (append_assoc first.entries second.entries second.begun) (leads_on first.entries (second.entries ++ second.begun) old.state mid.state new.state old.faults mid.faults new.faults first.leads second.leads);
  appended = rw (append_assoc first.written second.written second.front) (Appends-more old.taken mid.taken new.taken first.written (second.written ++ second.front) first.appended second.appended);
  counted = counts_on why old.write_faults mid.write_faults new.write_faults first.calm second.counted;
}

pub halts_before : (why : WriteStop) (items others : List Item) (old new : Moment) → Halts why items old new → Halts why (items ++ others) old new
halts_before why items others old new h = record {
  done = h.done;
  left = h.left ++ others;
  entries = h.entries;
  begun = h.begun;
  written = h.written;
  front = h.front;
  cut = ap (λ t. t ++ others) h.cut ∙ append_assoc h.done h.left others;
  answered = h.answered;
  next = begun_on h.left others h.begun h.front h.next;
  unbegun = h.unbegun;
  leads = h.leads;
  appended = h.appended;
  counted = h.counted;
}

pub halts_unbegun : (items : List Item) (old new : Moment) → Serves items old new → Halts stop.OutOfMemory items old new
halts_unbegun items old new s = record {
  done = items;
  left = [];
  entries = s.entries;
  begun = [];
  written = s.written;
  front = [];
  cut = sym (append-nil items);
  answered = s.answered;
  next = (refl, refl);
  unbegun = (refl, refl);
  leads = rw (append-nil s.entries) s.leads;
  appended = rw (append-nil s.written) s.appended;
  counted = s.calm;
}

-- ---- one line

-- what a sink told before and after an answer that was written and flushed
pub record Answered (old new : Moment) (text : List ℕ) : Type 0 where
  pub appended : Appends old.taken new.taken text
  pub flushed : new.flushed ≡ option_map length new.taken
  pub calm : new.write_faults ≡ old.write_faults

pub serves_one : (item : Item) (reply : PlainReply) (old new : Moment) → Performs item reply old.state new.state old.faults new.faults → Answered old new (line_answer reply) → Serves (item ∷ []) old new
serves_one item reply old new p done = record {
  entries = p.entries;
  written = line_answer reply;
  answered = (p.entries, [], reply, [], sym (append-nil p.entries), p.answered, sym (append-nil (line_answer reply)), (refl, refl));
  leads = p.leads;
  appended = done.appended;
  flushed = inr done.flushed;
  calm = done.calm;
}

pub halts_one : (item : Item) (reply : PlainReply) (old new : Moment) → Performs item reply old.state new.state old.faults new.faults → TookFront old.taken new.taken (line_answer reply) → Rose old.write_faults new.write_faults → Halts stop.Fault (item ∷ []) old new
halts_one item reply old new p took rose = record {
  done = [];
  left = item ∷ [];
  entries = [];
  begun = p.entries;
  written = [];
  front = took.0;
  cut = refl;
  answered = (refl, refl);
  next = inr (reply, p.answered, took.1);
  unbegun = tt;
  leads = p.leads;
  appended = took.2;
  counted = rose;
}

-- ---- the desk's step

-- an entry of the shell
abbrev pub shell_entry : List ℕ → Event → PlainReply → HistoryEntry
shell_entry user asked reply = record { pass = 0; user = user; event = asked; refused = is_fault (mark_of reply); reply = reply }

permits : (own : List HistoryEntry) (user : List ℕ) (asked : Call) → IsFormedCall asked → Permits own user (event_for asked)
permits own user (call.Create import change) formed = formed
permits own user (call.Alter change) formed = formed
permits own user (call.StoreRows key labels) formed = formed

counts_one : (entry : HistoryEntry) (f g : ℕ) → (IsTrue entry.refused → Rose f g) → f ≤ g → Counts (entry ∷ []) f g
counts_one entry f g rose later =
    ⊎_elim
    (λ (yes : entry.refused ≡ true). let r = rose yes in let one : sum_by flag (entry ∷ []) ≡ 1 = rw sum_by-cons (rw yes refl) in omega (arith, r, one))
    (λ (no : entry.refused ≡ false). let none : sum_by flag (entry ∷ []) ≡ 0 = rw sum_by-cons (rw no refl) in omega (arith, none))
    (cases_Bool entry.refused)

-- what the desk answers leads on by one entry
pub applied : (user : List ℕ) (asked : Event) (reply : PlainReply) (a b : State) (f g : ℕ) → ((own : List HistoryEntry) → Permits own user asked) → IsStep user asked a reply b → (IsTrue (is_fault (mark_of reply)) → Rose f g) → f ≤ g → Leads (shell_entry user asked reply ∷ []) a b f g
applied user asked reply a b f g permitted is rose later = record {
  legal = λ earlier. (
    record {
      permitted = permitted (own_entries 0 earlier);
      mark = is.mark;
      reply = is.answer;
      flag = refl;
    },
    tt,
  );
  own = (refl, tt);
  state = is.left;
  counted = counts_one (shell_entry user asked reply) f g rose later;
}

-- it performs the call
pub is_script : (user : List ℕ) (asked : Call) (reply : PlainReply) → IsScript user asked (shell_entry user (event_for asked) reply ∷ []) reply
is_script user (call.Create import change) reply = record { user_is = refl; event_is = refl; reply_is = refl }
is_script user (call.Alter change) reply = record { user_is = refl; event_is = refl; reply_is = refl }
is_script user (call.StoreRows key labels) reply = record { user_is = refl; event_is = refl; reply_is = refl }

-- ---- refusals

no_memory : (item : Item) → IsAnswered item [] (Refused refusal.Mem)
no_memory (Calls user (call.Create import change)) = refl
no_memory (Calls user (call.Alter change)) = refl
no_memory (Calls user (call.StoreRows key labels)) = refl
no_memory (Refuses why) = (refl, inr refl)

refuses : (why : Refusal) (item : Item) → item ≡ Refuses why → IsAnswered item [] (Refused why)
refuses why item is = rw is (refl, inl refl)

answered_refusal : (why : Refusal) (item : Item) → UnlessMem why (item ≡ Refuses why) → IsAnswered item [] (Refused why)
answered_refusal refusal.Mem item is = no_memory item
answered_refusal why item is = refuses why item is

pub performs_refusal : (why : Refusal) (item : Item) (state : State) (faults : ℕ) → UnlessMem why (item ≡ Refuses why) → Performs item (Refused why) state state faults faults
performs_refusal why item state faults is =
    record { entries = []; answered = answered_refusal why item is; leads = leads_nowhere state faults }

-- ---- what is kept of a line

pub asks_is : (too_long : Bool) (kept waiting tail : List ℕ) → IsPending too_long kept waiting → asks_with too_long kept tail ≡ asked_by_line (waiting ++ tail)
asks_is true kept waiting tail pending =
    let over : nat_lt most_line_bytes (length (waiting ++ tail)) ≡ true = lt-ltb most_line_bytes (length (waiting ++ tail)) (omega (arith, length-append waiting tail)) in
    rw over refl
asks_is false kept waiting tail pending = ap (λ k. asked_by_line (k ++ tail)) pending

-- it is too long where it was too long, or where its tail made it so
pub long_asks : (was_long is_long : Bool) (kept keeps tail : List ℕ) → ((waiting : List ℕ) → IsPending was_long kept waiting → IsPending is_long keeps (waiting ++ tail)) → is_long ≡ true → asks_with was_long kept tail ≡ Refuses (refusal.TooLong long.Line most_line_bytes) ∷ []
long_asks true is_long kept keeps tail pending is = refl
long_asks false is_long kept keeps tail pending is =
    let P : Bool → Type 0 = λ b. IsPending b keeps (kept ++ tail) in
    let more : most_line_bytes < length (kept ++ tail) = subst P is (pending kept refl) in
    let over : nat_lt most_line_bytes (length (kept ++ tail)) ≡ true = lt-ltb most_line_bytes (length (kept ++ tail)) more in
    rw over refl

-- else all of it is kept
pub short_asks : (was_long is_long : Bool) (kept keeps tail : List ℕ) → ((waiting : List ℕ) → IsPending was_long kept waiting → IsPending is_long keeps (waiting ++ tail)) → (was_long ≡ true → is_long ≡ true) → is_long ≡ false → asks_with was_long kept tail ≡ asked_by_line keeps
short_asks true is_long kept keeps tail pending stays is = absurd (true≢false (sym (stays refl) ∙ is))
short_asks false is_long kept keeps tail pending stays is =
    let P : Bool → Type 0 = λ b. IsPending b keeps (kept ++ tail) in
    let all : keeps ≡ kept ++ tail = subst P is (pending kept refl) in
    ap asked_by_line (sym all)

-- a line of blanks asks nothing, and another one item
pub blank_asks : (line : List ℕ) → length line ≤ most_line_bytes → is_blank line ≡ true → asked_by_line line ≡ []
blank_asks line within blank =
    let short : nat_lt most_line_bytes (length line) ≡ false = le-ltb most_line_bytes (length line) within in
    rw (short, blank) refl

pub line_asks : (line : List ℕ) → length line ≤ most_line_bytes → is_blank line ≡ false → asked_by_line line ≡ line_item line ∷ []
line_asks line within dark =
    let short : nat_lt most_line_bytes (length line) ≡ false = le-ltb most_line_bytes (length line) within in
    rw (short, dark) refl

-- ---- what the desk did

pub performs_call : (item : Item) (user : List ℕ) (asked : Call) (performed : Event) (reply : PlainReply) (a b : State) (f g : ℕ) → item ≡ Calls user asked → performed ≡ event_for asked → IsFormedCall asked → IsStep user performed a reply b → (IsTrue (is_fault (mark_of reply)) → Rose f g) → f ≤ g → Performs item reply a b f g
performs_call item user asked performed reply a b f g item_is event_is formed is rose later =
    let P : Event → Type 0 = λ e. IsStep user e a reply b in
    let stepped = subst P event_is is in
    record {
      entries = shell_entry user (event_for asked) reply ∷ [];
      answered = rw item_is (is_script user asked reply);
      leads = applied user (event_for asked) reply a b f g (λ own. permits own user asked formed) stepped rose later;
    }

-- ---- what a sink took

pub took_front : (before after : Option (List ℕ)) (text : List ℕ) → AppendsFront before after text → TookFront before after text
took_front before after text h = (take h.0 text, (drop h.0 text, sym (take-append-drop h.0 text)), h.2)

keeps_on : (a b c : Option (List ℕ)) (text : List ℕ) → Appends a b text → Keeps b c → Appends a c text
keeps_on None b c text appended kept = tt
keeps_on (Some x) None c text appended kept = absurd appended
keeps_on (Some x) (Some y) None text appended kept = absurd kept
keeps_on (Some x) (Some y) (Some z) text appended kept = kept ∙ appended

-- all of it, also where it can't be handed on
pub took_all : (a b c : Option (List ℕ)) (text : List ℕ) → Appends a b text → Keeps b c → TookFront a c text
took_all a b c text appended kept = (text, ([], sym (append-nil text)), keeps_on a b c text appended kept)

-- ---- clauses on results

pub on_ok : {T E : Type 0} (r : Result T E) (P Q : Type 0) → (P → Q) → OnOk r P → OnOk r Q
on_ok (Ok done) P Q then h = then h
on_ok (Err why) P Q then h = tt

pub if_err : (r : Result (Unit {0}) WriteStop) (P Q : WriteStop → Type 0) → ((why : WriteStop) → P why → Q why) → IfErr r P → IfErr r Q
if_err (Ok done) P Q then h = tt
if_err (Err why) P Q then h = then why h

pub on_err : {T E : Type 0} (r : Result T E) (P Q : Type 0) → (P → Q) → OnErr r P → OnErr r Q
on_err (Ok done) P Q then h = tt
on_err (Err why) P Q then h = then h

pub answered_ok : {T E : Type 0} (r : Result T E) (old new : Moment) (text : List ℕ) → OnOk r (Appends old.taken new.taken text) → OnOk r (new.flushed ≡ option_map length new.taken)
    → OnOk r (new.write_faults ≡ old.write_faults) → OnOk r (Answered old new text)
answered_ok (Ok done) old new text appended flushed calm = record { appended = appended; flushed = flushed; calm = calm }
answered_ok (Err why) old new text appended flushed calm = tt

pub both_err : {T E : Type 0} (r : Result T E) (P Q R : Type 0) → (P → Q → R) → OnErr r P → OnErr r Q → OnErr r R
both_err (Ok done) P Q R then p q = tt
both_err (Err why) P Q R then p q = then p q

pub at_err : {T E : Type 0} {P : Type 0} (r : Result T E) → P → OnErr r P
at_err (Ok done) h = tt
at_err (Err why) h = h

-- what holds after a write, and after one that failed
pub stopped_ok : {E : Type 0} (r : Result (Unit {0}) E) (P : Type 0) → OnOk r P → OnOk (stopped_by r) P
stopped_ok (Ok done) P h = h
stopped_ok (Err why) P h = tt

pub stopped_err : {E : Type 0} (r : Result (Unit {0}) E) (P : WriteStop → Type 0) → OnErr r (P stop.Fault) → IfErr (stopped_by r) P
stopped_err (Ok done) P h = tt
stopped_err (Err why) P h = h

-- what can't be begun for want of memory
pub halts_at_once : (items : List Item) (now : Moment) → Halts stop.OutOfMemory items now now
halts_at_once items now = halts_before stop.OutOfMemory [] items now now (halts_unbegun [] now now (serves_nothing now))

pub ok_when : {T E : Type 0} (r : Result T E) (P : Type 0) → is_err r ≡ false → OnOk r P → P
ok_when (Ok x) P fine h = h
ok_when (Err e) P fine h = absurd (true≢false fine)

-- what a line that is too long is refused with
abbrev pub too_long : Refusal
too_long = refusal.TooLong long.Line most_line_bytes

pub performs_long : (reply : PlainReply) (state : State) (faults : ℕ) → reply ≡ Refused too_long → Performs (Refuses too_long) reply state state faults faults
performs_long reply state faults is = rw is (performs_refusal too_long (Refuses too_long) state faults refl)
