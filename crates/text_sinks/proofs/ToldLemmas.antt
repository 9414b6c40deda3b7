-- A text that is put part by part.
use Rattle.std.proofs.Common.{◌≡◌, ℕ, ◌+◌, ◌≤◌, List, [], ◌++◌, length, take, Option, Some, None, Result, Ok, Err, OnOk, OnErr, refl, ap, sym, subst, ◌∙◌, arith, append_assoc, append-nil, length-append}
use Rattle.std.proofs.lemmas.Bool.{false≢true}
use Rattle.std.proofs.lemmas.List.{take-append-le}
use Rattle.std.proofs.Math.Seq.{take-append-add}
use Rattle.std.specs.Result.{IsErr}
use Rattle.std.specs.Io.KnownBytes.{Appends}
use Rattle.std.proofs.KnownBytes.{Appends-nil}
use Rattle.gds_causes.specs.Faults.{Rose}
use Rattle.gds_causes.specs.Front.{AppendsFront}
use Rattle.gds_causes.proofs.Taking.{Appends-++}
use Rattle.text_sinks.specs.Told.{Told, Grows, Puts, Stops, Wrote, gathered}

grows_then : (a b c : Option ℕ) (n m : ℕ) → Grows a b n → Grows b c m → Grows a c (n + m)
grows_then None b c n m first second = tt
grows_then (Some x) None c n m first second = absurd first
grows_then (Some x) (Some y) None n m first second = absurd second
grows_then (Some x) (Some y) (Some z) n m first second = omega (arith, first, second)

-- what waited and both parts are what was handed on, and what waits
regrouped : (old first second handed more mid new : List ℕ) → old ++ first ≡ handed ++ mid → mid ++ second ≡ more ++ new
    → old ++ (first ++ second) ≡ (handed ++ more) ++ new
regrouped old first second handed more mid new one two =
    sym (append_assoc old first second) ∙ ap (λ xs. xs ++ second) one ∙ append_assoc handed mid second
    ∙ ap (λ xs. handed ++ xs) two ∙ sym (append_assoc handed more new)

-- one part after another
pub puts_then : {a b c : Told} {first second : List ℕ} → Puts a b first → Puts b c second → Puts a c (first ++ second)
puts_then {a = a} {b = b} {c = c} {first = first} {second = second} one two = record {
  same = two.same ∙ one.same;
  counted =
      rw (length-append first second) (grows_then a.count b.count c.count (length first) (length second) one.counted two.counted);
  front = one.front ++ two.front;
  handed = Appends-++ a.taken b.taken c.taken one.front two.front one.handed two.handed;
  whole = regrouped a.waiting first second one.front two.front b.waiting c.waiting one.whole two.whole;
  held = two.held ∙ one.held;
  calm = two.calm ∙ one.calm;
}

-- it stopped in a later part
pub stops_then : {a b c : Told} {first second : List ℕ} → Puts a b first → Stops b c second → Stops a c (first ++ second)
stops_then {a = a} {b = b} {c = c} {first = first} {second = second} one two =
    let n = two.front.0 in
    let mid = b.waiting ++ second in
    let whole : a.waiting ++ (first ++ second) ≡ one.front ++ mid =
    sym (append_assoc a.waiting first second) ∙ ap (λ xs. xs ++ second) one.whole ∙ append_assoc one.front b.waiting second in
    let fits : length one.front + n ≤ length (a.waiting ++ (first ++ second)) =
    omega (arith, two.front.1, length-append one.front mid, ap length whole) in
    let part : take (length one.front + n) (a.waiting ++ (first ++ second)) ≡ one.front ++ take n mid =
    ap (take (length one.front + n)) whole ∙ take-append-add one.front mid n in
    record {
      same = two.same ∙ one.same;
      front = (length one.front + n, fits, rw part (Appends-++ a.taken b.taken c.taken one.front (take n mid) one.handed two.front.2));
      held = two.held ∙ one.held;
      fault = rw (← one.calm) two.fault;
      later = rw (← one.calm) two.later;
    }

-- it stopped before the parts that follow
pub stops_more : {a b : Told} {first : List ℕ} (second : List ℕ) → Stops a b first → Stops a b (first ++ second)
stops_more {a = a} {b = b} {first = first} second one =
    let n = one.front.0 in
    let whole = append_assoc a.waiting first second in
    let fits : n ≤ length (a.waiting ++ (first ++ second)) =
    omega (arith, one.front.1, length-append (a.waiting ++ first) second, ap length whole) in
    let part : take n (a.waiting ++ (first ++ second)) ≡ take n (a.waiting ++ first) =
    ap (take n) (sym whole) ∙ take-append-le n (a.waiting ++ first) second one.front.1 in
    record { same = one.same; front = (n, fits, rw part one.front.2); held = one.held; fault = one.fault; later = one.later }

grows_nothing : (a : Option ℕ) → Grows a a 0
grows_nothing None = tt
grows_nothing (Some n) = omega arith

-- nothing is put
pub puts_nothing : (told : Told) → Puts told told []
puts_nothing told = record {
  same = refl;
  counted = grows_nothing told.count;
  front = [];
  handed = Appends-nil told.taken;
  whole = append-nil told.waiting;
  held = refl;
  calm = refl;
}

-- a part was put, and another one behind it, or it stopped there
pub wrote_then : {A E : Type 0} {answer : Result A E} {a b c : Told} {first second : List ℕ} → Puts a b first → Wrote answer b c second → Wrote answer a c (first ++ second)
wrote_then {answer = Ok value} one two =
    record { ok = puts_then one two.ok; err = tt }
wrote_then {answer = Err why} one two =
    record { ok = tt; err = stops_then one two.err }

-- an answer that is an error stopped
pub wrote_err : {A E : Type 0} {answer : Result A E} {a b : Told} {text : List ℕ} → IsErr answer → Stops a b text → Wrote answer a b text
wrote_err {answer = Ok value} failed stopped = absurd (false≢true failed)
wrote_err {answer = Err why} failed stopped = record { ok = tt; err = stopped }

-- a text is written to a sink where nothing waits
pub wrote_all : {A E : Type 0} (answer : Result A E) (of : ℕ) (taken left : Option (List ℕ)) (flushed held : Option ℕ) (faults count : ℕ) (text : List ℕ)
    → OnOk answer (Appends taken left text) → OnErr answer (AppendsFront taken left text) → held ≡ flushed → OnErr answer (Rose faults count) → OnOk answer (count ≡ faults)
    → faults ≤ count → Wrote answer (gathered of taken [] flushed faults) (gathered of left [] held count) text
wrote_all (Ok value) of taken left flushed held faults count text ok err same fault calm later =
    record { ok = record { same = refl; counted = tt; front = text; handed = ok; whole = sym (append-nil text); held = same; calm = calm }; err = tt }
wrote_all (Err why) of taken left flushed held faults count text ok err same fault calm later =
    record { ok = tt; err = record { same = refl; front = err; held = same; fault = fault; later = later } }

-- two texts, of which the first stopped
pub stops_front : {A E : Type 0} {answer : Result A E} {a b : Told} {first : List ℕ} (second : List ℕ) → IsErr answer → Stops a b first → Wrote answer a b (first ++ second)
stops_front second failed one = wrote_err failed (stops_more second one)

-- three texts, of which the first stopped
pub stops_first : {A E : Type 0} {answer : Result A E} {a b : Told} {first : List ℕ} (second third : List ℕ) → IsErr answer → Stops a b first
    → Wrote answer a b ((first ++ second) ++ third)
stops_first second third failed one =
    wrote_err failed (stops_more third (stops_more second one))

-- three texts, of which the second stopped
pub stops_second : {A E : Type 0} {answer : Result A E} {a b c : Told} {first second : List ℕ} (third : List ℕ) → IsErr answer → Puts a b first → Stops b c second
    → Wrote answer a c ((first ++ second) ++ third)
stops_second third failed one two =
    wrote_err failed (stops_more third (stops_then one two))

-- three texts, of which the first two were put
pub wrote_third : {A E : Type 0} {answer : Result A E} {a b c d : Told} {first second third : List ℕ} → Puts a b first → Puts b c second → Wrote answer c d third
    → Wrote answer a d ((first ++ second) ++ third)
wrote_third one two three = wrote_then (puts_then one two) three

-- where nothing waits before and after, a text that was put is one that was taken
pub wrote_taken : {A E : Type 0} {answer : Result A E} {a b : Told} {text : List ℕ} → a.waiting ≡ [] → b.waiting ≡ [] → Wrote answer a b text
    → OnOk answer (Appends a.taken b.taken text)
wrote_taken {answer = Ok value} {a = a} {b = b} {text = text} before after wrote =
    let put = wrote.ok in
    let same : text ≡ put.front = ap (λ xs. xs ++ text) (sym before) ∙ put.whole ∙ ap (λ xs. put.front ++ xs) after ∙ append-nil put.front in
    rw same put.handed
wrote_taken {answer = Err why} before after wrote = tt

-- where nothing waits before, a front of a text was taken
pub wrote_front : {A E : Type 0} {answer : Result A E} {a b : Told} {text : List ℕ} → a.waiting ≡ [] → Wrote answer a b text
    → OnErr answer (AppendsFront a.taken b.taken text)
wrote_front {answer = Ok value} before wrote = tt
wrote_front {answer = Err why} {a = a} {b = b} {text = text} before wrote =
    subst (λ (waiting : List ℕ). AppendsFront a.taken b.taken (waiting ++ text)) before wrote.err.front

-- a count of faults doesn't fall
pub wrote_later : {A E : Type 0} {answer : Result A E} {a b : Told} {text : List ℕ} → Wrote answer a b text → a.faults ≤ b.faults
wrote_later {answer = Ok value} wrote = omega (arith, wrote.ok.calm)
wrote_later {answer = Err why} wrote = wrote.err.later

-- what was flushed stays so
pub wrote_held : {A E : Type 0} {answer : Result A E} {a b : Told} {text : List ℕ} → Wrote answer a b text → b.flushed ≡ a.flushed
wrote_held {answer = Ok value} wrote = wrote.ok.held
wrote_held {answer = Err why} wrote = wrote.err.held

-- without a fault the count stands
pub wrote_calm : {A E : Type 0} {answer : Result A E} {a b : Told} {text : List ℕ} → Wrote answer a b text → OnOk answer (b.faults ≡ a.faults)
wrote_calm {answer = Ok value} wrote = wrote.ok.calm
wrote_calm {answer = Err why} wrote = tt

-- at a fault it rose
pub wrote_fault : {A E : Type 0} {answer : Result A E} {a b : Told} {text : List ℕ} → Wrote answer a b text → OnErr answer (Rose a.faults b.faults)
wrote_fault {answer = Ok value} wrote = tt
wrote_fault {answer = Err why} wrote = wrote.err.fault
