-- Steps of the machine, by what an event is refused for and by what it does.
use Rattle.std.proofs.Common.{◌≡◌, ℕ, Bool, true, false, cond, List, [], ◌∷◌, Option, Some, None, Result, Ok, Err, refl, sym, ap, ◌∙◌, IsTrue, subst}
use Rattle.graph_model.specs.declared.refusal.Refusal.{Refusal}
use Rattle.graph_model.specs.declared.refusal.Refusal.TheVariants.{Mem}
use Rattle.graph_model.specs.Lists.{first_there}
use Rattle.graph_model.specs.Refusals.{UnlessMem}
use Rattle.desk_model.specs.declared.asked.Event.{Event}
use Rattle.desk_model.specs.Replies.{PlainReply, Refused}
use Rattle.desk_model.specs.State.{Part}
use Rattle.desk_model.specs.Step.{Plain, Mark, IsPartStep, MayStand, part_step, mark_of, mark_of_refusal, refusal_of, accepted, refused_part, may_want_memory, unless_refused, Outcome}

-- a refusal that shows no mark, where there is one
abbrev pub IsPlain : Option Refusal → Type 0
IsPlain None = Unit {0}
IsPlain (Some why) = mark_of_refusal why ≡ Plain

-- what holds anyway holds unless memory was wanting
pub unless-mem : (why : Refusal) (P : Type 0) → P → UnlessMem why P
unless-mem Mem P holds = tt
unless-mem other P holds = holds

pub first-plain : (a b : Option Refusal) → IsPlain a → IsPlain b → IsPlain (first_there a b)
first-plain None b pa pb = pb
first-plain (Some why) b pa pb = pa

pub plain-if : (b : Bool) (why : Refusal) → mark_of_refusal why ≡ Plain → IsPlain (cond b None (Some why))
plain-if true why is = tt
plain-if false why is = is

pub plain-unless : (b : Bool) (why : Refusal) → mark_of_refusal why ≡ Plain → IsPlain (cond b (Some why) None)
plain-unless true why is = is
plain-unless false why is = tt

-- an event that is refused
pub step-refused : (caller : List ℕ) (event : Event) (old new : Part) (why : Refusal) → IsPlain (refusal_of caller event old) → refusal_of caller event old ≡ Some why → new ≡ refused_part event old → IsPartStep caller event old (Refused why) new
step-refused caller event old new why plain refused left =
    let shows : mark_of_refusal why ≡ Plain = subst IsPlain refused plain in
    record {
      mark = subst (λ (m : Mark). MayStand m caller event old) (sym shows) tt;
      answer = sym (ap (λ (m : Mark). (part_step m caller event old).reply) shows ∙ ap (λ (r : Option Refusal). (unless_refused r event old).reply) refused);
      left = left ∙ sym (ap (λ (m : Mark). (part_step m caller event old).part) shows ∙ ap (λ (r : Option Refusal). (unless_refused r event old).part) refused);
    }

-- an event for which memory was wanting
pub step-memory : (caller : List ℕ) (event : Event) (old : Part) → may_want_memory event old ≡ true → IsPartStep caller event old (Refused Mem) old
step-memory caller event old may = record { mark = may; answer = refl; left = refl }

-- an event that is refused and leaves all as it was, or for which memory was wanting
pub step-unless : (caller : List ℕ) (event : Event) (old : Part) (why : Refusal) → may_want_memory event old ≡ true → IsPlain (refusal_of caller event old) → UnlessMem why (refusal_of caller event old ≡ Some why) → old ≡ refused_part event old → IsPartStep caller event old (Refused why) old
step-unless caller event old Mem may plain refused stays = step-memory caller event old may
step-unless caller event old why may plain refused stays = step-refused caller event old old why plain refused stays

-- an event that isn't refused
pub step-done : (caller : List ℕ) (event : Event) (old new : Part) (reply : PlainReply) → refusal_of caller event old ≡ None → mark_of reply ≡ Plain → reply ≡ (accepted event old).reply → new ≡ (accepted event old).part → IsPartStep caller event old reply new
step-done caller event old new reply allowed shows answer left = record {
  mark = subst (λ (m : Mark). MayStand m caller event old) (sym shows) tt;
  answer = answer ∙ sym (ap (λ (m : Mark). (part_step m caller event old).reply) shows ∙ ap (λ (r : Option Refusal). (unless_refused r event old).reply) allowed);
  left = left ∙ sym (ap (λ (m : Mark). (part_step m caller event old).part) shows ∙ ap (λ (r : Option Refusal). (unless_refused r event old).part) allowed);
}
