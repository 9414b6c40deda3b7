use Rattle.std.proofs.Common.{None, sym, subst, rules}
use Rattle.desk_model.specs.Valid.{IsValidLists}
use Rattle.desk_model.proofs.Valid.{loaded-valid}
use Rattle.desk_core.proofs.desk.Desk.start.Goals as goal

pub invariant_of-result : goal.invariant_of-result
invariant_of-result g c = record {
  graph = search rules;
  answers = search rules;
  valid = λ user. subst IsValidLists (sym (c.in-Ok-opened.ensures.users user)) (loaded-valid None c.in-Ok.kept c.in-Ok.ensures.valid user);
}

pub returns-in-Ok-opened-clause-valid : goal.returns-in-Ok-opened-clause-valid
returns-in-Ok-opened-clause-valid g c user = subst IsValidLists (sym (c.in-Ok-opened.ensures.users user)) (loaded-valid None c.in-Ok.kept c.in-Ok.ensures.valid user)
