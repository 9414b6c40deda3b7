use Rattle.std.proofs.Common.{refl}
use Rattle.user_lists.proofs.users.Users.forget_answer.Goals as goal

pub returns-in_default-clause-own : goal.returns-in_default-clause-own
returns-in_default-clause-own c = rw (c.in_default.ensures.none, ← c.in_default.ensures.value) refl
