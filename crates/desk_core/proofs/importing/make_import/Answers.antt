use Rattle.std.proofs.Common.{◌≡◌, List, Option, Some, sym, ap, ◌∙◌, subst, rules}
use Rattle.std.specs.Option.{option_map}
use Rattle.graph_model.specs.declared.kept.ImportNote.{ImportNote}
use Rattle.graph_model.specs.Kept.{notes_after}
use Rattle.desk_model.specs.Step.{with_answer}
use Rattle.user_lists.specs.Users.{lists_of, OthersStay}
use Rattle.desk_core.specs.Fields.{TellsAnswers, told_notes}
use Rattle.desk_core.proofs.ToldLemmas.{answer_valid, same_told, noted}
use Rattle.desk_core.proofs.importing.make_import.Goals as goal

pub returns-then-is_err-clause-told : goal.returns-then-is_err-clause-told
returns-then-is_err-clause-told g c =
    let same : lists_of c.keep_answer.new.self c.args.user.now ≡ lists_of c.args.users.now c.args.user.now = search rules in
    same_told _ _ c.args.user.now c.args.users.now c.keep_answer.new.self c.requires.told same c.keep_answer.ensures.others

pub returns-in-Ok-keep_and_make-clause-told : goal.returns-in-Ok-keep_and_make-clause-told
returns-in-Ok-keep_and_make-clause-told g c =
    let own : lists_of c.keep_answer.new.self c.args.user.now ≡ with_answer (Some c.args.id.now) c.answer-answer.result (lists_of c.args.users.now c.args.user.now) = search rules in
    record {
      graph = c.in-Ok-keep_and_make.ensures.told;
      answers = noted (told_notes (g.K.Keeper.kept c.args.keeper.now)) _ c.args.user.now c.args.id.now c.answer-answer.result c.args.users.now c.keep_answer.new.self
          (c.in-Ok-keep_and_make.ensures.noted ∙ ap (λ (n : ImportNote). option_map (notes_after (Some n)) (told_notes (g.K.Keeper.kept c.args.keeper.now))) c.in-Ok-note_of.ensures)
          c.requires.told.answers own c.keep_answer.ensures.others;
      valid = answer_valid c.args.user.now c.args.id.now c.answer-answer.result c.args.users.now c.keep_answer.new.self c.requires.room own c.keep_answer.ensures.others c.requires.told.valid;
    }

pub returns-clause-told : goal.returns-clause-told
returns-clause-told g c =
    let same : lists_of c.forget_answer.new.self c.args.user.now ≡ lists_of c.args.users.now c.args.user.now = search rules in
    let others : OthersStay c.args.user.now c.args.users.now c.forget_answer.new.self = λ other apart. c.forget_answer.ensures.others other apart ∙ c.keep_answer.ensures.others other apart in
    let told = same_told _ _ c.args.user.now c.args.users.now c.forget_answer.new.self c.requires.told same others in
    record {
      graph = c.in-Err-keep_and_make.ensures.told;
      answers = subst (λ (notes : Option (List ImportNote)). TellsAnswers notes c.forget_answer.new.self) (sym c.in-Err-keep_and_make.ensures.unnoted) told.answers;
      valid = told.valid;
    }
