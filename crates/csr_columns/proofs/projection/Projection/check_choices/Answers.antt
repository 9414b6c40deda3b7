use Rattle.std.proofs.Common.{◌≡◌, Some, None, map, ap, sym, ◌∙◌}
use Rattle.std.specs.Option.{option_copied}
use Rattle.graph_model.specs.View.{unknown_choice}
use Rattle.csr_columns.specs.Rows.{names_of}
use Rattle.csr_columns.specs.Parts.{kind_of}
use Rattle.csr_columns.specs.Choosing.{chosen}
use Rattle.csr_columns.proofs.Refusing.{refused-type, refused-key, lacking_key, lacking-some, lacking-none}
use Rattle.csr_columns.proofs.projection.Projection.check_choices.Goals as goal
use Rattle.csr_columns.proofs.projection.Projection.check_choices.Goals.{in-Some-weight+else-not-have_key, in_default-weight}

pub returns-in-Some-unknown_type-clause-refused : goal.returns-in-Some-unknown_type-clause-refused
returns-in-Some-unknown_type-clause-refused c =
    let label : unknown_choice (names_of c.args.self.now.labels) c.args.labels.now ≡ None = sym (rw c.labels.ensures at c.unknown.ensures) ∙ ap option_copied c.in_default.is in
    let type = rw c.types.ensures.types at c.in-Some-unknown_type.ensures in
    rw c.in_ok-rel_type.ensures (refused-type c.args.self.now c.args.labels.now c.args.types.now (option_copied c.args.weight) c.in-Some-unknown_type.rel_type.now label (sym type))

pub returns-then-not-have_key-clause-refused : goal.returns-then-not-have_key-clause-refused
returns-then-not-have_key-clause-refused c =
    let label : unknown_choice (names_of c.args.self.now.labels) c.args.labels.now ≡ None = sym (rw c.labels.ensures at c.unknown.ensures) ∙ ap option_copied c.in_default.is in
    let type : unknown_choice (map kind_of c.args.self.now.types) c.args.types.now ≡ None = sym (rw c.types.ensures.types at c.unknown_type.ensures) ∙ ap option_copied c.in_default-unknown_type.is in
    let lacks = sym (rw c.types-in-Some-weight.ensures.types at c.have_key.ensures) ∙ c.if-not-have_key.true in
    rw (c.in_ok-key.ensures)
    (refused-key c.args.self.now c.args.labels.now c.args.types.now (option_copied c.args.weight) (Some c.in-Some-weight.key.now) label type
    (rw c.in-Some-weight.is (lacking-some (chosen c.args.types.now c.args.self.now.types) c.in-Some-weight.key.now lacks)))

pub returns-clause-ok : goal.returns-clause-ok
returns-clause-ok c =
    let label : unknown_choice (names_of c.args.self.now.labels) c.args.labels.now ≡ None = sym (rw c.labels.ensures at c.unknown.ensures) ∙ ap option_copied c.in_default.is in
    let type : unknown_choice (map kind_of c.args.self.now.types) c.args.types.now ≡ None = sym (rw c.types.ensures.types at c.unknown_type.ensures) ∙ ap option_copied c.in_default-unknown_type.is in
    refused-key c.args.self.now c.args.labels.now c.args.types.now (option_copied c.args.weight) None label type
    (elim c.match-weight.branch [
      | in-Some-weight+else-not-have_key w ↦
          let has = sym (rw w.types-in-Some-weight.ensures.types at w.have_key.ensures) ∙ w.if-not-have_key.false in
          rw w.in-Some-weight.is (lacking-none (chosen c.args.types.now c.args.self.now.types) w.in-Some-weight.key.now has)
      | in_default-weight w ↦ ap (λ o. lacking_key (chosen c.args.types.now c.args.self.now.types) (option_copied o)) w.in_default-weight.is
    ])
