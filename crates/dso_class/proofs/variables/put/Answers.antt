use Rattle.std.proofs.Common.{◌≡◌, ◌∷◌, ◌++◌, [], arith, length, Contains, sym, subst, ap, ◌∙◌}
use Rattle.std.proofs.lemmas.List.{length-map}
use Rattle.dso_class.specs.declared.fault.NameKind.TheVariants as kind
use Rattle.dso_class.specs.declared.fault.What.TheVariants as what
use Rattle.dso_config_entries.specs.BorrowedWords.{words_of}
use Rattle.dso_class.specs.Numbers.{IsNumber}
use Rattle.dso_class.proofs.walks.Declaring.{count_met, new_met, declared_many, declared_right, grown_where}
use Rattle.dso_class.proofs.walks.Narrowing.{itself}
use Rattle.dso_class.proofs.walks.BodyParts.{failed_alone}
use Rattle.dso_class.proofs.variables.put.Goals as goal

pub returns-then-number-ge-MOST_VARIABLES-clause-walked : goal.returns-then-number-ge-MOST_VARIABLES-clause-walked
returns-then-number-ge-MOST_VARIABLES-clause-walked c texts source owner before here has declared =
    let words = words_of c.args.scope.now.variables in
    let count : length words ≡ length c.as_slice-number.result.now = length-map c.args.scope.now.variables (λ word. word.now) ∙ ap length (sym c.as_slice-number.ensures) in
    failed_alone c.args.name.now.line here (kind.TooMany what.Variables) (λ n number. IsNumber n.variables c.args.name.now.name number)
    (declared_many declared (omega (arith, count, count_met has, c.if-number-ge-MOST_VARIABLES.true)))

pub returns-clause-walked : goal.returns-clause-walked
returns-clause-walked c texts source owner before here has declared =
    let variables = c.args.scope.now.variables in
    let words = words_of variables in
    let now = c.add.new.self in
    let name = c.args.name.now.name in
    let number = length c.as_slice-number.result.now in
    let small = c.if-number-ge-MOST_VARIABLES.false in
    let count : length words ≡ number = length-map variables (λ word. word.now) ∙ ap length (sym c.as_slice-number.ensures) in
    let none : Contains words c.as_slice.result.now → ⊥ = subst (λ word. Contains words word → ⊥) (sym c.as_slice.ensures) (new_met has declared) in
    let longer : words_of now ≡ words ++ name ∷ [] =
    grown_where c.in_ok-add.field-0 variables now c.as_slice.result none c.in_ok-add.ensures.fresh c.in_ok-add.ensures.added ∙ ap (λ word. words ++ word ∷ []) c.as_slice.ensures in
    record {
      answer = declared_right c.args.name.now.line (words_of now) c.narrow.result has declared (omega (arith, count, small)) longer
          (itself number c.narrow.result (omega (arith, small)) c.narrow.ensures ∙ sym count);
    }
