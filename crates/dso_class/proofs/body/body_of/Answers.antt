use Rattle.std.proofs.Common.{rules, ◌≡◌, ◌++◌, [], Ok, Err, length, map, reverse, refl, sym, subst, ap, ◌∙◌, append-nil}
use Rattle.std.proofs.lemmas.List.{length-map}
use Rattle.dso_class.specs.FaultsAmong.{behind}
use Rattle.dso_config_entries.specs.BorrowedWords.{words_of}
use Rattle.dso_class.specs.Mentions as mention
use Rattle.dso_class.specs.Numbers.{MeansBlock}
use Rattle.dso_class.specs.BodyWalk.{Met, HasMet, IsWalked, known_in, met_in, owner_in}
use Rattle.dso_class.proofs.walks.Bodies.{param, begun, params_known, body_fails, body_right, variables_fit}
use Rattle.dso_class.proofs.walks.Knowing.{at_known}
use Rattle.dso_class.proofs.walks.BodyParts.{second_fails, both_made}
use Rattle.dso_class.proofs.body.body_of.Goals as goal

pub returns-in_err-statements-clause-right : goal.returns-in_err-statements-clause-right
returns-in_err-statements-clause-right c source before place fresh has =
    let params = c.args.params.now in
    let trees = c.args.statements.now in
    let owner = owner_in c.args.place.now in
    let words = words_of c.args.texts.now in
    let names = map (λ name. name.name) params in
    let start : HasMet before (record { texts = words; variables = words_of c.new.result; known = reverse (words_of c.new-2.result) }) =
    subst (λ all. HasMet before (record { texts = words; variables = words_of all; known = reverse (words_of c.new-2.result) })) (sym c.new.ensures)
    (subst (λ all. HasMet before (record { texts = words; variables = []; known = reverse (words_of all) })) (sym c.new-2.ensures) (begun fresh has)) in
    let same : known_in c.know_all.new.scope ≡ names =
    c.in_ok-know_all.ensures.known ∙ ap (λ all. names ++ reverse (words_of all)) (c.in_ok-judged.ensures.known ∙ c.new-2.ensures) ∙ append-nil names in
    let first = c.in_ok-judged.ensures.walked c.args.texts.now source before place fresh start in
    let ready = params_known params (met_in c.args.texts.now c.know_all.new.scope) fresh refl (ap words_of c.in_ok-know_all.ensures.variables) same first in
    let near = behind before (map param params) in
    let block = mention.block (map (mention.statement owner) trees) in
    let told : c.from_residual-in_err-statements.result ≡ Err c.in_err-statements.field-0.0 = search (rules, c.from_residual-in_err-statements.ensures) in
    let now = met_in c.block.new.texts c.block.new.scope in
    let failing = at_known block same (c.in_err-statements.ensures.walks source near place ready.answer.met) in
    let whole : IsWalked source owner before (mention.body owner params trees) (record { texts = words; variables = words_of c.new.result; known = reverse (words_of c.new-2.result) }) now (λ n all. MeansBlock n trees all) (Err c.in_err-statements.field-0.0) =
    second_fails c.in_err-statements.field-0.0 refl refl ready failing in
    body_fails params trees words (words_of c.block.new.texts) c.in_err-statements.field-0.0 told whole

pub returns-clause-right : goal.returns-clause-right
returns-clause-right c source before place fresh has =
    let params = c.args.params.now in
    let trees = c.args.statements.now in
    let owner = owner_in c.args.place.now in
    let words = words_of c.args.texts.now in
    let names = map (λ name. name.name) params in
    let start : HasMet before (record { texts = words; variables = words_of c.new.result; known = reverse (words_of c.new-2.result) }) =
    subst (λ all. HasMet before (record { texts = words; variables = words_of all; known = reverse (words_of c.new-2.result) })) (sym c.new.ensures)
    (subst (λ all. HasMet before (record { texts = words; variables = []; known = reverse (words_of all) })) (sym c.new-2.ensures) (begun fresh has)) in
    let same : known_in c.know_all.new.scope ≡ names =
    c.in_ok-know_all.ensures.known ∙ ap (λ all. names ++ reverse (words_of all)) (c.in_ok-judged.ensures.known ∙ c.new-2.ensures) ∙ append-nil names in
    let first = c.in_ok-judged.ensures.walked c.args.texts.now source before place fresh start in
    let ready = params_known params (met_in c.args.texts.now c.know_all.new.scope) fresh refl (ap words_of c.in_ok-know_all.ensures.variables) same first in
    let near = behind before (map param params) in
    let block = mention.block (map (mention.statement owner) trees) in
    let now = met_in c.block.new.texts c.block.new.scope in
    let second = at_known block same (c.in_ok-statements.ensures.walks source near place ready.answer.met) in
    let old : Met = record { texts = words; variables = words_of c.new.result; known = reverse (words_of c.new-2.result) } in
    let whole : IsWalked source owner before (mention.body owner params trees) old now (λ n all. MeansBlock n trees all) (Ok c.in_ok-statements.statements) =
    both_made c.in_ok-statements.statements refl refl (λ n one two. two) ready second in
    let counts = ap length c.as_slice.ensures ∙ sym (length-map c.block.new.scope.variables (λ word. word.now)) in
    body_right params trees (record { vars = c.narrow-vars.result; statements = c.in_ok-statements.statements }) fresh
    (variables_fit now.variables (length c.as_slice.result.now) c.narrow-vars.result whole.answer.met.few_variables counts c.narrow-vars.ensures) whole
