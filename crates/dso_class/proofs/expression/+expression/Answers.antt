use Rattle.std.proofs.Common.{rules, ◌≡◌, ◌++◌, ◌∷◌, ◌+◌, [], Err, length, map, take, drop, refl, sym, subst, ap, ◌∙◌, append-nil}
use Rattle.std.proofs.lemmas.List.{take_all}
use Rattle.dso_base.specs.declared.value.Value.TheVariants as value
use Rattle.dso_machine.specs.declared.tree.Expr.TheVariants as x
use Rattle.dso_syntax.specs.declared.tree.ExprTree.{out-ExprTree}
use Rattle.dso_syntax.specs.declared.tree.ExprForm.TheVariants as e
use Rattle.dso_syntax.specs.Grammar as grammar
use Rattle.dso_class.specs.declared.uses.Role.TheVariants as role
use Rattle.dso_class.specs.FaultsAmong.{behind}
use Rattle.dso_class.specs.Mentions as mention
use Rattle.dso_class.specs.Mentions.{on, all_of}
use Rattle.dso_class.specs.Numbers.{MeansExpr, MeansExprs, number, truth, null, parens, array, field, element, call, unary, binary, none}
use Rattle.dso_class.specs.BodyWalk.{owner_in, known_in, used}
use Rattle.dso_class.proofs.walks.Arguments.{one_more, first_of, means_more}
use Rattle.dso_class.proofs.mentions.Meanings.{of_form}
use Rattle.dso_class.proofs.mentions.OfExpressions.{tree_is, at_number, at_text, at_truth, at_null, at_this, at_new_object, at_paren, at_new_array, at_elem, at_unary, at_binary, at_field, in_role, bare_in_role, named_field, plain_field, call_parts}
use Rattle.dso_class.proofs.walks.BodyParts.{within_fails, first_fails, second_fails, both_made, only_fails, one_made, none_made, only_tail, second_tail}
use Rattle.dso_class.proofs.expression.+expression.Goals as goal

pub expression-returns-in-Number : goal.expression-returns-in-Number
expression-returns-in-Number t c source before place has =
    let tree = c.args.tree.now in
    let owner = owner_in c.args.environment.place.now in
    let known = known_in c.args.environment.scope.now in
    let is = in_role c.args.role _ known (at_number owner tree c.in-Number.value c.in-Number.is) in
    none_made c.long.result is refl (λ n. subst (λ a. MeansExpr n tree a) (sym c.long.ensures) (of_form n tree (e.Number c.in-Number.value) _ c.in-Number.is number)) has

pub expression-returns-in-Text : goal.expression-returns-in-Text
expression-returns-in-Text t c source before place has =
    let tree = c.args.tree.now in
    let owner = owner_in c.args.environment.place.now in
    let known = known_in c.args.environment.scope.now in
    let is = in_role c.args.role _ known (at_text owner tree c.in-Text.content c.in-Text.is) in
    only_tail c.literal.result is (λ n a. of_form n tree (e.Text c.in-Text.content) a c.in-Text.is) (c.literal.ensures c.args.environment.place.now c.args.environment.scope.now source before place has)

pub expression-returns-in-Truth : goal.expression-returns-in-Truth
expression-returns-in-Truth t c source before place has =
    let tree = c.args.tree.now in
    let owner = owner_in c.args.environment.place.now in
    let known = known_in c.args.environment.scope.now in
    let is = in_role c.args.role _ known (at_truth owner tree c.in-Truth.truth c.in-Truth.is) in
    none_made (x.Const (value.Bool c.in-Truth.truth)) is refl (λ n. of_form n tree (e.Truth c.in-Truth.truth) _ c.in-Truth.is truth) has

pub expression-returns-in-Null : goal.expression-returns-in-Null
expression-returns-in-Null t c source before place has =
    let tree = c.args.tree.now in
    let owner = owner_in c.args.environment.place.now in
    let known = known_in c.args.environment.scope.now in
    let is = in_role c.args.role _ known (at_null owner tree c.in-Null.is) in
    none_made (x.Const value.Null) is refl (λ n. of_form n tree e.Null _ c.in-Null.is null) has

pub expression-returns-in-This : goal.expression-returns-in-This
expression-returns-in-This t c source before place has =
    let tree = c.args.tree.now in
    let owner = owner_in c.args.environment.place.now in
    let known = known_in c.args.environment.scope.now in
    let is = in_role c.args.role _ known (at_this owner tree c.in-This.is) in
    only_tail c.own.result is (λ n a. of_form n tree e.This a c.in-This.is) (c.own.ensures c.args.texts.now c.args.environment.scope.now source before place has)

pub expression-returns-in-Name : goal.expression-returns-in-Name
expression-returns-in-Name t c source before place has =
    let tree = c.args.tree.now in
    let owner = owner_in c.args.environment.place.now in
    let known = known_in c.args.environment.scope.now in
    let is = bare_in_role c.args.role owner tree c.in-Name.word known c.in-Name.is in
    only_tail c.name.result is (λ n a. of_form n tree (e.Name c.in-Name.word) a c.in-Name.is) (c.name.ensures c.args.texts.now source before place has)

pub expression-returns-in-Paren : goal.expression-returns-in-Paren
expression-returns-in-Paren t c source before place has =
    let tree = c.args.tree.now in
    let owner = owner_in c.args.environment.place.now in
    let known = known_in c.args.environment.scope.now in
    let form : (out-ExprTree tree).form ≡ e.Paren c.get.result.now = c.in-Paren.is ∙ ap e.Paren (sym c.get.ensures) in
    let is = in_role c.args.role _ known (at_paren owner tree c.get.result.now form) in
    only_tail c.expression.result is (λ n a inner. of_form n tree (e.Paren c.get.result.now) a form (parens inner)) (c.expression.ensures source before place has)

pub expression-returns-in-NewObject : goal.expression-returns-in-NewObject
expression-returns-in-NewObject t c source before place has =
    let tree = c.args.tree.now in
    let owner = owner_in c.args.environment.place.now in
    let known = known_in c.args.environment.scope.now in
    let is = in_role c.args.role _ known (at_new_object owner tree c.in-NewObject.class c.in-NewObject.is) in
    only_tail c.object.result is (λ n a. of_form n tree (e.NewObject c.in-NewObject.class) a c.in-NewObject.is) (c.object.ensures c.args.texts.now c.args.environment.scope.now source before place has)

pub expression-returns-in_err-left-in-Binary : goal.expression-returns-in_err-left-in-Binary
expression-returns-in_err-left-in-Binary t c source before place has =
    let tree = c.args.tree.now in
    let owner = owner_in c.args.environment.place.now in
    let known = known_in c.args.environment.scope.now in
    let form : (out-ExprTree tree).form ≡ e.Binary c.in-Binary.op c.get-in-Binary.result.now c.in-Binary.right = c.in-Binary.is ∙ ap (λ one. e.Binary c.in-Binary.op one c.in-Binary.right) (sym c.get-in-Binary.ensures) in
    let is = in_role c.args.role _ known (at_binary owner tree c.in-Binary.op c.get-in-Binary.result.now c.in-Binary.right form) in
    let told : c.from_residual-in_err-left-in-Binary.result ≡ Err c.in_err-left-in-Binary.field-0.0 = search (rules, c.from_residual-in_err-left-in-Binary.ensures) in
    first_fails ((mention.expression owner c.in-Binary.right).mentions known) c.in_err-left-in-Binary.field-0.0 is told (c.in_err-left-in-Binary.ensures source before place has)

pub expression-returns-in_err-right-in-Binary : goal.expression-returns-in_err-right-in-Binary
expression-returns-in_err-right-in-Binary t c source before place has =
    let tree = c.args.tree.now in
    let owner = owner_in c.args.environment.place.now in
    let known = known_in c.args.environment.scope.now in
    let form : (out-ExprTree tree).form ≡ e.Binary c.in-Binary.op c.get-in-Binary.result.now c.get-in-Binary-2.result.now = c.in-Binary.is ∙ ap (λ one. e.Binary c.in-Binary.op one c.in-Binary.right) (sym c.get-in-Binary.ensures) ∙ ap (e.Binary c.in-Binary.op c.get-in-Binary.result.now) (sym c.get-in-Binary-2.ensures) in
    let is = in_role c.args.role _ known (at_binary owner tree c.in-Binary.op c.get-in-Binary.result.now c.get-in-Binary-2.result.now form) in
    let told : c.from_residual-in_err-right-in-Binary.result ≡ Err c.in_err-right-in-Binary.field-0.0 = search (rules, c.from_residual-in_err-right-in-Binary.ensures) in
    let first = c.in_ok-left-in-Binary.ensures source before place has in
    second_fails c.in_err-right-in-Binary.field-0.0 is told first (c.in_err-right-in-Binary.ensures source (behind before ((mention.expression owner c.get-in-Binary.result.now).mentions known)) place first.answer.met)

pub expression-returns-in_ok-right-in-Binary : goal.expression-returns-in_ok-right-in-Binary
expression-returns-in_ok-right-in-Binary t c source before place has =
    let tree = c.args.tree.now in
    let owner = owner_in c.args.environment.place.now in
    let known = known_in c.args.environment.scope.now in
    let form : (out-ExprTree tree).form ≡ e.Binary c.in-Binary.op c.get-in-Binary.result.now c.get-in-Binary-2.result.now = c.in-Binary.is ∙ ap (λ one. e.Binary c.in-Binary.op one c.in-Binary.right) (sym c.get-in-Binary.ensures) ∙ ap (e.Binary c.in-Binary.op c.get-in-Binary.result.now) (sym c.get-in-Binary-2.ensures) in
    let is = in_role c.args.role _ known (at_binary owner tree c.in-Binary.op c.get-in-Binary.result.now c.get-in-Binary-2.result.now form) in
    let first = c.in_ok-left-in-Binary.ensures source before place has in
    let value = x.Binary c.in-Binary.op c.in_ok-left-in-Binary.left c.in_ok-right-in-Binary.right in
    both_made value is c.binary.ensures (λ n one two. of_form n tree (e.Binary c.in-Binary.op c.get-in-Binary.result.now c.get-in-Binary-2.result.now) value form (binary one two)) first
    (c.in_ok-right-in-Binary.ensures source (behind before ((mention.expression owner c.get-in-Binary.result.now).mentions known)) place first.answer.met)

pub expression-returns-in-Field : goal.expression-returns-in-Field
expression-returns-in-Field t c source before place has =
    let tree = c.args.tree.now in
    let owner = owner_in c.args.environment.place.now in
    let known = known_in c.args.environment.scope.now in
    let a = c.get-in-Field.result.now in
    let form : (out-ExprTree tree).form ≡ e.Field a c.in-Field.word = c.in-Field.is ∙ ap (λ on. e.Field on c.in-Field.word) (sym c.get-in-Field.ensures) in
    let is = in_role c.args.role _ known (at_field owner tree a c.in-Field.word form) in
    only_tail c.of_field.result is (λ n given means. of_form n tree (e.Field a c.in-Field.word) given form (means (out-ExprTree tree).line)) (c.of_field.ensures source before place has)

pub expression-returns-in_err-on-in-Elem : goal.expression-returns-in_err-on-in-Elem
expression-returns-in_err-on-in-Elem t c source before place has =
    let tree = c.args.tree.now in
    let owner = owner_in c.args.environment.place.now in
    let known = known_in c.args.environment.scope.now in
    let form : (out-ExprTree tree).form ≡ e.Elem c.get-in-Elem.result.now c.in-Elem.at = c.in-Elem.is ∙ ap (λ one. e.Elem one c.in-Elem.at) (sym c.get-in-Elem.ensures) in
    let is = in_role c.args.role _ known (at_elem owner tree c.get-in-Elem.result.now c.in-Elem.at form) in
    let told : c.from_residual-in_err-on-in-Elem.result ≡ Err c.in_err-on-in-Elem.field-0.0 = search (rules, c.from_residual-in_err-on-in-Elem.ensures) in
    first_fails ((mention.expression owner c.in-Elem.at).mentions known) c.in_err-on-in-Elem.field-0.0 is told (c.in_err-on-in-Elem.ensures source before place has)

pub expression-returns-in_err-at-in-Elem : goal.expression-returns-in_err-at-in-Elem
expression-returns-in_err-at-in-Elem t c source before place has =
    let tree = c.args.tree.now in
    let owner = owner_in c.args.environment.place.now in
    let known = known_in c.args.environment.scope.now in
    let form : (out-ExprTree tree).form ≡ e.Elem c.get-in-Elem.result.now c.get-in-Elem-2.result.now = c.in-Elem.is ∙ ap (λ one. e.Elem one c.in-Elem.at) (sym c.get-in-Elem.ensures) ∙ ap (e.Elem c.get-in-Elem.result.now) (sym c.get-in-Elem-2.ensures) in
    let is = in_role c.args.role _ known (at_elem owner tree c.get-in-Elem.result.now c.get-in-Elem-2.result.now form) in
    let told : c.from_residual-in_err-at-in-Elem.result ≡ Err c.in_err-at-in-Elem.field-0.0 = search (rules, c.from_residual-in_err-at-in-Elem.ensures) in
    let first = c.in_ok-on-in-Elem.ensures source before place has in
    second_fails c.in_err-at-in-Elem.field-0.0 is told first (c.in_err-at-in-Elem.ensures source (behind before ((mention.expression owner c.get-in-Elem.result.now).mentions known)) place first.answer.met)

pub expression-returns-in_ok-at-in-Elem : goal.expression-returns-in_ok-at-in-Elem
expression-returns-in_ok-at-in-Elem t c source before place has =
    let tree = c.args.tree.now in
    let owner = owner_in c.args.environment.place.now in
    let known = known_in c.args.environment.scope.now in
    let form : (out-ExprTree tree).form ≡ e.Elem c.get-in-Elem.result.now c.get-in-Elem-2.result.now = c.in-Elem.is ∙ ap (λ one. e.Elem one c.in-Elem.at) (sym c.get-in-Elem.ensures) ∙ ap (e.Elem c.get-in-Elem.result.now) (sym c.get-in-Elem-2.ensures) in
    let is = in_role c.args.role _ known (at_elem owner tree c.get-in-Elem.result.now c.get-in-Elem-2.result.now form) in
    let first = c.in_ok-on-in-Elem.ensures source before place has in
    let value = x.Elem c.in_ok-on-in-Elem.on c.in_ok-at-in-Elem.at in
    both_made value is c.element.ensures (λ n one two. of_form n tree (e.Elem c.get-in-Elem.result.now c.get-in-Elem-2.result.now) value form (element one two)) first
    (c.in_ok-at-in-Elem.ensures source (behind before ((mention.expression owner c.get-in-Elem.result.now).mentions known)) place first.answer.met)

pub expression-returns-in_err-on-in-Call : goal.expression-returns-in_err-on-in-Call
expression-returns-in_err-on-in-Call t c source before place has =
    let tree = c.args.tree.now in
    let owner = owner_in c.args.environment.place.now in
    let known = known_in c.args.environment.scope.now in
    let a = c.get-in-Call.result.now in
    let args = c.in-Call.trees in
    let form : (out-ExprTree tree).form ≡ e.Call a c.in-Call.word args = c.in-Call.is ∙ ap (λ on. e.Call on c.in-Call.word c.in-Call.trees) (sym c.get-in-Call.ensures) in
    let is = call_parts c.args.role owner tree a c.in-Call.word args (length c.in-Call.trees) known form (refl) in
    let rest = all_of (map (mention.expression owner) args) known in
    let told : c.from_residual.result ≡ Err c.in_err-on-in-Call.field-0.0 = search (rules, c.from_residual.ensures) in
    first_fails (on c.in-Call.word.line (mention.call c.in-Call.word.name (length c.in-Call.trees)) ∷ rest) c.in_err-on-in-Call.field-0.0 is told (c.in_err-on-in-Call.ensures source before place has)

pub expression-returns-in_ok-on-in-Call : goal.expression-returns-in_ok-on-in-Call
expression-returns-in_ok-on-in-Call t c source before place has =
    let tree = c.args.tree.now in
    let owner = owner_in c.args.environment.place.now in
    let known = known_in c.args.environment.scope.now in
    let a = c.get-in-Call.result.now in
    let args = c.as_slice.result.now in
    let word = c.in-Call.word in
    let form : (out-ExprTree tree).form ≡ e.Call a word args = c.in-Call.is ∙ ap (λ on. e.Call on word c.in-Call.trees) (sym c.get-in-Call.ensures) ∙ ap (e.Call a word) (sym c.as_slice.ensures) in
    let is = call_parts c.args.role owner tree a word args (length args) known form refl in
    let first = c.in_ok-on-in-Call.ensures source before place has in
    let near = behind before (used role.Object (mention.expression owner a) known) in
    second_tail c.call_on.result is (λ n given one means. of_form n tree (e.Call a word args) given form (means (out-ExprTree tree).line a one)) first
    (c.call_on.ensures source near place first.answer.met)

pub call_on-returns-in_err-methods : goal.call_on-returns-in_err-methods
call_on-returns-in_err-methods t c source before place has =
    let owner = owner_in c.args.environment.place.now in
    let known = known_in c.args.environment.scope.now in
    let trees = c.args.trees.now in
    let word = c.args.word.now in
    let here = on word.line (mention.call word.name (length trees)) in
    let rest = all_of (map (mention.expression owner) trees) known in
    let told : c.from_residual.result ≡ Err c.in_err-methods.field-0.0 = search (rules, c.from_residual.ensures) in
    first_fails rest c.in_err-methods.field-0.0 refl told (c.in_err-methods.ensures c.args.texts.now c.args.environment.scope.now source before place has)

pub call_on-returns-in_err-arguments : goal.call_on-returns-in_err-arguments
call_on-returns-in_err-arguments t c source before place has =
    let owner = owner_in c.args.environment.place.now in
    let known = known_in c.args.environment.scope.now in
    let trees = c.args.trees.now in
    let word = c.args.word.now in
    let here = on word.line (mention.call word.name (length trees)) in
    let first = c.in_ok-methods.ensures c.args.texts.now c.args.environment.scope.now source before place has in
    let told : c.from_residual-in_err-arguments.result ≡ Err c.in_err-arguments.field-0.0 = search (rules, c.from_residual-in_err-arguments.ensures) in
    second_fails c.in_err-arguments.field-0.0 refl told first (c.in_err-arguments.ensures source (here ∷ before) place first.answer.met)

pub call_on-returns : goal.call_on-returns
call_on-returns t c source before place has =
    let owner = owner_in c.args.environment.place.now in
    let known = known_in c.args.environment.scope.now in
    let trees = c.args.trees.now in
    let word = c.args.word.now in
    let here = on word.line (mention.call word.name (length trees)) in
    let first = c.in_ok-methods.ensures c.args.texts.now c.args.environment.scope.now source before place has in
    let value = x.Call c.args.object c.in_ok-methods.methods c.in_ok-arguments.arguments in
    both_made value refl c.call_of.ensures (λ n methods arguments line tree one. call one methods arguments) first
    (c.in_ok-arguments.ensures source (here ∷ before) place first.answer.met)

pub of_field-returns-in-Some : goal.of_field-returns-in-Some
of_field-returns-in-Some t c source before place has =
    let owner = owner_in c.args.environment.place.now in
    let known = known_in c.args.environment.scope.now in
    let a = c.args.on.now in
    let word = c.args.word.now in
    let named : (out-ExprTree a).form ≡ e.Name c.in-Some.owner.now = c.in-Some.ensures.name in
    only_tail c.of_name.result (named_field owner a word c.in-Some.owner.now known named)
    (λ n given means line. subst (λ on. MeansExpr n (grammar.expression line (e.Field on word)) given) (sym (tree_is a (e.Name c.in-Some.owner.now) named)) (means line word refl))
    (c.of_name.ensures c.args.texts.now source before place has)

pub of_field-returns-in_err-on-in-None : goal.of_field-returns-in_err-on-in-None
of_field-returns-in_err-on-in-None t c source before place has =
    let owner = owner_in c.args.environment.place.now in
    let known = known_in c.args.environment.scope.now in
    let is = plain_field owner c.args.on.now c.args.word.now known (c.in-None.ensures.other owner) in
    let told : c.from_residual.result ≡ Err c.in_err-on-in-None.field-0.0 = search (rules, c.from_residual.ensures) in
    only_fails c.in_err-on-in-None.field-0.0 is told (c.in_err-on-in-None.ensures source before place has)

pub of_field-returns-in_ok-on-in-None : goal.of_field-returns-in_ok-on-in-None
of_field-returns-in_ok-on-in-None t c source before place has =
    let owner = owner_in c.args.environment.place.now in
    let known = known_in c.args.environment.scope.now in
    let a = c.args.on.now in
    let word = c.args.word.now in
    let is = plain_field owner a word known (c.in-None.ensures.other owner) in
    let first = c.in_ok-on-in-None.ensures source before place has in
    let mentions = (mention.expression owner a).mentions known in
    second_tail c.field.result (is ∙ sym (append-nil mentions))
    (λ n given means of_object line. subst (λ same. MeansExpr n (grammar.expression line (e.Field a word)) same) (sym of_object.is) (field means of_object.place))
    first (c.field.ensures c.expression.new.texts c.args.environment.scope.now source (behind before mentions) place first.answer.met)

pub expression-returns-in-NewArray : goal.expression-returns-in-NewArray
expression-returns-in-NewArray t c source before place has =
    let tree = c.args.tree.now in
    let owner = owner_in c.args.environment.place.now in
    let known = known_in c.args.environment.scope.now in
    let kind = c.in-NewArray.kind in
    let size = c.get-in-NewArray.result.now in
    let form : (out-ExprTree tree).form ≡ e.NewArray kind size = c.in-NewArray.is ∙ ap (e.NewArray kind) (sym c.get-in-NewArray.ensures) in
    let is = in_role c.args.role _ known (at_new_array owner tree kind size form) in
    only_tail c.new_array.result is (λ n given means. of_form n tree (e.NewArray kind size) given form (means (out-ExprTree tree).line)) (c.new_array.ensures source before place has)

pub expression-returns-in-Unary : goal.expression-returns-in-Unary
expression-returns-in-Unary t c source before place has =
    let tree = c.args.tree.now in
    let owner = owner_in c.args.environment.place.now in
    let known = known_in c.args.environment.scope.now in
    let op = c.in-Unary.op in
    let operand = c.get-in-Unary.result.now in
    let form : (out-ExprTree tree).form ≡ e.Unary op operand = c.in-Unary.is ∙ ap (e.Unary op) (sym c.get-in-Unary.ensures) in
    let is = in_role c.args.role _ known (at_unary owner tree op operand form) in
    only_tail c.operation.result is (λ n given means. of_form n tree (e.Unary op operand) given form (means (out-ExprTree tree).line)) (c.operation.ensures source before place has)

pub new_array-returns-in_err-size : goal.new_array-returns-in_err-size
new_array-returns-in_err-size t c source before place has =
    let told : c.from_residual.result ≡ Err c.in_err-size.field-0.0 = search (rules, c.from_residual.ensures) in
    only_fails c.in_err-size.field-0.0 refl told (c.in_err-size.ensures source before place has)

pub new_array-returns : goal.new_array-returns
new_array-returns t c source before place has =
    one_made (x.NewArray c.args.kind c.in_ok-size.size) refl c.array.ensures (λ n inner line. array inner) (c.in_ok-size.ensures source before place has)

pub operation-returns-in_err-operand : goal.operation-returns-in_err-operand
operation-returns-in_err-operand t c source before place has =
    let told : c.from_residual.result ≡ Err c.in_err-operand.field-0.0 = search (rules, c.from_residual.ensures) in
    only_fails c.in_err-operand.field-0.0 refl told (c.in_err-operand.ensures source before place has)

pub operation-returns : goal.operation-returns
operation-returns t c source before place has =
    one_made (x.Unary c.args.op c.in_ok-operand.operand) refl c.unary.ensures (λ n inner line. unary inner) (c.in_ok-operand.ensures source before place has)

pub expressions-loop-tree-init : goal.expressions-loop-tree-init
expressions-loop-tree-init t c source before place has =
    let trees = c.args.trees.now in
    let owner = owner_in c.args.environment.place.now in
    let known = known_in c.args.environment.scope.now in
    none_made c.new-all.result refl refl (λ n. subst (λ all. MeansExprs n [] all) (sym c.new-all.ensures) none) has

pub expressions-returns-in_err-one : goal.expressions-returns-in_err-one
expressions-returns-in_err-one t c source before place has =
    let trees = c.args.trees.now in
    let owner = owner_in c.args.environment.place.now in
    let known = known_in c.args.environment.scope.now in
    let i = c.loop-tree.tree-index in
    let tree = c.tree-item.result in
    let first = c.loop-tree.invariant source before place has in
    let near = behind before (all_of (map (mention.expression owner) (take i trees)) known) in
    let told : c.from_residual.result ≡ Err c.in_err-one.field-0.0 = search (rules, c.from_residual.ensures) in
    let failing = c.in_err-one.ensures source near place first.answer.met in
    within_fails (all_of (map (mention.expression owner) (drop (i + 1) trees)) known) c.in_err-one.field-0.0 (first_of owner trees (i + 1) known)
    (one_more owner trees i tree known c.loop-tree-test.true c.tree-item.is) told first failing

pub expressions-loop-tree-preserved : goal.expressions-loop-tree-preserved
expressions-loop-tree-preserved t c source before place has =
    let trees = c.args.trees.now in
    let owner = owner_in c.args.environment.place.now in
    let known = known_in c.args.environment.scope.now in
    let i = c.loop-tree.tree-index in
    let tree = c.tree-item.result in
    let first = c.loop-tree.invariant source before place has in
    let near = behind before (all_of (map (mention.expression owner) (take i trees)) known) in
    let second = c.in_ok-one.ensures source near place first.answer.met in
    both_made c.push.new.self (one_more owner trees i tree known c.loop-tree-test.true c.tree-item.is) refl
    (λ n before_it one. means_more n trees i tree c.loop-tree.all c.push.new.self c.in_ok-one.one c.loop-tree-test.true c.tree-item.is
    (c.in_ok-push.ensures.ok ∙ ap (λ a. c.loop-tree.all ++ a ∷ []) c.in_ok-new.ensures.ok) before_it one) first second

pub expressions-returns : goal.expressions-returns
expressions-returns t c source before place has =
    let trees = c.args.trees.now in
    let owner = owner_in c.args.environment.place.now in
    let known = known_in c.args.environment.scope.now in
    let i = c.loop-tree.tree-index in
    let whole : take i trees ≡ trees = take_all i trees c.loop-tree-test.false in
    one_made c.in_ok-new-2.field-0 (ap (λ all. all_of (map (mention.expression owner) all) known) (sym whole)) refl
    (λ n means. subst (MeansExprs n trees) (sym c.in_ok-new-2.ensures.ok) (subst (λ all. MeansExprs n all c.loop-tree.all) whole means)) (c.loop-tree.invariant source before place has)
