use Rattle.std.proofs.Common.{rules, ◌≡◌, ◌++◌, ◌∷◌, ◌+◌, ◌*◌, ◌<◌, ◌≤◌, arith, [], Err, map, take, drop, reverse, refl, sym, subst, ap, ◌∙◌}
use denote.Param.Weighed.{at_most, most}
use Rattle.std.proofs.lemmas.List.{take_all}
use Rattle.dso_syntax.proofs.tree.StmtTree.TheLaws.{the_size}
use Rattle.dso_machine.specs.declared.tree.Stmt.TheVariants as stmt
use Rattle.dso_syntax.specs.declared.tree.StmtTree.{out-StmtTree}
use Rattle.dso_syntax.specs.declared.tree.StmtForm.TheVariants as s
use Rattle.dso_class.specs.FaultsAmong.{behind}
use Rattle.dso_config_entries.specs.BorrowedWords.{words_of}
use Rattle.dso_class.specs.Mentions as mention
use Rattle.dso_class.specs.Numbers.{MeansBlock, evaluate, conditional, loop, locked, wait, notify, notify_all, print, done}
use Rattle.dso_class.specs.StatementWalk.{known_after}
use Rattle.dso_class.specs.BodyWalk.{owner_in, known_in, met_in}
use Rattle.dso_class.proofs.walks.Blocks.{one_more, known_more, first_of, means_more, each_assignable}
use Rattle.dso_class.proofs.walks.Knowing.{at_known, forgotten, stack_grows, stack_higher, stack_back}
use Rattle.dso_class.proofs.mentions.OfStatements.{of_stmt, at_var, at_assign, at_eval, at_if, at_while, at_sync, at_wait, at_timed_wait, at_notify, at_notify_all, at_print, at_return}
use Rattle.dso_class.proofs.walks.BodyParts.{second_of_three, third_of_three, three_made, within_fails, first_fails, second_fails, both_made, only_fails, one_made, none_made, only_tail}
use Rattle.dso_class.proofs.statement.+statement.Goals as goal

pub statement-returns-in-Var-clause-walks : goal.statement-returns-in-Var-clause-walks
statement-returns-in-Var-clause-walks t c source before place has =
    let tree = c.args.tree.now in
    let owner = owner_in c.args.place.now in
    let known = known_in c.args.scope.now in
    let form = c.in-Var.is in
    only_tail c.declared.result (at_var owner tree c.in-Var.name c.in-Var.value known form) (λ n a means. of_stmt n tree (s.Var c.in-Var.name c.in-Var.value) a form (means (out-StmtTree tree).line))
    (c.declared.ensures.walks source before place has)

pub statement-returns-in-Assign-clause-walks : goal.statement-returns-in-Assign-clause-walks
statement-returns-in-Assign-clause-walks t c source before place has =
    let tree = c.args.tree.now in
    let owner = owner_in c.args.place.now in
    let known = known_in c.args.scope.now in
    let form = c.in-Assign.is in
    only_tail c.assigned.result (at_assign owner tree c.in-Assign.target c.in-Assign.value known form)
    (λ n a means. of_stmt n tree (s.Assign c.in-Assign.target c.in-Assign.value) a form (means (out-StmtTree tree).line)) (c.assigned.ensures source before place has)

pub statement-returns-in-TimedWait-clause-walks : goal.statement-returns-in-TimedWait-clause-walks
statement-returns-in-TimedWait-clause-walks t c source before place has =
    let tree = c.args.tree.now in
    let owner = owner_in c.args.place.now in
    let known = known_in c.args.scope.now in
    let form = c.in-TimedWait.is in
    only_tail c.timed_wait.result (at_timed_wait owner tree c.in-TimedWait.on c.in-TimedWait.ticks known form)
    (λ n a means. of_stmt n tree (s.TimedWait c.in-TimedWait.on c.in-TimedWait.ticks) a form (means (out-StmtTree tree).line)) (c.timed_wait.ensures source before place has)

pub statement-returns-in_err-value_of-in-Eval-clause-walks : goal.statement-returns-in_err-value_of-in-Eval-clause-walks
statement-returns-in_err-value_of-in-Eval-clause-walks t c source before place has =
    let tree = c.args.tree.now in
    let owner = owner_in c.args.place.now in
    let known = known_in c.args.scope.now in
    let told : c.from_residual.result ≡ Err c.in_err-value_of-in-Eval.field-0.0 = search (rules, c.from_residual.ensures) in
    only_fails c.in_err-value_of-in-Eval.field-0.0 (at_eval owner tree c.in-Eval.value known c.in-Eval.is) told (c.in_err-value_of-in-Eval.ensures source before place has)

pub statement-returns-in_ok-value_of-in-Eval-clause-walks : goal.statement-returns-in_ok-value_of-in-Eval-clause-walks
statement-returns-in_ok-value_of-in-Eval-clause-walks t c source before place has =
    let tree = c.args.tree.now in
    let owner = owner_in c.args.place.now in
    let known = known_in c.args.scope.now in
    let value = stmt.Eval c.in_ok-value_of-in-Eval.field-0 in
    one_made value (at_eval owner tree c.in-Eval.value known c.in-Eval.is) refl (λ n one. of_stmt n tree (s.Eval c.in-Eval.value) value c.in-Eval.is (evaluate one)) (c.in_ok-value_of-in-Eval.ensures source before place has)

pub statement-returns-in_err-value_of-in-Wait-clause-walks : goal.statement-returns-in_err-value_of-in-Wait-clause-walks
statement-returns-in_err-value_of-in-Wait-clause-walks t c source before place has =
    let tree = c.args.tree.now in
    let owner = owner_in c.args.place.now in
    let known = known_in c.args.scope.now in
    let told : c.from_residual-in_err-value_of-in-Wait.result ≡ Err c.in_err-value_of-in-Wait.field-0.0 = search (rules, c.from_residual-in_err-value_of-in-Wait.ensures) in
    only_fails c.in_err-value_of-in-Wait.field-0.0 (at_wait owner tree c.in-Wait.on known c.in-Wait.is) told (c.in_err-value_of-in-Wait.ensures source before place has)

pub statement-returns-in_ok-value_of-in-Wait-clause-walks : goal.statement-returns-in_ok-value_of-in-Wait-clause-walks
statement-returns-in_ok-value_of-in-Wait-clause-walks t c source before place has =
    let tree = c.args.tree.now in
    let owner = owner_in c.args.place.now in
    let known = known_in c.args.scope.now in
    let value = stmt.Wait c.in_ok-value_of-in-Wait.field-0 in
    one_made value (at_wait owner tree c.in-Wait.on known c.in-Wait.is) refl (λ n one. of_stmt n tree (s.Wait c.in-Wait.on) value c.in-Wait.is (wait one)) (c.in_ok-value_of-in-Wait.ensures source before place has)

pub statement-returns-in_err-value_of-in-Notify-clause-walks : goal.statement-returns-in_err-value_of-in-Notify-clause-walks
statement-returns-in_err-value_of-in-Notify-clause-walks t c source before place has =
    let tree = c.args.tree.now in
    let owner = owner_in c.args.place.now in
    let known = known_in c.args.scope.now in
    let told : c.from_residual-in_err-value_of-in-Notify.result ≡ Err c.in_err-value_of-in-Notify.field-0.0 = search (rules, c.from_residual-in_err-value_of-in-Notify.ensures) in
    only_fails c.in_err-value_of-in-Notify.field-0.0 (at_notify owner tree c.in-Notify.on known c.in-Notify.is) told (c.in_err-value_of-in-Notify.ensures source before place has)

pub statement-returns-in_ok-value_of-in-Notify-clause-walks : goal.statement-returns-in_ok-value_of-in-Notify-clause-walks
statement-returns-in_ok-value_of-in-Notify-clause-walks t c source before place has =
    let tree = c.args.tree.now in
    let owner = owner_in c.args.place.now in
    let known = known_in c.args.scope.now in
    let value = stmt.Notify c.in_ok-value_of-in-Notify.field-0 in
    one_made value (at_notify owner tree c.in-Notify.on known c.in-Notify.is) refl (λ n one. of_stmt n tree (s.Notify c.in-Notify.on) value c.in-Notify.is (notify one)) (c.in_ok-value_of-in-Notify.ensures source before place has)

pub statement-returns-in_err-value_of-in-NotifyAll-clause-walks : goal.statement-returns-in_err-value_of-in-NotifyAll-clause-walks
statement-returns-in_err-value_of-in-NotifyAll-clause-walks t c source before place has =
    let tree = c.args.tree.now in
    let owner = owner_in c.args.place.now in
    let known = known_in c.args.scope.now in
    let told : c.from_residual-in_err-value_of-in-NotifyAll.result ≡ Err c.in_err-value_of-in-NotifyAll.field-0.0 = search (rules, c.from_residual-in_err-value_of-in-NotifyAll.ensures) in
    only_fails c.in_err-value_of-in-NotifyAll.field-0.0 (at_notify_all owner tree c.in-NotifyAll.on known c.in-NotifyAll.is) told (c.in_err-value_of-in-NotifyAll.ensures source before place has)

pub statement-returns-in_ok-value_of-in-NotifyAll-clause-walks : goal.statement-returns-in_ok-value_of-in-NotifyAll-clause-walks
statement-returns-in_ok-value_of-in-NotifyAll-clause-walks t c source before place has =
    let tree = c.args.tree.now in
    let owner = owner_in c.args.place.now in
    let known = known_in c.args.scope.now in
    let value = stmt.NotifyAll c.in_ok-value_of-in-NotifyAll.field-0 in
    one_made value (at_notify_all owner tree c.in-NotifyAll.on known c.in-NotifyAll.is) refl (λ n one. of_stmt n tree (s.NotifyAll c.in-NotifyAll.on) value c.in-NotifyAll.is (notify_all one)) (c.in_ok-value_of-in-NotifyAll.ensures source before place has)

pub statement-returns-in_err-value_of-in-Print-clause-walks : goal.statement-returns-in_err-value_of-in-Print-clause-walks
statement-returns-in_err-value_of-in-Print-clause-walks t c source before place has =
    let tree = c.args.tree.now in
    let owner = owner_in c.args.place.now in
    let known = known_in c.args.scope.now in
    let told : c.from_residual-in_err-value_of-in-Print.result ≡ Err c.in_err-value_of-in-Print.field-0.0 = search (rules, c.from_residual-in_err-value_of-in-Print.ensures) in
    only_fails c.in_err-value_of-in-Print.field-0.0 (at_print owner tree c.in-Print.value known c.in-Print.is) told (c.in_err-value_of-in-Print.ensures source before place has)

pub statement-returns-in_ok-value_of-in-Print-clause-walks : goal.statement-returns-in_ok-value_of-in-Print-clause-walks
statement-returns-in_ok-value_of-in-Print-clause-walks t c source before place has =
    let tree = c.args.tree.now in
    let owner = owner_in c.args.place.now in
    let known = known_in c.args.scope.now in
    let value = stmt.Print c.in_ok-value_of-in-Print.field-0 in
    one_made value (at_print owner tree c.in-Print.value known c.in-Print.is) refl (λ n one. of_stmt n tree (s.Print c.in-Print.value) value c.in-Print.is (print one)) (c.in_ok-value_of-in-Print.ensures source before place has)

pub statement-returns-in_err-test-in-If-clause-walks : goal.statement-returns-in_err-test-in-If-clause-walks
statement-returns-in_err-test-in-If-clause-walks t c source before place has =
    let tree = c.args.tree.now in
    let owner = owner_in c.args.place.now in
    let known = known_in c.args.scope.now in
    let told : c.from_residual-in_err-test-in-If.result ≡ Err c.in_err-test-in-If.field-0.0 = search (rules, c.from_residual-in_err-test-in-If.ensures) in
    first_fails (mention.block (map (mention.statement owner) c.in-If.these) known ++ mention.block (map (mention.statement owner) c.in-If.those) known) c.in_err-test-in-If.field-0.0 (at_if owner tree c.in-If.test c.in-If.these c.in-If.those known c.in-If.is) told
    (c.in_err-test-in-If.ensures source before place has)

pub statement-returns-in_err-these-in-If-clause-walks : goal.statement-returns-in_err-these-in-If-clause-walks
statement-returns-in_err-these-in-If-clause-walks t c source before place has =
    let tree = c.args.tree.now in
    let owner = owner_in c.args.place.now in
    let known = known_in c.args.scope.now in
    let told : c.from_residual-in_err-these-in-If.result ≡ Err c.in_err-these-in-If.field-0.0 = search (rules, c.from_residual-in_err-these-in-If.ensures) in
    let these = c.as_slice.result.now in
    let form : (out-StmtTree tree).form ≡ s.If c.in-If.test these c.in-If.those = c.in-If.is ∙ ap (λ all. s.If c.in-If.test all c.in-If.those) (sym c.as_slice.ensures) in
    let first = c.in_ok-test-in-If.ensures source before place has in
    let near = behind before ((mention.expression owner c.in-If.test).mentions known) in
    second_of_three (mention.block (map (mention.statement owner) c.in-If.those) known) c.in_err-these-in-If.field-0.0 (at_if owner tree c.in-If.test these c.in-If.those known form) told first
    (c.in_err-these-in-If.ensures.walks source near place first.answer.met)

pub statement-returns-in_err-those-in-If-clause-walks : goal.statement-returns-in_err-those-in-If-clause-walks
statement-returns-in_err-those-in-If-clause-walks t c source before place has =
    let tree = c.args.tree.now in
    let owner = owner_in c.args.place.now in
    let known = known_in c.args.scope.now in
    let told : c.from_residual-in_err-those-in-If.result ≡ Err c.in_err-those-in-If.field-0.0 = search (rules, c.from_residual-in_err-those-in-If.ensures) in
    let these = c.as_slice.result.now in
    let those = c.as_slice-in-If.result.now in
    let form : (out-StmtTree tree).form ≡ s.If c.in-If.test these those =
    c.in-If.is ∙ ap (λ all. s.If c.in-If.test all c.in-If.those) (sym c.as_slice.ensures) ∙ ap (s.If c.in-If.test these) (sym c.as_slice-in-If.ensures) in
    let first = c.in_ok-test-in-If.ensures source before place has in
    let near = behind before ((mention.expression owner c.in-If.test).mentions known) in
    let second = c.in_ok-these-in-If.ensures.walks source near place first.answer.met in
    let late = behind near (mention.block (map (mention.statement owner) these) known) in
    let same : known_in c.block.new.scope ≡ known = c.in_ok-these-in-If.ensures.known in
    third_of_three c.in_err-those-in-If.field-0.0 (at_if owner tree c.in-If.test these those known form) told first second
    (at_known (mention.block (map (mention.statement owner) those)) same (c.in_err-those-in-If.ensures.walks source late place second.answer.met))

pub statement-returns-in_ok-those-in-If-clause-walks : goal.statement-returns-in_ok-those-in-If-clause-walks
statement-returns-in_ok-those-in-If-clause-walks t c source before place has =
    let tree = c.args.tree.now in
    let owner = owner_in c.args.place.now in
    let known = known_in c.args.scope.now in
    let these = c.as_slice.result.now in
    let those = c.as_slice-in-If.result.now in
    let form : (out-StmtTree tree).form ≡ s.If c.in-If.test these those =
    c.in-If.is ∙ ap (λ all. s.If c.in-If.test all c.in-If.those) (sym c.as_slice.ensures) ∙ ap (s.If c.in-If.test these) (sym c.as_slice-in-If.ensures) in
    let first = c.in_ok-test-in-If.ensures source before place has in
    let near = behind before ((mention.expression owner c.in-If.test).mentions known) in
    let second = c.in_ok-these-in-If.ensures.walks source near place first.answer.met in
    let late = behind near (mention.block (map (mention.statement owner) these) known) in
    let same : known_in c.block.new.scope ≡ known = c.in_ok-these-in-If.ensures.known in
    let value = stmt.If c.in_ok-test-in-If.test c.in_ok-these-in-If.these c.in_ok-those-in-If.those in
    three_made value (at_if owner tree c.in-If.test these those known form) refl (λ n one two three. of_stmt n tree (s.If c.in-If.test these those) value form (conditional one two three)) first second
    (at_known (mention.block (map (mention.statement owner) those)) same (c.in_ok-those-in-If.ensures.walks source late place second.answer.met))

pub statement-returns-in_err-test-in-While-clause-walks : goal.statement-returns-in_err-test-in-While-clause-walks
statement-returns-in_err-test-in-While-clause-walks t c source before place has =
    let tree = c.args.tree.now in
    let owner = owner_in c.args.place.now in
    let known = known_in c.args.scope.now in
    let told : c.from_residual-in_err-test-in-While.result ≡ Err c.in_err-test-in-While.field-0.0 = search (rules, c.from_residual-in_err-test-in-While.ensures) in
    first_fails (mention.block (map (mention.statement owner) c.in-While.these) known) c.in_err-test-in-While.field-0.0 (at_while owner tree c.in-While.test c.in-While.these known c.in-While.is) told (c.in_err-test-in-While.ensures source before place has)

pub statement-returns-in_err-these-in-While-clause-walks : goal.statement-returns-in_err-these-in-While-clause-walks
statement-returns-in_err-these-in-While-clause-walks t c source before place has =
    let tree = c.args.tree.now in
    let owner = owner_in c.args.place.now in
    let known = known_in c.args.scope.now in
    let told : c.from_residual-in_err-these-in-While.result ≡ Err c.in_err-these-in-While.field-0.0 = search (rules, c.from_residual-in_err-these-in-While.ensures) in
    let these = c.as_slice-in-While.result.now in
    let form : (out-StmtTree tree).form ≡ s.While c.in-While.test these = c.in-While.is ∙ ap (s.While c.in-While.test) (sym c.as_slice-in-While.ensures) in
    let first = c.in_ok-test-in-While.ensures source before place has in
    let near = behind before ((mention.expression owner c.in-While.test).mentions known) in
    second_fails c.in_err-these-in-While.field-0.0 (at_while owner tree c.in-While.test these known form) told first (c.in_err-these-in-While.ensures.walks source near place first.answer.met)

pub statement-returns-in_ok-these-in-While-clause-walks : goal.statement-returns-in_ok-these-in-While-clause-walks
statement-returns-in_ok-these-in-While-clause-walks t c source before place has =
    let tree = c.args.tree.now in
    let owner = owner_in c.args.place.now in
    let known = known_in c.args.scope.now in
    let these = c.as_slice-in-While.result.now in
    let form : (out-StmtTree tree).form ≡ s.While c.in-While.test these = c.in-While.is ∙ ap (s.While c.in-While.test) (sym c.as_slice-in-While.ensures) in
    let first = c.in_ok-test-in-While.ensures source before place has in
    let near = behind before ((mention.expression owner c.in-While.test).mentions known) in
    let value = stmt.While c.in_ok-test-in-While.test c.in_ok-these-in-While.these in
    both_made value (at_while owner tree c.in-While.test these known form) refl (λ n one two. of_stmt n tree (s.While c.in-While.test these) value form (loop one two)) first
    (c.in_ok-these-in-While.ensures.walks source near place first.answer.met)

pub statement-returns-in_err-grade-in-Sync-clause-walks : goal.statement-returns-in_err-grade-in-Sync-clause-walks
statement-returns-in_err-grade-in-Sync-clause-walks t c source before place has =
    let tree = c.args.tree.now in
    let owner = owner_in c.args.place.now in
    let known = known_in c.args.scope.now in
    let told : c.from_residual-in_err-grade-in-Sync.result ≡ Err c.in_err-grade-in-Sync.field-0.0 = search (rules, c.from_residual-in_err-grade-in-Sync.ensures) in
    first_fails (mention.block (map (mention.statement owner) c.in-Sync.these) known) c.in_err-grade-in-Sync.field-0.0 (at_sync owner tree c.in-Sync.on c.in-Sync.these known c.in-Sync.is) told (c.in_err-grade-in-Sync.ensures source before place has)

pub statement-returns-in_err-these-in-Sync-clause-walks : goal.statement-returns-in_err-these-in-Sync-clause-walks
statement-returns-in_err-these-in-Sync-clause-walks t c source before place has =
    let tree = c.args.tree.now in
    let owner = owner_in c.args.place.now in
    let known = known_in c.args.scope.now in
    let told : c.from_residual-in_err-these-in-Sync.result ≡ Err c.in_err-these-in-Sync.field-0.0 = search (rules, c.from_residual-in_err-these-in-Sync.ensures) in
    let these = c.as_slice-in-Sync.result.now in
    let form : (out-StmtTree tree).form ≡ s.Sync c.in-Sync.on these = c.in-Sync.is ∙ ap (s.Sync c.in-Sync.on) (sym c.as_slice-in-Sync.ensures) in
    let first = c.in_ok-grade-in-Sync.ensures source before place has in
    let here = mention.on (out-StmtTree tree).line (mention.synchronized owner.class owner.method) in
    let near = behind (here ∷ before) ((mention.expression owner c.in-Sync.on).mentions known) in
    second_fails c.in_err-these-in-Sync.field-0.0 (at_sync owner tree c.in-Sync.on these known form) told first (c.in_err-these-in-Sync.ensures.walks source near place first.answer.met)

pub statement-returns-in_ok-these-in-Sync-clause-walks : goal.statement-returns-in_ok-these-in-Sync-clause-walks
statement-returns-in_ok-these-in-Sync-clause-walks t c source before place has =
    let tree = c.args.tree.now in
    let owner = owner_in c.args.place.now in
    let known = known_in c.args.scope.now in
    let these = c.as_slice-in-Sync.result.now in
    let form : (out-StmtTree tree).form ≡ s.Sync c.in-Sync.on these = c.in-Sync.is ∙ ap (s.Sync c.in-Sync.on) (sym c.as_slice-in-Sync.ensures) in
    let first = c.in_ok-grade-in-Sync.ensures source before place has in
    let here = mention.on (out-StmtTree tree).line (mention.synchronized owner.class owner.method) in
    let near = behind (here ∷ before) ((mention.expression owner c.in-Sync.on).mentions known) in
    let value = stmt.Sync c.in_ok-grade-in-Sync.object c.in_ok-grade-in-Sync.grade c.in_ok-these-in-Sync.these in
    both_made value (at_sync owner tree c.in-Sync.on these known form) refl (λ n one two. of_stmt n tree (s.Sync c.in-Sync.on these) value form (locked one.1 one.0 two)) first
    (c.in_ok-these-in-Sync.ensures.walks source near place first.answer.met)

pub statement-returns-in-Return-clause-walks : goal.statement-returns-in-Return-clause-walks
statement-returns-in-Return-clause-walks t c source before place has =
    let tree = c.args.tree.now in
    let owner = owner_in c.args.place.now in
    let known = known_in c.args.scope.now in
    let form = c.in-Return.is in
    only_tail c.returned.result (at_return owner tree c.in-Return.value known form) (λ n a means. of_stmt n tree (s.Return c.in-Return.value) a form (means (out-StmtTree tree).line)) (c.returned.ensures source before place has)

pub block-loop-tree-init : goal.block-loop-tree-init
block-loop-tree-init t c =
    (λ source before place has. none_made c.new-all.result refl refl (λ n. subst (λ all. MeansBlock n [] all) (sym c.new-all.ensures) done) has, refl)

pub block-returns-in_err-one-clause-walks : goal.block-returns-in_err-one-clause-walks
block-returns-in_err-one-clause-walks t c source before place has =
    let trees = c.args.trees.now in
    let owner = owner_in c.args.place.now in
    let known = known_in c.args.scope.now in
    let i = c.loop-tree.tree-index in
    let tree = c.tree-item.result in
    let steps = map (mention.statement owner) (take i trees) in
    let told : c.from_residual.result ≡ Err c.in_err-one.field-0.0 = search (rules, c.from_residual.ensures) in
    let first = c.loop-tree.invariant.0 source before place has in
    let near = behind before (mention.block steps known) in
    let failing = c.in_err-one.ensures.walks source near place first.answer.met in
    within_fails (mention.block (map (mention.statement owner) (drop (i + 1) trees)) (known_after (map (mention.statement owner) (take (i + 1) trees)) known)) c.in_err-one.field-0.0 (first_of owner trees (i + 1) known)
    (one_more owner trees i tree known c.loop-tree-test.true c.tree-item.is) told first (at_known (mention.statement owner tree).mentions c.loop-tree.invariant.1 failing)

pub block-loop-tree-preserved : goal.block-loop-tree-preserved
block-loop-tree-preserved t c =
    let trees = c.args.trees.now in
    let owner = owner_in c.args.place.now in
    let known = known_in c.args.scope.now in
    let i = c.loop-tree.tree-index in
    let tree = c.tree-item.result in
    let steps = map (mention.statement owner) (take i trees) in
    let more : known_in c.statement.new.scope ≡ known_after (map (mention.statement owner) (take (i + 1) trees)) known =
    c.in_ok-one.ensures.known owner ∙ ap (λ names. (mention.statement owner tree).names ++ names) c.loop-tree.invariant.1 ∙ sym (known_more owner trees i tree known c.loop-tree-test.true c.tree-item.is) in (
      λ source before place has.
          let first = c.loop-tree.invariant.0 source before place has in
          let near = behind before (mention.block steps known) in
          let second = at_known (mention.statement owner tree).mentions c.loop-tree.invariant.1 (c.in_ok-one.ensures.walks source near place first.answer.met) in
          both_made c.push.new.self (one_more owner trees i tree known c.loop-tree-test.true c.tree-item.is) refl
          (λ n before_it one. means_more n trees i tree c.loop-tree.all c.push.new.self c.in_ok-one.one c.loop-tree-test.true c.tree-item.is
          (c.in_ok-push.ensures.ok ∙ ap (λ a. c.loop-tree.all ++ a ∷ []) c.in_ok-new.ensures.ok) before_it one) first second,
      more,
    )

pub block-forget-requires : goal.block-forget-requires
block-forget-requires t c =
    let trees = c.args.trees.now in
    let owner = owner_in c.args.place.now in
    let grows = stack_grows c.args.scope.now.known c.loop-tree.scope.known (map (mention.statement owner) (take c.loop-tree.tree-index trees)) c.loop-tree.invariant.1 in
    stack_higher c.args.scope.now.known c.loop-tree.scope.known c.len-height.result c.len-height.ensures grows

pub block-returns-clause-known : goal.block-returns-clause-known
block-returns-clause-known t c =
    let trees = c.args.trees.now in
    let owner = owner_in c.args.place.now in
    let known = known_in c.args.scope.now in
    let grows = stack_grows c.args.scope.now.known c.loop-tree.scope.known (map (mention.statement owner) (take c.loop-tree.tree-index trees)) c.loop-tree.invariant.1 in
    let back : known_in c.forget.new.scope ≡ known =
    ap (λ names. reverse (words_of names)) c.forget.ensures.known ∙ ap reverse (stack_back c.args.scope.now.known c.loop-tree.scope.known c.len-height.result c.len-height.ensures grows) in
    back

pub block-returns-clause-walks : goal.block-returns-clause-walks
block-returns-clause-walks t c source before place has =
    let trees = c.args.trees.now in
    let owner = owner_in c.args.place.now in
    let known = known_in c.args.scope.now in
    let grows = stack_grows c.args.scope.now.known c.loop-tree.scope.known (map (mention.statement owner) (take c.loop-tree.tree-index trees)) c.loop-tree.invariant.1 in
    let back : known_in c.forget.new.scope ≡ known =
    ap (λ names. reverse (words_of names)) c.forget.ensures.known ∙ ap reverse (stack_back c.args.scope.now.known c.loop-tree.scope.known c.len-height.result c.len-height.ensures grows) in
    let whole : take c.loop-tree.tree-index trees ≡ trees = take_all c.loop-tree.tree-index trees c.loop-tree-test.false in
    let walked = forgotten (met_in c.loop-tree.texts c.forget.new.scope) refl (ap words_of c.forget.ensures.variables) back has (c.loop-tree.invariant.0 source before place has) in
    one_made c.in_ok-new-2.field-0 (ap (λ all. mention.block (map (mention.statement owner) all) known) (sym whole)) refl
    (λ n means. subst (MeansBlock n trees) (sym c.in_ok-new-2.ensures.ok) (subst (λ all. MeansBlock n all c.loop-tree.all) whole means)) walked

pub block-statement-requires : goal.block-statement-requires
block-statement-requires t c =
    let trees = c.args.trees.now in
    let i = c.loop-tree.tree-index in
    let tree = c.tree-item.result in
    let below : the_size tree ≤ most (λ one. the_size one) trees = subst (λ one. the_size one ≤ most (λ one. the_size one) trees) (sym c.tree-item.is) (at_most (λ one. the_size one) trees i tree c.loop-tree-test.true) in
    let falls : 2 * the_size tree + 0 < t = omega (arith, below, c.decreases) in
    (falls, each_assignable trees i tree c.requires c.loop-tree-test.true c.tree-item.is)
