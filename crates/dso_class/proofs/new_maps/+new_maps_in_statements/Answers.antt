use Rattle.std.proofs.Common.{sym, ap, ◌∙◌, map}
use Rattle.std.proofs.lemmas.List.{take_all}
use Rattle.dso_class.specs.Maps.{make_map}
use Rattle.dso_class.specs.Mentions.{block, expression, statement}
use Rattle.dso_class.proofs.maps.Making.{of_two, of_three, more_statements, block_makes}
use Rattle.dso_class.proofs.mentions.OfStatements.{at_var, at_assign, at_eval, at_if, at_while, at_sync, at_wait, at_timed_wait, at_notify, at_notify_all, at_print, at_return}
use Rattle.dso_class.proofs.new_maps.+new_maps_in_statements.Goals as goal

pub in_statement-returns-in-Var : goal.in_statement-returns-in-Var
in_statement-returns-in-Var t c owner known = c.in_expression.ensures owner known ∙ ap make_map (sym (at_var owner c.args.tree.now c.in-Var.field-0 c.in-Var.value known c.in-Var.is))

pub in_statement-returns-in-Assign : goal.in_statement-returns-in-Assign
in_statement-returns-in-Assign t c owner known =
    of_two ((expression owner c.in-Assign.target).mentions known) ((expression owner c.in-Assign.value).mentions known) c.in_expression-in-Assign.result c.in_expression-in-Assign-2.result
    (c.in_expression-in-Assign.ensures owner known) (c.in_expression-in-Assign-2.ensures owner known)
    ∙ ap make_map (sym (at_assign owner c.args.tree.now c.in-Assign.target c.in-Assign.value known c.in-Assign.is))

pub in_statement-returns-in-Eval : goal.in_statement-returns-in-Eval
in_statement-returns-in-Eval t c owner known = c.in_expression-in-Eval.ensures owner known ∙ ap make_map (sym (at_eval owner c.args.tree.now c.in-Eval.value known c.in-Eval.is))

pub in_statement-returns-in-If : goal.in_statement-returns-in-If
in_statement-returns-in-If t c owner known =
    of_three ((expression owner c.in-If.test).mentions known) (block (map (statement owner) c.in-If.these) known) (block (map (statement owner) c.in-If.those) known)
    c.in_expression-in-If.result c.in_block.result c.in_block-in-If.result (c.in_expression-in-If.ensures owner known)
    (block_makes owner c.as_slice.result.now c.in-If.these known c.in_block.result c.as_slice.ensures (c.in_block.ensures owner known))
    (block_makes owner c.as_slice-in-If.result.now c.in-If.those known c.in_block-in-If.result c.as_slice-in-If.ensures (c.in_block-in-If.ensures owner known))
    ∙ ap make_map (sym (at_if owner c.args.tree.now c.in-If.test c.in-If.these c.in-If.those known c.in-If.is))

pub in_statement-returns-in-While : goal.in_statement-returns-in-While
in_statement-returns-in-While t c owner known =
    of_two ((expression owner c.in-While.test).mentions known) (block (map (statement owner) c.in-While.these) known) c.in_expression-in-While.result c.in_block-in-While.result (c.in_expression-in-While.ensures owner known)
    (block_makes owner c.as_slice-in-While.result.now c.in-While.these known c.in_block-in-While.result c.as_slice-in-While.ensures (c.in_block-in-While.ensures owner known))
    ∙ ap make_map (sym (at_while owner c.args.tree.now c.in-While.test c.in-While.these known c.in-While.is))

pub in_statement-returns-in-Sync : goal.in_statement-returns-in-Sync
in_statement-returns-in-Sync t c owner known =
    of_two ((expression owner c.in-Sync.on).mentions known) (block (map (statement owner) c.in-Sync.these) known) c.in_expression-in-Sync.result c.in_block-in-Sync.result (c.in_expression-in-Sync.ensures owner known)
    (block_makes owner c.as_slice-in-Sync.result.now c.in-Sync.these known c.in_block-in-Sync.result c.as_slice-in-Sync.ensures (c.in_block-in-Sync.ensures owner known))
    ∙ ap make_map (sym (at_sync owner c.args.tree.now c.in-Sync.on c.in-Sync.these known c.in-Sync.is))

pub in_statement-returns-in-Wait : goal.in_statement-returns-in-Wait
in_statement-returns-in-Wait t c owner known = c.in_expression-in-Wait.ensures owner known ∙ ap make_map (sym (at_wait owner c.args.tree.now c.in-Wait.on known c.in-Wait.is))

pub in_statement-returns-in-TimedWait : goal.in_statement-returns-in-TimedWait
in_statement-returns-in-TimedWait t c owner known =
    of_two ((expression owner c.in-TimedWait.on).mentions known) ((expression owner c.in-TimedWait.ticks).mentions known) c.in_expression-in-TimedWait.result c.in_expression-in-TimedWait-2.result
    (c.in_expression-in-TimedWait.ensures owner known) (c.in_expression-in-TimedWait-2.ensures owner known)
    ∙ ap make_map (sym (at_timed_wait owner c.args.tree.now c.in-TimedWait.on c.in-TimedWait.ticks known c.in-TimedWait.is))

pub in_statement-returns-in-Notify : goal.in_statement-returns-in-Notify
in_statement-returns-in-Notify t c owner known = c.in_expression-in-Notify.ensures owner known ∙ ap make_map (sym (at_notify owner c.args.tree.now c.in-Notify.on known c.in-Notify.is))

pub in_statement-returns-in-NotifyAll : goal.in_statement-returns-in-NotifyAll
in_statement-returns-in-NotifyAll t c owner known = c.in_expression-in-NotifyAll.ensures owner known ∙ ap make_map (sym (at_notify_all owner c.args.tree.now c.in-NotifyAll.on known c.in-NotifyAll.is))

pub in_statement-returns-in-Print : goal.in_statement-returns-in-Print
in_statement-returns-in-Print t c owner known = c.in_expression-in-Print.ensures owner known ∙ ap make_map (sym (at_print owner c.args.tree.now c.in-Print.value known c.in-Print.is))

pub in_statement-returns-in-Return : goal.in_statement-returns-in-Return
in_statement-returns-in-Return t c owner known = c.in_answer.ensures owner known ∙ ap make_map (sym (at_return owner c.args.tree.now c.in-Return.value known c.in-Return.is))

pub in_block-loop-tree-preserved : goal.in_block-loop-tree-preserved
in_block-loop-tree-preserved t c owner known =
    more_statements owner c.args.trees.now c.loop-tree.tree-index c.tree-item.result known c.loop-tree.makes c.in_statement-makes.result c.loop-tree-test.true c.tree-item.is
    (c.loop-tree.invariant owner known) (c.in_statement-makes.ensures owner)

pub in_block-returns : goal.in_block-returns
in_block-returns t c owner known =
    c.loop-tree.invariant owner known ∙ ap (λ all. make_map (block (map (statement owner) all) known)) (take_all c.loop-tree.tree-index c.args.trees.now c.loop-tree-test.false)
