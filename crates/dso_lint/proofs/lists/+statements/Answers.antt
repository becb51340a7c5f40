use Rattle.std.proofs.Common.{◌≡◌, [], ◌∷◌, refl, sym, subst, ap, ◌∙◌}
use Rattle.std.proofs.lemmas.List.{take_all}
use Rattle.std.proofs.lemmas.Result.{on_ok_weaker}
use Rattle.dso_lint.specs.Lists.{Adds}
use Rattle.dso_lint.specs.Trees.{blocks, StandsIn}
use Rattle.dso_lint.proofs.standing.Additions.{OfOne, adds_of_one, adds_of_two, adds_of_more, adds_inner, adds_statement, adds_block}
use Rattle.dso_lint.proofs.standing.Trees.{InOne, has_If, has_While, has_Sync}
use Rattle.dso_lint.proofs.lists.+statements.Goals as goal

pub add_inner-returns-in_ok-add_statements-in-If : goal.add_inner-returns-in_ok-add_statements-in-If
add_inner-returns-in_ok-add_statements-in-If t c =
    let first = c.as_slice.result.now in
    let second = c.as_slice-in-If.result.now in
    let is : blocks c.args.a.now ≡ first ∷ second ∷ [] = ap blocks c.in-If.is ∙ has_If c.in-If.field-0 c.in-If.all c.in-If.others ∙ ap (λ x. x ∷ c.in-If.others ∷ []) (sym c.get.ensures ∙ sym c.as_slice.ensures)
    ∙ ap (λ x. first ∷ x ∷ []) (sym c.get-in-If.ensures ∙ sym c.as_slice-in-If.ensures) in
    on_ok_weaker c.add_statements-in-If.result (λ added. adds_inner c.args.a.now (first ∷ second ∷ []) c.args.list.now.items c.add_statements-in-If.new.list.items is
    (adds_of_two StandsIn first second c.args.list.now.items c.add_statements.new.list.items c.add_statements-in-If.new.list.items c.in_ok-add_statements-in-If.ensures added)) c.add_statements-in-If.ensures

pub add_inner-returns-in-While : goal.add_inner-returns-in-While
add_inner-returns-in-While t c =
    let first = c.as_slice-in-While.result.now in
    let is : blocks c.args.a.now ≡ first ∷ [] = ap blocks c.in-While.is ∙ has_While c.in-While.field-0 c.in-While.all ∙ ap (λ x. x ∷ []) (sym c.get-in-While.ensures ∙ sym c.as_slice-in-While.ensures) in
    on_ok_weaker c.add_statements-in-While.result (λ added. adds_inner c.args.a.now (first ∷ []) c.args.list.now.items c.add_statements-in-While.new.list.items is
    (adds_of_one StandsIn first c.args.list.now.items c.add_statements-in-While.new.list.items added)) c.add_statements-in-While.ensures

pub add_inner-returns-in-Sync : goal.add_inner-returns-in-Sync
add_inner-returns-in-Sync t c =
    let first = c.as_slice-in-Sync.result.now in
    let is : blocks c.args.a.now ≡ first ∷ [] = ap blocks c.in-Sync.is ∙ has_Sync c.in-Sync.field-0 c.in-Sync.field-1 c.in-Sync.all ∙ ap (λ x. x ∷ []) (sym c.get-in-Sync.ensures ∙ sym c.as_slice-in-Sync.ensures) in
    on_ok_weaker c.add_statements-in-Sync.result (λ added. adds_inner c.args.a.now (first ∷ []) c.args.list.now.items c.add_statements-in-Sync.new.list.items is
    (adds_of_one StandsIn first c.args.list.now.items c.add_statements-in-Sync.new.list.items added)) c.add_statements-in-Sync.ensures

pub add_statements-loop-a-preserved : goal.add_statements-loop-a-preserved
add_statements-loop-a-preserved t c =
    let item = c.a-item.result in
    let a = c.get-a.result.now in
    adds_of_more InOne c.args.block.now c.loop-a.a-index item c.loop-a-test.true c.args.list.now.items c.loop-a.list.items c.add_inner.new.list.items c.loop-a.invariant
    (subst (λ s. Adds (λ b. InOne b s) c.loop-a.list.items c.add_inner.new.list.items) (c.get-a.ensures ∙ c.a-item.is)
    (adds_statement a c.loop-a.list.items c.push.new.self.items c.add_inner.new.list.items _ refl c.in_ok-push.ensures.items c.in_ok-add_inner.ensures))

pub add_statements-returns : goal.add_statements-returns
add_statements-returns t c =
    adds_block c.args.block.now c.args.list.now.items c.loop-a.list.items
    (subst (λ ss. Adds (OfOne InOne ss) c.args.list.now.items c.loop-a.list.items) (take_all c.loop-a.a-index c.args.block.now c.loop-a-test.false) c.loop-a.invariant)
