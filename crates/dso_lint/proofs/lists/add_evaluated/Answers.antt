use Rattle.std.proofs.Common.{◌≡◌, [], ◌∷◌, sym, ap, ◌∙◌}
use Rattle.std.proofs.lemmas.Result.{on_ok_weaker}
use Rattle.std.specs.Option.{option_to_list}
use Rattle.dso_lint.specs.Trees.{evaluated, IsPart}
use Rattle.dso_lint.proofs.standing.Additions.{adds_of_one, adds_of_two, adds_of_cons, adds_evaluated}
use Rattle.dso_lint.proofs.standing.Trees.{does_Assign, does_PutRoot, does_Eval, does_Wait, does_Notify, does_NotifyAll, does_Print, does_If, does_While, does_Sync, does_PutField, does_TimedWait, does_PutElem, does_Returned}
use Rattle.dso_lint.proofs.lists.add_evaluated.Goals as goal

pub returns-in-Assign : goal.returns-in-Assign
returns-in-Assign c =
    let first = c.get.result.now in
    let is : evaluated c.args.a.now ≡ first ∷ [] = ap evaluated c.in-Assign.is ∙ does_Assign c.in-Assign.field-0 c.in-Assign.e ∙ ap (λ x. x ∷ []) (sym c.get.ensures) in
    on_ok_weaker c.add_parts.result (λ added. adds_evaluated c.args.a.now (first ∷ []) c.args.list.now.items c.add_parts.new.list.items is (adds_of_one IsPart first c.args.list.now.items c.add_parts.new.list.items added)) c.add_parts.ensures

pub returns-in-PutRoot : goal.returns-in-PutRoot
returns-in-PutRoot c =
    let first = c.get-in-PutRoot.result.now in
    let is : evaluated c.args.a.now ≡ first ∷ [] = ap evaluated c.in-PutRoot.is ∙ does_PutRoot c.in-PutRoot.field-0 c.in-PutRoot.e ∙ ap (λ x. x ∷ []) (sym c.get-in-PutRoot.ensures) in
    on_ok_weaker c.add_parts-in-PutRoot.result (λ added. adds_evaluated c.args.a.now (first ∷ []) c.args.list.now.items c.add_parts-in-PutRoot.new.list.items is (adds_of_one IsPart first c.args.list.now.items c.add_parts-in-PutRoot.new.list.items added)) c.add_parts-in-PutRoot.ensures

pub returns-in-Eval : goal.returns-in-Eval
returns-in-Eval c =
    let first = c.get-in-Eval.result.now in
    let is : evaluated c.args.a.now ≡ first ∷ [] = ap evaluated c.in-Eval.is ∙ does_Eval c.in-Eval.e ∙ ap (λ x. x ∷ []) (sym c.get-in-Eval.ensures) in
    on_ok_weaker c.add_parts-in-Eval.result (λ added. adds_evaluated c.args.a.now (first ∷ []) c.args.list.now.items c.add_parts-in-Eval.new.list.items is (adds_of_one IsPart first c.args.list.now.items c.add_parts-in-Eval.new.list.items added)) c.add_parts-in-Eval.ensures

pub returns-in-Wait : goal.returns-in-Wait
returns-in-Wait c =
    let first = c.get-in-Wait.result.now in
    let is : evaluated c.args.a.now ≡ first ∷ [] = ap evaluated c.in-Wait.is ∙ does_Wait c.in-Wait.e ∙ ap (λ x. x ∷ []) (sym c.get-in-Wait.ensures) in
    on_ok_weaker c.add_parts-in-Wait.result (λ added. adds_evaluated c.args.a.now (first ∷ []) c.args.list.now.items c.add_parts-in-Wait.new.list.items is (adds_of_one IsPart first c.args.list.now.items c.add_parts-in-Wait.new.list.items added)) c.add_parts-in-Wait.ensures

pub returns-in-Notify : goal.returns-in-Notify
returns-in-Notify c =
    let first = c.get-in-Notify.result.now in
    let is : evaluated c.args.a.now ≡ first ∷ [] = ap evaluated c.in-Notify.is ∙ does_Notify c.in-Notify.e ∙ ap (λ x. x ∷ []) (sym c.get-in-Notify.ensures) in
    on_ok_weaker c.add_parts-in-Notify.result (λ added. adds_evaluated c.args.a.now (first ∷ []) c.args.list.now.items c.add_parts-in-Notify.new.list.items is (adds_of_one IsPart first c.args.list.now.items c.add_parts-in-Notify.new.list.items added)) c.add_parts-in-Notify.ensures

pub returns-in-NotifyAll : goal.returns-in-NotifyAll
returns-in-NotifyAll c =
    let first = c.get-in-NotifyAll.result.now in
    let is : evaluated c.args.a.now ≡ first ∷ [] = ap evaluated c.in-NotifyAll.is ∙ does_NotifyAll c.in-NotifyAll.e ∙ ap (λ x. x ∷ []) (sym c.get-in-NotifyAll.ensures) in
    on_ok_weaker c.add_parts-in-NotifyAll.result (λ added. adds_evaluated c.args.a.now (first ∷ []) c.args.list.now.items c.add_parts-in-NotifyAll.new.list.items is (adds_of_one IsPart first c.args.list.now.items c.add_parts-in-NotifyAll.new.list.items added)) c.add_parts-in-NotifyAll.ensures

pub returns-in-Print : goal.returns-in-Print
returns-in-Print c =
    let first = c.get-in-Print.result.now in
    let is : evaluated c.args.a.now ≡ first ∷ [] = ap evaluated c.in-Print.is ∙ does_Print c.in-Print.e ∙ ap (λ x. x ∷ []) (sym c.get-in-Print.ensures) in
    on_ok_weaker c.add_parts-in-Print.result (λ added. adds_evaluated c.args.a.now (first ∷ []) c.args.list.now.items c.add_parts-in-Print.new.list.items is (adds_of_one IsPart first c.args.list.now.items c.add_parts-in-Print.new.list.items added)) c.add_parts-in-Print.ensures

pub returns-in-If : goal.returns-in-If
returns-in-If c =
    let first = c.get-in-If.result.now in
    let is : evaluated c.args.a.now ≡ first ∷ [] = ap evaluated c.in-If.is ∙ does_If c.in-If.e c.in-If.field-1 c.in-If.field-2 ∙ ap (λ x. x ∷ []) (sym c.get-in-If.ensures) in
    on_ok_weaker c.add_parts-in-If.result (λ added. adds_evaluated c.args.a.now (first ∷ []) c.args.list.now.items c.add_parts-in-If.new.list.items is (adds_of_one IsPart first c.args.list.now.items c.add_parts-in-If.new.list.items added)) c.add_parts-in-If.ensures

pub returns-in-While : goal.returns-in-While
returns-in-While c =
    let first = c.get-in-While.result.now in
    let is : evaluated c.args.a.now ≡ first ∷ [] = ap evaluated c.in-While.is ∙ does_While c.in-While.e c.in-While.field-1 ∙ ap (λ x. x ∷ []) (sym c.get-in-While.ensures) in
    on_ok_weaker c.add_parts-in-While.result (λ added. adds_evaluated c.args.a.now (first ∷ []) c.args.list.now.items c.add_parts-in-While.new.list.items is (adds_of_one IsPart first c.args.list.now.items c.add_parts-in-While.new.list.items added)) c.add_parts-in-While.ensures

pub returns-in-Sync : goal.returns-in-Sync
returns-in-Sync c =
    let first = c.get-in-Sync.result.now in
    let is : evaluated c.args.a.now ≡ first ∷ [] = ap evaluated c.in-Sync.is ∙ does_Sync c.in-Sync.e c.in-Sync.field-1 c.in-Sync.field-2 ∙ ap (λ x. x ∷ []) (sym c.get-in-Sync.ensures) in
    on_ok_weaker c.add_parts-in-Sync.result (λ added. adds_evaluated c.args.a.now (first ∷ []) c.args.list.now.items c.add_parts-in-Sync.new.list.items is (adds_of_one IsPart first c.args.list.now.items c.add_parts-in-Sync.new.list.items added)) c.add_parts-in-Sync.ensures

pub returns-in-Return : goal.returns-in-Return
returns-in-Return c =
    let is : evaluated c.args.a.now ≡ option_to_list c.in-Return.e = ap evaluated c.in-Return.is ∙ does_Returned c.in-Return.e in
    on_ok_weaker c.add_returned.result (λ added. adds_evaluated c.args.a.now (option_to_list c.in-Return.e) c.args.list.now.items c.add_returned.new.list.items is added) c.add_returned.ensures

pub returns-in_ok-add_parts-in-PutField : goal.returns-in_ok-add_parts-in-PutField
returns-in_ok-add_parts-in-PutField c =
    let first = c.get-in-PutField.result.now in
    let second = c.get-in-PutField-2.result.now in
    let is : evaluated c.args.a.now ≡ first ∷ second ∷ [] = ap evaluated c.in-PutField.is ∙ does_PutField c.in-PutField.e c.in-PutField.field-1 c.in-PutField.b ∙ ap (λ x. x ∷ c.in-PutField.b ∷ []) (sym c.get-in-PutField.ensures) ∙ ap (λ x. first ∷ x ∷ []) (sym c.get-in-PutField-2.ensures) in
    on_ok_weaker c.add_parts-in-PutField-2.result (λ added. adds_evaluated c.args.a.now (first ∷ second ∷ []) c.args.list.now.items c.add_parts-in-PutField-2.new.list.items is
    (adds_of_two IsPart first second c.args.list.now.items c.add_parts-in-PutField.new.list.items c.add_parts-in-PutField-2.new.list.items c.in_ok-add_parts-in-PutField.ensures added)) c.add_parts-in-PutField-2.ensures

pub returns-in_ok-add_parts-in-TimedWait : goal.returns-in_ok-add_parts-in-TimedWait
returns-in_ok-add_parts-in-TimedWait c =
    let first = c.get-in-TimedWait.result.now in
    let second = c.get-in-TimedWait-2.result.now in
    let is : evaluated c.args.a.now ≡ first ∷ second ∷ [] = ap evaluated c.in-TimedWait.is ∙ does_TimedWait c.in-TimedWait.e c.in-TimedWait.b ∙ ap (λ x. x ∷ c.in-TimedWait.b ∷ []) (sym c.get-in-TimedWait.ensures) ∙ ap (λ x. first ∷ x ∷ []) (sym c.get-in-TimedWait-2.ensures) in
    on_ok_weaker c.add_parts-in-TimedWait-2.result (λ added. adds_evaluated c.args.a.now (first ∷ second ∷ []) c.args.list.now.items c.add_parts-in-TimedWait-2.new.list.items is
    (adds_of_two IsPart first second c.args.list.now.items c.add_parts-in-TimedWait.new.list.items c.add_parts-in-TimedWait-2.new.list.items c.in_ok-add_parts-in-TimedWait.ensures added)) c.add_parts-in-TimedWait-2.ensures

pub returns-in_ok-add_parts-in-PutElem-2 : goal.returns-in_ok-add_parts-in-PutElem-2
returns-in_ok-add_parts-in-PutElem-2 c =
    let first = c.get-in-PutElem.result.now in
    let second = c.get-in-PutElem-2.result.now in
    let third = c.get-in-PutElem-3.result.now in
    let is : evaluated c.args.a.now ≡ first ∷ second ∷ third ∷ [] = ap evaluated c.in-PutElem.is ∙ does_PutElem c.in-PutElem.e c.in-PutElem.b c.in-PutElem.c
    ∙ ap (λ x. x ∷ c.in-PutElem.b ∷ c.in-PutElem.c ∷ []) (sym c.get-in-PutElem.ensures) ∙ ap (λ x. first ∷ x ∷ c.in-PutElem.c ∷ []) (sym c.get-in-PutElem-2.ensures) ∙ ap (λ x. first ∷ second ∷ x ∷ []) (sym c.get-in-PutElem-3.ensures) in
    on_ok_weaker c.add_parts-in-PutElem-3.result (λ added. adds_evaluated c.args.a.now (first ∷ second ∷ third ∷ []) c.args.list.now.items c.add_parts-in-PutElem-3.new.list.items is
    (adds_of_cons IsPart first (second ∷ third ∷ []) c.args.list.now.items c.add_parts-in-PutElem.new.list.items c.add_parts-in-PutElem-3.new.list.items c.in_ok-add_parts-in-PutElem.ensures
    (adds_of_two IsPart second third c.add_parts-in-PutElem.new.list.items c.add_parts-in-PutElem-2.new.list.items c.add_parts-in-PutElem-3.new.list.items c.in_ok-add_parts-in-PutElem-2.ensures added))) c.add_parts-in-PutElem-3.ensures
