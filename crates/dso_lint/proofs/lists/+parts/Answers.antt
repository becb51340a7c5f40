use Rattle.std.proofs.Common.{◌≡◌, [], ◌∷◌, refl, sym, subst, ap, ◌∙◌}
use Rattle.std.proofs.lemmas.List.{take_all}
use Rattle.std.proofs.lemmas.Result.{on_ok_weaker}
use Rattle.dso_lint.specs.Lists.{Adds}
use Rattle.dso_lint.specs.Trees.{operands, IsPart}
use Rattle.dso_lint.proofs.standing.Additions.{OfOne, adds_of_none, adds_of_one, adds_of_cons, adds_of_two, adds_of_more, adds_parts}
use Rattle.dso_lint.proofs.standing.Trees.{out_Const, out_Var, out_This, out_Root, out_NewObject, out_Field, out_NewArray, out_Unary, out_Elem, out_Binary, out_Call}
use Rattle.dso_lint.proofs.lists.+parts.Goals as goal

pub add_parts-returns-in-Field : goal.add_parts-returns-in-Field
add_parts-returns-in-Field t c =
    let is : operands c.args.whole.now ≡ c.get.result.now ∷ [] = ap operands c.in-Field.is ∙ out_Field c.in-Field.a c.in-Field.field-1 ∙ ap (λ a. a ∷ []) (sym c.get.ensures) in
    on_ok_weaker c.add_parts.result (λ added. adds_parts c.args.whole.now (c.get.result.now ∷ []) c.args.list.now.items c.push.new.self.items c.add_parts.new.list.items c.args.whole refl
    c.in_ok-push.ensures.items is (adds_of_one IsPart c.get.result.now c.push.new.self.items c.add_parts.new.list.items added)) c.add_parts.ensures

pub add_parts-returns-in-NewArray : goal.add_parts-returns-in-NewArray
add_parts-returns-in-NewArray t c =
    let is : operands c.args.whole.now ≡ c.get-in-NewArray.result.now ∷ [] = ap operands c.in-NewArray.is ∙ out_NewArray c.in-NewArray.field-0 c.in-NewArray.a ∙ ap (λ a. a ∷ []) (sym c.get-in-NewArray.ensures) in
    on_ok_weaker c.add_parts-in-NewArray.result (λ added. adds_parts c.args.whole.now (c.get-in-NewArray.result.now ∷ []) c.args.list.now.items c.push.new.self.items c.add_parts-in-NewArray.new.list.items c.args.whole refl
    c.in_ok-push.ensures.items is (adds_of_one IsPart c.get-in-NewArray.result.now c.push.new.self.items c.add_parts-in-NewArray.new.list.items added)) c.add_parts-in-NewArray.ensures

pub add_parts-returns-in-Unary : goal.add_parts-returns-in-Unary
add_parts-returns-in-Unary t c =
    let is : operands c.args.whole.now ≡ c.get-in-Unary.result.now ∷ [] = ap operands c.in-Unary.is ∙ out_Unary c.in-Unary.field-0 c.in-Unary.a ∙ ap (λ a. a ∷ []) (sym c.get-in-Unary.ensures) in
    on_ok_weaker c.add_parts-in-Unary.result (λ added. adds_parts c.args.whole.now (c.get-in-Unary.result.now ∷ []) c.args.list.now.items c.push.new.self.items c.add_parts-in-Unary.new.list.items c.args.whole refl
    c.in_ok-push.ensures.items is (adds_of_one IsPart c.get-in-Unary.result.now c.push.new.self.items c.add_parts-in-Unary.new.list.items added)) c.add_parts-in-Unary.ensures

pub add_parts-returns-in_ok-add_parts-in-Elem : goal.add_parts-returns-in_ok-add_parts-in-Elem
add_parts-returns-in_ok-add_parts-in-Elem t c =
    let first = c.get-in-Elem.result.now in
    let second = c.get-in-Elem-2.result.now in
    let is : operands c.args.whole.now ≡ first ∷ second ∷ [] = ap operands c.in-Elem.is ∙ out_Elem c.in-Elem.a c.in-Elem.b ∙ ap (λ a. a ∷ c.in-Elem.b ∷ []) (sym c.get-in-Elem.ensures) ∙ ap (λ b. first ∷ b ∷ []) (sym c.get-in-Elem-2.ensures) in
    on_ok_weaker c.add_parts-in-Elem-2.result (λ added. adds_parts c.args.whole.now (first ∷ second ∷ []) c.args.list.now.items c.push.new.self.items c.add_parts-in-Elem-2.new.list.items c.args.whole refl
    c.in_ok-push.ensures.items is (adds_of_two IsPart first second c.push.new.self.items c.add_parts-in-Elem.new.list.items c.add_parts-in-Elem-2.new.list.items c.in_ok-add_parts-in-Elem.ensures added)) c.add_parts-in-Elem-2.ensures

pub add_parts-returns-in_ok-add_parts-in-Binary : goal.add_parts-returns-in_ok-add_parts-in-Binary
add_parts-returns-in_ok-add_parts-in-Binary t c =
    let first = c.get-in-Binary.result.now in
    let second = c.get-in-Binary-2.result.now in
    let is : operands c.args.whole.now ≡ first ∷ second ∷ [] = ap operands c.in-Binary.is ∙ out_Binary c.in-Binary.field-0 c.in-Binary.a c.in-Binary.b ∙ ap (λ a. a ∷ c.in-Binary.b ∷ []) (sym c.get-in-Binary.ensures) ∙ ap (λ b. first ∷ b ∷ []) (sym c.get-in-Binary-2.ensures) in
    on_ok_weaker c.add_parts-in-Binary-2.result (λ added. adds_parts c.args.whole.now (first ∷ second ∷ []) c.args.list.now.items c.push.new.self.items c.add_parts-in-Binary-2.new.list.items c.args.whole refl
    c.in_ok-push.ensures.items is (adds_of_two IsPart first second c.push.new.self.items c.add_parts-in-Binary.new.list.items c.add_parts-in-Binary-2.new.list.items c.in_ok-add_parts-in-Binary.ensures added)) c.add_parts-in-Binary-2.ensures

pub add_parts-returns-in_ok-add_parts-in-Call : goal.add_parts-returns-in_ok-add_parts-in-Call
add_parts-returns-in_ok-add_parts-in-Call t c =
    let first = c.get-in-Call.result.now in
    let rest = c.as_slice.result.now in
    let is : operands c.args.whole.now ≡ first ∷ rest = ap operands c.in-Call.is ∙ out_Call c.in-Call.a c.in-Call.field-1 c.in-Call.args ∙ ap (λ a. a ∷ c.in-Call.args) (sym c.get-in-Call.ensures) ∙ ap (λ bs. first ∷ bs) (sym c.get-in-Call-2.ensures ∙ sym c.as_slice.ensures) in
    on_ok_weaker c.add_all_parts.result (λ added. adds_parts c.args.whole.now (first ∷ rest) c.args.list.now.items c.push.new.self.items c.add_all_parts.new.list.items c.args.whole refl
    c.in_ok-push.ensures.items is (adds_of_cons IsPart first rest c.push.new.self.items c.add_parts-in-Call.new.list.items c.add_all_parts.new.list.items c.in_ok-add_parts-in-Call.ensures added)) c.add_all_parts.ensures

pub add_parts-returns-in-Const : goal.add_parts-returns-in-Const
add_parts-returns-in-Const t c =
    adds_parts c.args.whole.now [] c.args.list.now.items c.push.new.self.items c.push.new.self.items c.args.whole refl c.in_ok-push.ensures.items (ap operands c.in-Const.is ∙ out_Const c.in-Const.field-0) (adds_of_none IsPart c.push.new.self.items)

pub add_parts-returns-in-Var : goal.add_parts-returns-in-Var
add_parts-returns-in-Var t c =
    adds_parts c.args.whole.now [] c.args.list.now.items c.push.new.self.items c.push.new.self.items c.args.whole refl c.in_ok-push.ensures.items (ap operands c.in-Var.is ∙ out_Var c.in-Var.field-0) (adds_of_none IsPart c.push.new.self.items)

pub add_parts-returns-in-This : goal.add_parts-returns-in-This
add_parts-returns-in-This t c =
    adds_parts c.args.whole.now [] c.args.list.now.items c.push.new.self.items c.push.new.self.items c.args.whole refl c.in_ok-push.ensures.items (ap operands c.in-This.is ∙ out_This) (adds_of_none IsPart c.push.new.self.items)

pub add_parts-returns-in-Root : goal.add_parts-returns-in-Root
add_parts-returns-in-Root t c =
    adds_parts c.args.whole.now [] c.args.list.now.items c.push.new.self.items c.push.new.self.items c.args.whole refl c.in_ok-push.ensures.items (ap operands c.in-Root.is ∙ out_Root c.in-Root.field-0) (adds_of_none IsPart c.push.new.self.items)

pub add_parts-returns-in-NewObject : goal.add_parts-returns-in-NewObject
add_parts-returns-in-NewObject t c =
    adds_parts c.args.whole.now [] c.args.list.now.items c.push.new.self.items c.push.new.self.items c.args.whole refl c.in_ok-push.ensures.items (ap operands c.in-NewObject.is ∙ out_NewObject c.in-NewObject.field-0) (adds_of_none IsPart c.push.new.self.items)

pub add_all_parts-loop-whole-preserved : goal.add_all_parts-loop-whole-preserved
add_all_parts-loop-whole-preserved t c =
    adds_of_more IsPart c.args.all.now c.loop-whole.whole-index c.whole-item.result c.loop-whole-test.true c.args.list.now.items c.loop-whole.list.items c.add_parts.new.list.items c.loop-whole.invariant
    (subst (λ w. Adds (λ e. IsPart e w) c.loop-whole.list.items c.add_parts.new.list.items) (c.get.ensures ∙ c.whole-item.is) c.in_ok-add_parts.ensures)

pub add_all_parts-returns : goal.add_all_parts-returns
add_all_parts-returns t c =
    subst (λ ws. Adds (OfOne IsPart ws) c.args.list.now.items c.loop-whole.list.items) (take_all c.loop-whole.whole-index c.args.all.now c.loop-whole-test.false) c.loop-whole.invariant
