use Rattle.std.proofs.Common.{rules, ◌+◌, sym, ap, ◌∙◌, subst, take, flat_map, Ok, Err}
use Rattle.std.proofs.lemmas.Int.{to_z-of_z}
use mir.Val.{SFits}
use mir.Syntax.{w64}
use Rattle.dso_syntax.specs.declared.tree.Item.TheVariants as item
use Rattle.dso_class.specs.Mentions.{of_item}
use Rattle.dso_class.specs.TextWalk.{WalksItems}
use Rattle.dso_class.proofs.rules.ComposingItems as judging
use Rattle.dso_class.proofs.walks.Items as laws
use Rattle.dso_class.proofs.class_item.items.Goals as goal
use Rattle.dso_class.proofs.class_item.items.Goals.{in-Class+in_ok-whole_class-in-Class, in-Thread+in_ok-thread-in-Thread}

pub returns-in_err-whole_class-in-Class : goal.returns-in_err-whole_class-in-Class
returns-in_err-whole_class-in-Class c source before set met =
    let e = c.in_err-whole_class-in-Class.field-0.0 in
    let one = c.in-Class in
    let is = one.is ∙ ap (item.Class one.line one.name) (sym c.as_slice.ensures) in
    judging.passed_on source before _ _ c.from_residual.result e c.from_residual.ensures
    (laws.items_end c.args.setting.now c.args.items.now c.loop-item.item-index c.item-item.result c.args.resolved.now c.loop-item.resolved c.whole_class.new.resolved c.loop-item-test.true c.item-item.is c.loop-item.invariant e
    (laws.same_item c.args.setting.now c.loop-item.resolved c.whole_class.new.resolved (Err e) c.item-item.result _ is (c.in_err-whole_class-in-Class.ensures one.line)) source before set met)

pub returns-in_err-thread-in-Thread : goal.returns-in_err-thread-in-Thread
returns-in_err-thread-in-Thread c source before set met =
    let e = c.in_err-thread-in-Thread.field-0.0 in
    let one = c.in-Thread in
    let fits : SFits w64 one.number = search rules in
    let is = one.is ∙ laws.same_thread one.line _ _ one.number_line _ _ (sym (to_z-of_z w64 one.number fits)) (sym c.as_slice-in-Thread.ensures) in
    judging.passed_on source before _ _ c.from_residual-in_err-thread-in-Thread.result e c.from_residual-in_err-thread-in-Thread.ensures
    (laws.items_end c.args.setting.now c.args.items.now c.loop-item.item-index c.item-item.result c.args.resolved.now c.loop-item.resolved c.thread.new.resolved c.loop-item-test.true c.item-item.is c.loop-item.invariant e
    (laws.same_item c.args.setting.now c.loop-item.resolved c.thread.new.resolved (Err e) c.item-item.result _ is c.in_err-thread-in-Thread.ensures) source before set met)

pub loop-item-preserved : goal.loop-item-preserved
loop-item-preserved c =
    let setting = c.args.setting.now in
    let all = c.args.items.now in
    let i = c.loop-item.item-index in
    let old = c.args.resolved.now in
    let mid = c.loop-item.resolved in
    elim c.match-item.branch [
      | in-Class+in_ok-whole_class-in-Class w ↦
          let one = w.in-Class in
          let new = w.whole_class.new.resolved in
          subst (λ r. WalksItems setting (flat_map of_item (take (i + 1) all)) (take (i + 1) all) old r (Ok tt)) (sym w.resolved-is)
          (laws.items_more setting all i c.item-item.result old mid new c.loop-item-test.true c.item-item.is c.loop-item.invariant
          (laws.same_item setting mid new (Ok tt) c.item-item.result _ (one.is ∙ ap (item.Class one.line one.name) (sym w.as_slice.ensures)) (w.in_ok-whole_class-in-Class.ensures one.line)))
      | in-Thread+in_ok-thread-in-Thread w ↦
          let one = w.in-Thread in
          let new = w.thread.new.resolved in
          let fits : SFits w64 one.number = search rules in
          subst (λ r. WalksItems setting (flat_map of_item (take (i + 1) all)) (take (i + 1) all) old r (Ok tt)) (sym w.resolved-is)
          (laws.items_more setting all i c.item-item.result old mid new c.loop-item-test.true c.item-item.is c.loop-item.invariant
          (laws.same_item setting mid new (Ok tt) c.item-item.result _
          (one.is ∙ laws.same_thread one.line _ _ one.number_line _ _ (sym (to_z-of_z w64 one.number fits)) (sym w.as_slice-in-Thread.ensures)) w.in_ok-thread-in-Thread.ensures))
    ]

pub returns : goal.returns
returns c = laws.items_all c.args.setting.now c.args.items.now c.loop-item.item-index c.args.resolved.now c.loop-item.resolved c.loop-item-test.false c.loop-item.invariant
