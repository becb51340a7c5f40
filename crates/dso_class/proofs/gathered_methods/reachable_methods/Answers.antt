use Rattle.std.proofs.Common.{arith, subst, sym, ap, ◌≡◌, ◌∙◌, ◌+◌, ◌++◌, take, length}
use Rattle.std.proofs.lemmas.List.{length-map, take_all}
use Rattle.dso_class.specs.Declarations.{all_methods, class_names, classes_of, methods_from, methods_of}
use Rattle.dso_class.specs.Gathered.{AreMethodRows, capped}
use Rattle.dso_class.proofs.gathering.Items.{methods_with, classes_with, with_thread}
use Rattle.dso_class.proofs.gathered_methods.reachable_methods.Goals as goal
use Rattle.dso_class.proofs.gathered_methods.reachable_methods.Goals.{in-Class+in_ok-number-in-Class, in-Thread}

pub loop-item-preserved : goal.loop-item-preserved
loop-item-preserved c =
    let items = c.args.items.now in
    let i = c.loop-item.item-index in
    let item = c.item-item.result in
    let below = c.loop-item-test.true in
    let is = c.item-item.is in
    let class = c.loop-item.invariant.0 in
    let number = c.loop-item.invariant.1 in
    let rows = c.loop-item.invariant.2 in
    elim c.match-item.branch [
      | in-Class+in_ok-number-in-Class w ↦
          let name = w.in-Class.name.name in
          let count = length (classes_of (take i items)) in
          let before = all_methods (take i items) in
          let one = classes_with items i item below is w.in-Class.line w.in-Class.name w.in-Class.members w.in-Class.is in
          let more = methods_with items i item below is w.in-Class.line w.in-Class.name w.in-Class.members w.in-Class.is in
          let all = ap (λ members. before ++ methods_of count name members) w.as_slice.ensures ∙ sym more in
          let after = w.next-class.ensures in (
            omega (arith, class, one, after, w.class-is),
            w.number-is ∙ w.in_ok-number-in-Class.ensures.next count name before number ∙ ap (λ methods. capped (length methods)) all,
            subst (AreMethodRows (all_methods (take (i + 1) items))) (sym w.rows-is)
                (subst (λ methods. AreMethodRows methods w.add_methods.new.rows) all (w.in_ok-number-in-Class.ensures.rows count name before class number rows)),
          )
      | in-Thread w ↦
          let same = with_thread items i item below is w.in-Thread.line w.in-Thread.number w.in-Thread.number_line w.in-Thread.body w.in-Thread.is in (
            w.class-is ∙ class ∙ sym (ap (λ classes. capped (length classes)) same),
            w.number-is ∙ number ∙ sym (ap (λ classes. capped (length (methods_from 0 classes))) same),
            subst (AreMethodRows (all_methods (take (i + 1) items))) (sym w.rows-is) (subst (λ classes. AreMethodRows (methods_from 0 classes) c.loop-item.rows) (sym same) rows),
          )
    ]

pub returns : goal.returns
returns c =
    let items = c.args.items.now in
    let whole : take c.loop-item.item-index items ≡ items = take_all c.loop-item.item-index items c.loop-item-test.false in
    let long : length (class_names items) ≡ length (classes_of items) = length-map (classes_of items) (λ class. class.name) in
    c.in_ok-add_map_methods.ensures (length (class_names items)) (all_methods items)
    (c.loop-item.invariant.0 ∙ ap (λ all. capped (length (classes_of all))) whole ∙ ap capped (sym long))
    (c.loop-item.invariant.1 ∙ ap (λ all. capped (length (all_methods all))) whole)
    (subst (λ all. AreMethodRows (all_methods all) c.loop-item.rows) whole c.loop-item.invariant.2)
