use Rattle.std.proofs.Common.{arith, subst, sym, ap, ◌∙◌, ◌+◌, ◌++◌, [], ◌∷◌, take, length, map}
use Rattle.std.proofs.lemmas.List.{length-append}
use Rattle.dso_class.specs.Gathered.{all_fields, named_fields, AreFieldRows}
use Rattle.dso_class.proofs.gathering.Items.{fields_with, with_thread}
use Rattle.dso_class.proofs.gathered_fields.all_fields.Goals as goal
use Rattle.dso_class.proofs.gathered_fields.all_fields.Goals.{in-Class+in_ok-add_fields-in-Class, in-Thread}

pub loop-item-preserved : goal.loop-item-preserved
loop-item-preserved c =
    let items = c.args.items.now in
    let i = c.loop-item.item-index in
    let item = c.item-item.result in
    let counts = c.loop-item.invariant.0 in
    let bound = c.loop-item.invariant.1 in
    let rows = c.loop-item.invariant.2 in
    elim c.match-item.branch [
      | in-Class+in_ok-add_fields-in-Class w ↦
          let more = fields_with items i item c.loop-item-test.true c.item-item.is w.in-Class.line w.in-Class.name w.in-Class.members w.in-Class.is in
          let same_members = ap (λ members. all_fields (take i items) ++ named_fields members ∷ []) w.as_slice.ensures in (
            w.class-is ∙ ap (λ n. n + 1) counts ∙ sym (ap length more ∙ length-append (all_fields (take i items)) (named_fields w.in-Class.members ∷ [])),
            omega (arith, w.class-is),
            subst (AreFieldRows (all_fields (take (i + 1) items))) (sym w.rows-is)
                (subst (λ all. AreFieldRows all w.add_fields.new.rows) (same_members ∙ sym more) (w.in_ok-add_fields-in-Class.ensures (all_fields (take i items)) (sym counts) rows)),
          )
      | in-Thread w ↦
          let same = ap (map (λ class. named_fields class.members)) (with_thread items i item c.loop-item-test.true c.item-item.is w.in-Thread.line w.in-Thread.number w.in-Thread.number_line w.in-Thread.body w.in-Thread.is) in (
            w.class-is ∙ counts ∙ sym (ap length same),
            omega (arith, w.class-is),
            subst (AreFieldRows (all_fields (take (i + 1) items))) (sym w.rows-is) (subst (λ all. AreFieldRows all c.loop-item.rows) (sym same) rows),
          )
    ]
