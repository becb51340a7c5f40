use Rattle.std.proofs.Common.{rules, ap, [], ◌∷◌}
use Rattle.dso_class.specs.Declarations.{class_names}
use Rattle.dso_class.proofs.gathering.ClassNames.{names_append}
use Rattle.dso_class.proofs.gathering.NamesSoFar.{pushed, stays}
use Rattle.dso_class.proofs.names.text_classes.Goals as goal
use Rattle.dso_class.proofs.names.text_classes.Goals.{in-Class+in_ok-clone-in-Class+in_ok-push-in-Class, in-Thread}

pub loop-item-preserved : goal.loop-item-preserved
loop-item-preserved c =
    let items = c.args.items.now in
    let i = c.loop-item.item-index in
    let item = c.item-item.result in
    let old = c.loop-item.words in
    let new = c.match-item.words in
    elim c.match-item.branch [
      | in-Class+in_ok-clone-in-Class+in_ok-push-in-Class w ↦
          pushed class_names names_append items i item old new (w.in-Class.name.name ∷ []) c.loop-item-test.true c.item-item.is (ap (λ x. class_names (x ∷ [])) w.in-Class.is) c.loop-item.invariant (search rules)
      | in-Thread w ↦ stays class_names names_append items i item old new c.loop-item-test.true c.item-item.is (ap (λ x. class_names (x ∷ [])) w.in-Thread.is) c.loop-item.invariant w.words-is
    ]
