use Rattle.std.proofs.Common.{rules, ◌∙◌, ap, [], ◌∷◌, append-nil}
use Rattle.dso_class.specs.Declarations.{all_statics, statics_of}
use Rattle.dso_class.proofs.gathering.NamesSoFar.{all_statics_append, pushed, stays}
use Rattle.dso_class.proofs.names.root_words.Goals as goal
use Rattle.dso_class.proofs.names.root_words.Goals.{in-Class+in_ok-push_statics-in-Class, in-Thread}

pub loop-item-preserved : goal.loop-item-preserved
loop-item-preserved c =
    let items = c.args.items.now in
    let i = c.loop-item.item-index in
    let item = c.item-item.result in
    let old = c.loop-item.roots in
    let new = c.match-item.roots in
    elim c.match-item.branch [
      | in-Class+in_ok-push_statics-in-Class w ↦
          let here = statics_of w.in-Class.name.name w.in-Class.members in
          pushed all_statics all_statics_append items i item old new here c.loop-item-test.true c.item-item.is (ap (λ x. all_statics (x ∷ [])) w.in-Class.is ∙ append-nil here) c.loop-item.invariant (search rules)
      | in-Thread w ↦ stays all_statics all_statics_append items i item old new c.loop-item-test.true c.item-item.is (ap (λ x. all_statics (x ∷ [])) w.in-Thread.is) c.loop-item.invariant w.roots-is
    ]
