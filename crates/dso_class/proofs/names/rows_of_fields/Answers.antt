use Rattle.std.proofs.Common.{rules, ap, [], ◌∷◌}
use Rattle.dso_class.specs.Symbols.{field_words}
use Rattle.dso_class.specs.Gathered.{named_fields}
use Rattle.dso_class.proofs.gathering.NamesSoFar.{field_words_append, pushed, stays}
use Rattle.dso_class.proofs.names.rows_of_fields.Goals as goal
use Rattle.dso_class.proofs.names.rows_of_fields.Goals.{in-Class+in_ok-fields_of_class-in-Class+in_ok-push-in-Class, in-Thread}

pub loop-item-preserved : goal.loop-item-preserved
loop-item-preserved c =
    let items = c.args.items.now in
    let i = c.loop-item.item-index in
    let item = c.item-item.result in
    let old = c.loop-item.rows in
    let new = c.match-item.rows in
    elim c.match-item.branch [
      | in-Class+in_ok-fields_of_class-in-Class+in_ok-push-in-Class w ↦
          pushed field_words field_words_append items i item old new (named_fields w.in-Class.members ∷ []) c.loop-item-test.true c.item-item.is (ap (λ x. field_words (x ∷ [])) w.in-Class.is) c.loop-item.invariant (search rules)
      | in-Thread w ↦ stays field_words field_words_append items i item old new c.loop-item-test.true c.item-item.is (ap (λ x. field_words (x ∷ [])) w.in-Thread.is) c.loop-item.invariant w.rows-is
    ]
