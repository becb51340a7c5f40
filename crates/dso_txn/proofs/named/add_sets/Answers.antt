use Rattle.std.proofs.Common.{sym, ◌∙◌, ap, map, ◌||◌, [], ◌∷◌}
use Rattle.std.specs.List.{list_any}
use Rattle.dso_base.specs.Naming.{set_names}
use Rattle.dso_lookup.specs.Search.{is_listed}
use Rattle.dso_change.specs.Hands.{set_of_entry, sets_of}
use Rattle.dso_txn.proofs.NamesInHand.{object_added, one_on, walked}
use Rattle.dso_txn.proofs.named.add_sets.Goals as goal

pub loop-field-preserved : goal.loop-field-preserved
loop-field-preserved c = λ o.
    let set = set_of_entry (c.in-Some.field.now, c.in-Some.value.now) in
    one_on (λ s. set_names s o) set (map set_of_entry c.next.new.self) (is_listed o c.loop-field.into.items) (is_listed o c.add_with_values.new.into.items)
    (is_listed o c.args.into.now.items || list_any (λ s. set_names s o) (sets_of c.args.sets.now))
    (ap (is_listed o) c.in_ok-add_with_values.ensures ∙ object_added set.object (set.value ∷ []) c.loop-field.into.items o)
    (ap (λ es. is_listed o c.loop-field.into.items || list_any (λ s. set_names s o) (map set_of_entry es)) (sym c.in-Some.ensures.steps) ∙ c.loop-field.invariant o)

pub returns : goal.returns
returns c = λ o. walked (λ s. set_names s o) (map set_of_entry c.loop-field.field-iterator) (is_listed o c.loop-field.into.items)
    (is_listed o c.args.into.now.items || list_any (λ s. set_names s o) (sets_of c.args.sets.now))
    (ap (map set_of_entry) c.in-None.ensures.steps.0) (c.loop-field.invariant o)
