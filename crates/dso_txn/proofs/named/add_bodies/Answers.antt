use Rattle.std.proofs.Common.{sym, ◌∙◌, ap, map, ◌||◌, ◌++◌, ◌∷◌, []}
use Rattle.std.specs.List.{list_any}
use Rattle.dso_base.specs.Naming.{body_with_names}
use Rattle.dso_lookup.specs.Search.{is_listed}
use Rattle.dso_change.specs.Hands.{values_of, with_references}
use Rattle.dso_txn.proofs.NamesInHand.{object_added, one_on, walked}
use Rattle.dso_txn.proofs.named.add_bodies.Goals as goal

pub loop-body-preserved : goal.loop-body-preserved
loop-body-preserved c = λ o. let body = c.in-Some.body.now in
    one_on (λ b. body_with_names b o) body (map (λ e. e.1) c.next.new.self) (is_listed o c.loop-body.into.items) (is_listed o c.add_with_values.new.into.items)
    (is_listed o c.args.into.now.items || list_any (λ b. body_with_names b o) (values_of c.args.bodies.now))
    (ap (is_listed o) (c.in_ok-add_with_values.ensures ∙ ap (λ values. with_references values (c.loop-body.into.items ++ body.object ∷ [])) c.as_slice.ensures) ∙ object_added body.object body.values c.loop-body.into.items o)
    (ap (λ es. is_listed o c.loop-body.into.items || list_any (λ b. body_with_names b o) (map (λ e. e.1) es)) (sym c.in-Some.ensures.steps) ∙ c.loop-body.invariant o)

pub returns-clause-named : goal.returns-clause-named
returns-clause-named c = λ o. walked (λ b. body_with_names b o) (map (λ e. e.1) c.loop-body.body-iterator) (is_listed o c.loop-body.into.items)
    (is_listed o c.args.into.now.items || list_any (λ b. body_with_names b o) (values_of c.args.bodies.now))
    (ap (map (λ e. e.1)) c.in-None.ensures.steps.0) (c.loop-body.invariant o)
