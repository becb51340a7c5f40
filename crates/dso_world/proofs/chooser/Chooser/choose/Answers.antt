use Rattle.std.proofs.Common.{sym, ◌∙◌, ap, Some}
use Rattle.dso_world.specs.Flags.{chosen_place, nth_set}
use Rattle.dso_world.specs.contracts.chooser.Chooser.{the_view}
use Rattle.dso_world.proofs.flags.Blocks.{no_places}
use Rattle.dso_world.proofs.flags.Named.{named, none_named}
use Rattle.dso_world.proofs.chooser.Chooser.choose.Goals as goal

pub returns-in-Some-clause-chosen : goal.returns-in-Some-clause-chosen
returns-in-Some-clause-chosen c = none_named (the_view c.self.inside) c.in-Some.field-0 c.self.inside.count c.self.invariant.0 c.if-self-eq0.true
    ∙ ap (λ row. chosen_place (Some c.in-Some.field-0) row) c.self.view_is ∙ ap (λ seed. chosen_place seed c.args.self.now) (sym c.in-Some.is)

pub returns-in-Some-2-clause-chosen : goal.returns-in-Some-2-clause-chosen
returns-in-Some-2-clause-chosen c = named (the_view c.self.inside) c.as_slice.result.now c.in-Some-2.seed c.moved_to-self-inside.result.seed c.moved_to-self-inside.result.moves c.moved_to-self-inside.result.now c.self.inside.count c.lot-number.result c.nth_from.result
    (c.nth_from.ensures.place ∙ sym (no_places (nth_set c.lot-number.result c.as_slice.result.now)))
    c.as_slice.ensures.value c.lot-number.ensures c.moved_to-self-inside.result.reached c.moved_to-self-inside.ensures.seed c.moved_to-self-inside.ensures.moves c.self.invariant.0
    ∙ ap (λ row. chosen_place (Some c.in-Some-2.seed) row) c.self.view_is ∙ ap (λ seed. chosen_place seed c.args.self.now) (sym c.in-Some-2.is)
