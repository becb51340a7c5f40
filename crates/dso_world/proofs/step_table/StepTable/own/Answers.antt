use Rattle.std.proofs.Common.{◌≡◌, sym, subst, Some, None, slice_get}
use Rattle.std.proofs.lemmas.Option.{slice_get_past}
use Rattle.dso_world.specs.StepPlaces.{IsOwnOf}
use Rattle.dso_world.proofs.places.Tables.{not_own, own_there}
use Rattle.dso_world.proofs.worlds.Looks.{lent, unlent}
use Rattle.dso_world.proofs.step_table.StepTable.own.Goals as goal

pub returns-in-Some : goal.returns-in-Some
returns-in-Some c = λ place is.
    let table = c.self.inside in
    let its = c.in-Some.own.now in
    own_there table.own.items table.behind table.steps.items c.self.invariant.placed c.args.number place (subst (λ steps. IsOwnOf c.args.number steps place) (sym c.self.view_is) is) its
    (subst (λ before. slice_get table.own.items before ≡ Some its) c.saturating_sub.ensures
    (lent table.own.items c.deref.result.now c.saturating_sub.result its c.deref.ensures.value c.in-Some.ensures.lookup.0 c.in-Some.ensures.lookup.1))

pub returns-in-None : goal.returns-in-None
returns-in-None c = λ place is.
    let table = c.self.inside in
    absurd (not_own table.own.items table.behind table.steps.items c.self.invariant.placed c.args.number place (subst (λ steps. IsOwnOf c.args.number steps place) (sym c.self.view_is) is)
    (subst (λ before. slice_get table.own.items before ≡ None) c.saturating_sub.ensures
    (slice_get_past table.own.items c.saturating_sub.result (unlent table.own.items c.deref.result.now c.saturating_sub.result c.deref.ensures.value c.in-None.ensures.lookup.0))))
