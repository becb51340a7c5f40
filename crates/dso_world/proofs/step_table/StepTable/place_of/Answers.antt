use Rattle.std.proofs.Common.{ℕ, ◌≡◌, ◌∙◌, ap, subst, Some, None, slice_get}
use Rattle.dso_world.specs.StepPlaces.{IsPlaced, kept_where}
use Rattle.dso_world.specs.WorldSteps.{slot_of}
use Rattle.dso_world.proofs.places.Tables.{found_nowhere, found_where, only_place}
use Rattle.dso_world.proofs.step_table.StepTable.place_of.Goals as goal

pub returns-in-Some-clause-first : goal.returns-in-Some-clause-first
returns-in-Some-clause-first c =
    let table = c.self.inside in
    let names = subst (λ own. (place : ℕ) → IsPlaced own table.behind place (slot_of c.args.step) → c.place_named.result ≡ Some place) c.as_slice.ensures.value c.place_named.ensures in
    found_where table.own.items table.behind table.steps.items c.self.invariant.placed c.args.step c.place_named.result names c.args.self.now c.self.view_is
    c.in-Some.place c.in-Some.is c.if_there.result (c.if_there.ensures ∙ ap (λ steps. kept_where (slot_of c.args.step) c.in-Some.place (slice_get steps c.in-Some.place)) c.as_slice-in-Some.ensures.value)

pub returns-in-Some-clause-only : goal.returns-in-Some-clause-only
returns-in-Some-clause-only c =
    let table = c.self.inside in
    let names = subst (λ own. (place : ℕ) → IsPlaced own table.behind place (slot_of c.args.step) → c.place_named.result ≡ Some place) c.as_slice.ensures.value c.place_named.ensures in
    only_place table.own.items table.behind table.steps.items c.self.invariant.placed c.args.step c.place_named.result names c.args.self.now c.self.view_is
    c.if_there.result (returns-in-Some-clause-first c)

pub returns-in-None-clause-first : goal.returns-in-None-clause-first
returns-in-None-clause-first c =
    let table = c.self.inside in
    let names = subst (λ own. (place : ℕ) → IsPlaced own table.behind place (slot_of c.args.step) → c.place_named.result ≡ Some place) c.as_slice.ensures.value c.place_named.ensures in
    found_nowhere table.own.items table.behind table.steps.items c.self.invariant.placed c.args.step c.place_named.result names c.args.self.now c.self.view_is c.in-None.is

pub returns-in-None-clause-only : goal.returns-in-None-clause-only
returns-in-None-clause-only c =
    let table = c.self.inside in
    let names = subst (λ own. (place : ℕ) → IsPlaced own table.behind place (slot_of c.args.step) → c.place_named.result ≡ Some place) c.as_slice.ensures.value c.place_named.ensures in
    only_place table.own.items table.behind table.steps.items c.self.invariant.placed c.args.step c.place_named.result names c.args.self.now c.self.view_is
    None (returns-in-None-clause-first c)
