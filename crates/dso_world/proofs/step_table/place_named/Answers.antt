use Rattle.std.proofs.Common.{◌-◌, refl, ◌∙◌, ap, Some}
use Rattle.dso_world.proofs.places.Tables.{named_so}
use Rattle.dso_world.proofs.worlds.Looks.{lent}
use Rattle.dso_world.proofs.step_table.place_named.Goals as goal

pub returns : goal.returns
returns c = λ place is.
    let its = c.in_ok-its.its.now in
    let before = c.saturating_sub-before.result in
    let own = c.args.own.now in
    ap (λ n. Some n) (c.place_by.ensures place (named_so own c.args.behind c.args.step before its (c.saturating_sub-before.ensures ∙ ap (λ n. n - 1) c.client_of.ensures)
    (lent own own before its refl c.in_ok-its.ensures.lookup.0 c.in_ok-its.ensures.lookup.1) place is))
