use Rattle.std.proofs.Common.{◌≡◌, sym, ◌∙◌, ap, subst}
use Rattle.dso_base.specs.declared.record.Body.{Body}
use Rattle.dso_base.specs.Shape.{guard_of, kind_of}
use Rattle.dso_base.specs.Value.{Fits}
use Rattle.dso_law.specs.FitsUp.{FitsStored}
use Rattle.dso_law.specs.Granting.{leased_to}
use Rattle.dso_law.specs.ServerReadings.{counted}
use Rattle.dso_server.proofs.lists.Telling.{no}
use Rattle.dso_server.proofs.fits_parts.fits_set.Goals as goal

pub returns-then-not-holds : goal.returns-then-not-holds
returns-then-not-holds c = λ p es ps s. no (λ fits. cc (sym c.if-not-holds.true ∙ (c.holds.ensures p es s ∙ fits.0)))

pub returns : goal.returns
returns c = λ p es ps s.
    let set = c.args.set in
    let body : Body = c.in-Some.body.now in
    let leased : leased_to c.args.client c.guard_at.result (counted es) ≡ leased_to c.args.client (guard_of p.shape body.class set.object set.field) (counted es) = ap (λ l. leased_to c.args.client l (counted es)) (c.guard_at.ensures ∙ ap (λ shape. guard_of shape body.class set.object set.field) (sym ps)) in (
      λ e. (
        sym (c.holds.ensures p es s) ∙ c.if-not-holds.false,
        subst (λ found. FitsStored p c.args.client set found (counted es)) c.in-Some.ensures
            ((c.fits_field.ensures.0 c.if-not-fits_field.false).0, sym leased ∙ (c.may_write.ensures p es s).0 e, subst (λ shape. Fits (kind_of shape body.class set.field) set.value) (sym ps) (c.fits_field.ensures.0 c.if-not-fits_field.false).1),
      ),
      λ fits. (c.may_write.ensures p es s).1 (leased ∙ (subst (λ found. FitsStored p c.args.client set found (counted es)) (sym c.in-Some.ensures) fits.1).1),
    )
