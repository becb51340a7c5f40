use Rattle.std.proofs.Common.{ap, sym, ◌∙◌, subst, refl, Some}
use Rattle.dso_law.specs.FitsDown.{FitsClass}
use Rattle.dso_client.proofs.objects.KnownObjects.{absent, resident_with, class_with}
use Rattle.dso_client.proofs.message_fit.fits_change.Goals as goal

pub returns-in-Some : goal.returns-in-Some
returns-in-Some c = λ at stands.
    let o = c.args.set.object in
    let body = c.in-Some.body.now in
    let it = class_with at c.args.table.now o body stands (sym c.in-Some.ensures) ∙ ap (λ size. Some (body.class, size)) (sym c.len.ensures) in (
      (λ yes there. subst (FitsClass c.args.shape.now c.args.set) (sym it) (c.fits_field.ensures.0 yes)),
      (λ f. c.fits_field.ensures.1 (subst (FitsClass c.args.shape.now c.args.set) it (f (resident_with at c.args.table.now o body stands (sym c.in-Some.ensures))))),
    )

pub returns-in-None : goal.returns-in-None
returns-in-None c = λ at stands.
    let gone = absent at c.args.table.now c.args.set.object stands (sym c.in-None.ensures) in
    ((λ yes there. absurd (cc (sym gone ∙ there))), (λ f. refl))
