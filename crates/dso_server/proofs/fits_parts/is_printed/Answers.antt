use Rattle.std.proofs.Common.{◌≡◌, sym, ◌∙◌, subst, true}
use Rattle.dso_law.specs.FitsUp.{IsPrinted}
use Rattle.dso_law.specs.ServerReadings.{counted}
use Rattle.dso_server.proofs.fits_parts.is_printed.Goals as goal

pub returns-in-Ref : goal.returns-in-Ref
returns-in-Ref c = λ p es s. subst (λ v. (c.is_given.result ≡ true → IsPrinted (counted es) v) × (IsPrinted (counted es) v → c.is_given.result ≡ true)) (sym c.in-Ref.is) (λ e. sym (c.is_given.ensures p es s) ∙ e, λ printed. c.is_given.ensures p es s ∙ printed)
