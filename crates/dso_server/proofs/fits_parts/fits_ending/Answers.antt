use Rattle.std.proofs.Common.{◌≡◌, sym, subst, true}
use Rattle.dso_law.specs.FitsUp.{FitsEnding}
use Rattle.dso_law.specs.ServerReadings.{counted}
use Rattle.dso_server.proofs.fits_parts.fits_ending.Goals as goal

pub returns-in-Exit : goal.returns-in-Exit
returns-in-Exit c = λ p es s. subst (λ e. (c.is_leased.result ≡ true → FitsEnding c.args.client c.args.thread e (counted es)) × (FitsEnding c.args.client c.args.thread e (counted es) → c.is_leased.result ≡ true)) (sym c.in-Exit.is) (c.is_leased.ensures p es s)

pub returns-in-Wait : goal.returns-in-Wait
returns-in-Wait c = λ p es s. subst (λ e. (c.may_write.result ≡ true → FitsEnding c.args.client c.args.thread e (counted es)) × (FitsEnding c.args.client c.args.thread e (counted es) → c.may_write.result ≡ true)) (sym c.in-Wait.is) (c.may_write.ensures p es s)

pub returns-in-Timeout : goal.returns-in-Timeout
returns-in-Timeout c = λ p es s. subst (λ e. (c.waited.result ≡ true → FitsEnding c.args.client c.args.thread e (counted es)) × (FitsEnding c.args.client c.args.thread e (counted es) → c.waited.result ≡ true)) (sym c.in-Timeout.is) (c.waited.ensures p es s)
