use Rattle.std.proofs.Common.{◌≡◌, sym, subst, true}
use Rattle.dso_law.specs.FitsUp.{IsLock}
use Rattle.dso_law.specs.ServerReadings.{counted}
use Rattle.dso_server.proofs.fits_locks.is_lock.Goals as goal

pub returns-in-Mon : goal.returns-in-Mon
returns-in-Mon c = λ p es ps s. subst (λ l. (c.is_monitor.result ≡ true → IsLock p l (counted es)) × (IsLock p l (counted es) → c.is_monitor.result ≡ true)) (sym c.in-Mon.is) (c.is_monitor.ensures p es s)
