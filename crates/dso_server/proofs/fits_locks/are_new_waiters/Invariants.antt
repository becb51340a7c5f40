use Rattle.std.proofs.Common.{List, take}
use Rattle.std.specs.List.{AllByRecursion}
use Rattle.dso_base.specs.declared.journal.Entry.{Entry}
use Rattle.dso_law.specs.FitsUp.{AreDistinct, IsNewWaiter}
use Rattle.dso_law.specs.ServerReadings.{counted}
use Rattle.dso_law.specs.Settings.{Settings}
use Rattle.dso_server.specs.ServerStands.{ServerStands}
use Rattle.dso_server.proofs.fits_locks.are_new_waiters.Given as goal

abbrev pub invariant-loop-at : goal.invariant-loop-at
invariant-loop-at l = ((p : Settings) (es : List Entry) → ServerStands p l.server es → AllByRecursion (IsNewWaiter p l.client l.lock (counted es)) (take l.at l.threads)) × AreDistinct (take l.at l.threads)
