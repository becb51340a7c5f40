use Rattle.std.proofs.Common.{sym, ◌∙◌, subst}
use Rattle.std.proofs.lemmas.List.{take_all}
use Rattle.dso_law.specs.FitsUp.{AreDistinct, IsNewWaiter}
use Rattle.dso_law.specs.ServerReadings.{counted}
use Rattle.dso_server.proofs.lists.Lists.{each_at, each_next, each_so_far}
use Rattle.dso_server.proofs.standing.NewWaiters.{distinct_next, named_twice}
use Rattle.dso_server.proofs.lists.Telling.{no, yes}
use Rattle.dso_server.proofs.fits_locks.are_new_waiters.Goals as goal

pub returns-then-is_before : goal.returns-then-is_before
returns-then-is_before c = λ p es s. no (λ fits. named_twice c.args.threads.now (record { client = 0; index = 0 }) c.loop-at.at c.loop-at-test.true (sym c.is_before.ensures ∙ c.if-is_before.true) fits.1)

pub returns-then-not-is_new_waiter : goal.returns-then-not-is_new_waiter
returns-then-not-is_new_waiter c = λ p es s. no (λ fits. cc (sym c.if-not-is_new_waiter.true ∙ (c.is_new_waiter.ensures p es s).1 (each_at (IsNewWaiter p c.args.client c.args.lock (counted es)) c.args.threads.now (record { client = 0; index = 0 }) c.loop-at.at c.loop-at-test.true fits.0)))

pub loop-at-preserved : goal.loop-at-preserved
loop-at-preserved c = (
  λ p es s. each_next (IsNewWaiter p c.args.client c.args.lock (counted es)) c.args.threads.now (record { client = 0; index = 0 }) c.loop-at.at c.loop-at-test.true (c.loop-at.invariant.0 p es s) ((c.is_new_waiter.ensures p es s).0 c.if-not-is_new_waiter.false),
  distinct_next c.args.threads.now (record { client = 0; index = 0 }) c.loop-at.at c.loop-at-test.true c.loop-at.invariant.1 (sym c.is_before.ensures ∙ c.if-is_before.false),
)

pub returns : goal.returns
returns c = λ p es s. yes (each_so_far (IsNewWaiter p c.args.client c.args.lock (counted es)) c.args.threads.now c.loop-at.at c.loop-at-test.false (c.loop-at.invariant.0 p es s), subst AreDistinct (take_all c.loop-at.at c.args.threads.now c.loop-at-test.false) c.loop-at.invariant.1)
