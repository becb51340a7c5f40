use Rattle.std.proofs.Common.{◌≡◌, subst}
use Rattle.dso_hold.specs.Holds.{hold_in, with_hold, exited}
use Rattle.dso_hold.proofs.hold.Hold.exit.Goals as goal

pub returns-clause-holds : goal.returns-clause-holds
returns-clause-holds c = subst (λ tables. hold_in c.exit.new.tables ≡ with_hold c.args.lock c.args.thread (exited c.args.count (hold_in tables (c.args.lock, c.args.thread))) (hold_in tables)) c.self.view_is c.exit.ensures.holds
