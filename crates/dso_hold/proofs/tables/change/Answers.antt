use Rattle.std.proofs.Common.{refl}
use Rattle.dso_hold.proofs.Indexes.{agree_change}
use Rattle.dso_hold.proofs.tables.change.Goals as goal

pub returns-clause-agree : goal.returns-clause-agree
returns-clause-agree c = agree_change c.args.tables.now (record { by_lock = c.replace_in.new.rows; by_thread = c.args.tables.now.by_thread }) c.requires.agree c.args.lock c.args.thread c.args.held c.requires.there refl c.replace_in.ensures
