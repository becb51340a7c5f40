use Rattle.std.proofs.Common.{None, refl}
use Rattle.dso_hold.proofs.Indexes.{agree_both}
use Rattle.dso_hold.proofs.tables.take_out.Goals as goal

pub returns-clause-agree : goal.returns-clause-agree
returns-clause-agree c = agree_both c.args.tables.now (record { by_lock = c.remove_in.new.rows; by_thread = c.remove_in-2.new.rows }) c.requires.agree c.args.lock c.args.thread None None refl c.remove_in-2.ensures c.remove_in.ensures
