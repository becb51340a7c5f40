use Rattle.std.proofs.Common.{◌-◌, Some, None, sym}
use Rattle.dso_hold.specs.Holds.{hold_in, with_hold}
use Rattle.dso_hold.proofs.EntryAnswers.{agree_as, exclusive_counted, exclusive_without}
use Rattle.dso_hold.proofs.entries.exit.Goals as goal

pub returns-in-Some-clause-agree : goal.returns-in-Some-clause-agree
returns-in-Some-clause-agree c = agree_as c.change.new.tables (with_hold c.args.lock c.args.thread (Some (record c.in-Some.own { count = c.in-Some.own.count - c.args.count })) (hold_in c.args.tables.now)) c.change.ensures.holds (exclusive_counted (hold_in c.args.tables.now) c.requires.exclusive c.args.lock c.args.thread c.in-Some.own (c.in-Some.own.count - c.args.count) (sym c.in-Some.ensures)) c.change.ensures.agree

pub returns-in_default-clause-agree : goal.returns-in_default-clause-agree
returns-in_default-clause-agree c = agree_as c.take_out.new.tables (with_hold c.args.lock c.args.thread None (hold_in c.args.tables.now)) c.take_out.ensures.holds (exclusive_without (hold_in c.args.tables.now) c.requires.exclusive c.args.lock c.args.thread) c.take_out.ensures.agree
