use Rattle.std.proofs.Common.{Some}
use Rattle.dso_hold.specs.Holds.{hold_in, with_hold}
use Rattle.dso_hold.proofs.EntryAnswers.{first_answer, agree_as}
use Rattle.dso_hold.proofs.Exclusion.{exclusive_entered}
use Rattle.dso_hold.proofs.entries.enter_first.Goals as goal

pub returns-clause-answer : goal.returns-clause-answer
returns-clause-answer c = first_answer (hold_in c.args.tables.now) (hold_in c.add.new.tables) c.args.lock c.args.thread c.args.own c.requires.absent c.in_default.ensures.none c.in_ok-add.ensures.ok

pub returns-clause-agree : goal.returns-clause-agree
returns-clause-agree c = agree_as c.add.new.tables (with_hold c.args.lock c.args.thread (Some c.args.own) (hold_in c.args.tables.now)) c.in_ok-add.ensures.ok (exclusive_entered (hold_in c.args.tables.now) c.requires.agree.exclusive c.args.lock c.args.thread c.args.own c.requires.absent c.in_default.ensures.none) c.add.ensures.agree
