use Rattle.dso_table.proofs.objects.TableChanges.{told_out, agree_out}
use Rattle.dso_table.proofs.flush.flush.Goals as goal

pub returns-clause-flushed : goal.returns-clause-flushed
returns-clause-flushed c = told_out c.args.tables.now c.requires.agree c.args.object c.take_out.new.places c.take_out.ensures.agree c.take_out-2.new.order c.in_ok-judged.ensures.flushable.unchanged c.take_out.ensures.gone c.take_out-2.ensures.used c.take_out-2.ensures.limit c.take_out-2.ensures.number

pub returns-clause-agree : goal.returns-clause-agree
returns-clause-agree c = agree_out c.args.tables.now c.requires.agree c.args.object c.take_out.new.places c.take_out.ensures.agree c.take_out-2.new.order c.take_out-2.ensures.agrees c.take_out.ensures.gone c.take_out-2.ensures.ordered
