use Rattle.std.proofs.Common.{◌+◌, Some, ap, sym, ◌∙◌}
use Rattle.dso_hold.specs.Holds.{hold_in, with_hold, entered_again}
use Rattle.dso_hold.proofs.EntryAnswers.{again_answer, agree_as, exclusive_counted}
use Rattle.dso_hold.proofs.entries.enter_again.Goals as goal

pub returns-clause-answer : goal.returns-clause-answer
returns-clause-answer c = again_answer (hold_in c.args.tables.now) (hold_in c.change.new.tables) c.args.lock c.args.thread c.args.own c.args.wanted.level c.args.wanted.count c.requires.agree.exclusive c.requires.own (sym c.is_lower.ensures ∙ c.if-is_lower.false) (c.change.ensures.holds ∙ ap (λ held. with_hold c.args.lock c.args.thread (Some held) (hold_in c.args.tables.now)) c.entered_again.ensures)

pub returns-clause-agree : goal.returns-clause-agree
returns-clause-agree c = agree_as c.change.new.tables (with_hold c.args.lock c.args.thread (Some (entered_again c.args.wanted.count c.args.own)) (hold_in c.args.tables.now)) (c.change.ensures.holds ∙ ap (λ held. with_hold c.args.lock c.args.thread (Some held) (hold_in c.args.tables.now)) c.entered_again.ensures) (exclusive_counted (hold_in c.args.tables.now) c.requires.agree.exclusive c.args.lock c.args.thread c.args.own (c.args.own.count + c.args.wanted.count) c.requires.own) c.change.ensures.agree
