use Rattle.dso_client.proofs.applied.Counts.{counts_answered}
use Rattle.dso_client.proofs.hold_effect.enter.Goals as goal

pub returns-clause-most : goal.returns-clause-most
returns-clause-most c = λ most h fits.
    let wanted = c.args.wanted in
    counts_answered most c.args.count wanted.thread wanted.lock wanted.level c.args.holds.now c.enter.new.self c.in_ok-enter.field-0 c.in_ok-enter.ensures.answer h fits
