use Rattle.dso_machine.specs.Standing.{IsAnswered}
use Rattle.dso_machine.proofs.standing.AfterEvents.{one_more, listed_out}
use Rattle.dso_machine.proofs.thread.Thread.answer.Goals as goal

pub returns : goal.returns
returns c =
    let there : IsAnswered c.replace-due.result c.args.reply c.put_in.new.place = rw c.put_in.ensures c.answered.ensures in
    let is : IsAnswered c.args.self.now.due c.args.reply c.put_in.new.place = rw c.replace-due.ensures.value at there in
    record { stands = λ code t events request woken h. one_more code t c.args.self.now events request c.args.reply woken c.put_in.new.place (listed_out _ c.args.reply c.requires.listed) is h }
