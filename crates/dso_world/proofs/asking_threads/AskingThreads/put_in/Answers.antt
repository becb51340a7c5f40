use Rattle.std.proofs.Common.{◌≤◌, ◌≡◌, sym, ◌∙◌, ap, length, arith}
use Rattle.dso_world.specs.AskingThreads.{row_of}
use Rattle.dso_world.proofs.asking.Words.{all_there}
use Rattle.dso_world.proofs.asking_threads.AskingThreads.put_in.Goals as goal

pub returns-else-row-len-clause-its : goal.returns-else-row-len-clause-its
returns-else-row-len-clause-its c = λ low b is.
    let same : c.in-Some.bucket ≡ b = cc (sym c.in-Some.is ∙ (c.asked_bucket.ensures.bucket c.args.thread ∙ is)) in
    let row = c.row_of-row.ensures in
    let past = c.if-row-len.false in
    let long = c.len.ensures in
    let many = ap length c.self.view_is in
    all_there c.args.self.now (row_of c.args.thread.client b) c.args.thread.index (omega (arith, same, row, past, long, many)) low
