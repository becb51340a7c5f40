use Rattle.std.proofs.Common.{rules, ◌≡◌}
use Rattle.dso_law.specs.ClientWaiters.{without}
use Rattle.dso_legal.specs.JournalPassTables.{waiters_in}
use Rattle.dso_legal.proofs.journal_pass.WaiterTables.{list_changed}
use Rattle.dso_legal.proofs.waiters.wake.Goals as goal

pub returns : goal.returns
returns c =
    let list : c.from_vec.result ≡ without c.args.thread (waiters_in c.args.waiters.now c.args.lock) = search rules in
    list_changed c.args.lock (λ list. without c.args.thread list) c.args.waiters.now c.take_list-list.new.waiters c.put.new.map c.from_vec.result c.take_list-list.ensures.gone c.in_ok-put.ensures list
