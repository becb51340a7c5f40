use Rattle.std.proofs.Common.{rules, ◌≡◌, ◌++◌}
use Rattle.dso_legal.specs.JournalPassTables.{waiters_in}
use Rattle.dso_legal.proofs.journal_pass.WaiterTables.{list_changed}
use Rattle.dso_legal.proofs.waiters.append.Goals as goal

pub returns : goal.returns
returns c =
    let list : c.from_vec.result ≡ waiters_in c.args.waiters.now c.args.lock ++ c.args.threads.now = search rules in
    list_changed c.args.lock (λ list. list ++ c.args.threads.now) c.args.waiters.now c.take_list-list.new.waiters c.put.new.map c.from_vec.result c.take_list-list.ensures.gone c.in_ok-put.ensures list
