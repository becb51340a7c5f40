use Rattle.std.proofs.Common.{rules, ◌≡◌}
use Rattle.dso_base.specs.declared.journal.Input.TheVariants.{TookUp, Lose}
use Rattle.dso_base.specs.declared.message.Up.TheVariants.{Return}
use Rattle.dso_legal.proofs.journal_pass.WaiterTables.{heard_return, heard_loss}
use Rattle.dso_legal.proofs.waiters.ServerState.hear.Goals as goal

pub returns-in_ok-append-in-TookUp-default-Return : goal.returns-in_ok-append-in-TookUp-default-Return
returns-in_ok-append-in-TookUp-default-Return c =
    let is : c.args.input.now ≡ TookUp c.in-TookUp-default-Return.field-0 (Return c.in-TookUp-default-Return.lock c.in-TookUp-default-Return.threads) = search rules in
    let slice : c.as_slice.result.now ≡ c.in-TookUp-default-Return.threads = search rules in
    rw is (heard_return c.in-TookUp-default-Return.field-0 c.in-TookUp-default-Return.lock c.as_slice.result.now c.in-TookUp-default-Return.threads c.args.self.now.lost c.args.self.now.waiters c.append.new.waiters slice c.in_ok-append-in-TookUp-default-Return.ensures)

pub returns-in_ok-lose-in-Lose : goal.returns-in_ok-lose-in-Lose
returns-in_ok-lose-in-Lose c =
    let is : c.args.input.now ≡ Lose c.in-Lose.client = search rules in
    rw is (heard_loss c.in-Lose.client c.args.self.now.lost c.put.new.map c.args.self.now.waiters c.lose.new.waiters c.in_ok-put-in-Lose.ensures c.in_ok-lose-in-Lose.ensures)
