use Rattle.std.proofs.Common.{rules, ◌≡◌, false, ap}
use Rattle.std.specs.Option.{unwrap_or}
use Rattle.std.specs.Ordering.{nat_cmp}
use Rattle.dso_lookup.specs.Maps.{look}
use Rattle.dso_legal.specs.JournalPass.{is_of_lost}
use Rattle.dso_legal.specs.JournalPassTables.{server_state_in}
use Rattle.dso_legal.proofs.journal_pass.WaiterTables.{entry_heard}
use Rattle.dso_legal.proofs.waiters.ServerState.take.Goals as goal

pub returns : goal.returns
returns c =
    let is : is_of_lost c.args.input.now (server_state_in c.args.self.now).lost ≡ false = search rules in
    let same = ap (λ table. λ d. unwrap_or (look nat_cmp table d) false) c.in_ok-tell_all.ensures.lost in
    entry_heard c.args.input.now c.args.sent.now (server_state_in c.args.self.now) (server_state_in c.hear.new.self) (server_state_in c.tell_all.new.self) is c.in_ok-hear.ensures same c.in_ok-tell_all.ensures.waiters
