use Rattle.std.proofs.Common.{[]}
use Rattle.dso_legal.specs.JournalPassTables.{server_state_in}
use Rattle.dso_legal.proofs.committing.Committing.act.Goals as goal

pub returns : goal.returns
returns c = λ i. record { clients = c.in_ok-act_in.ensures i; lists = server_state_in c.args.self.now.lists; history = [] }
