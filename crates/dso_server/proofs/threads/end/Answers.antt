use Rattle.std.proofs.Common.{Some}
use Rattle.std.proofs.lemmas.Result.{on_ok_weaker}
use Rattle.dso_server.proofs.lists.ThreadTables.{known_written, last_written}
use Rattle.dso_server.proofs.threads.end.Goals as goal

pub returns-clause-known : goal.returns-clause-known
returns-clause-known c = on_ok_weaker c.put.result (λ put. known_written c.args.threads.now c.put.new.map c.args.thread (Some c.args.ending) put) c.put.ensures

pub returns-clause-last : goal.returns-clause-last
returns-clause-last c = on_ok_weaker c.put.result (λ put. last_written c.args.threads.now c.put.new.map c.args.thread (Some c.args.ending) put) c.put.ensures
