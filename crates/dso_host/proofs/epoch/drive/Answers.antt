use contract.Lifetimes.{Lfts}
use denote.Param.Send.{IsSync, given_sync, param_sync, sendable}
use Rattle.std.proofs.Crossing.{crosses}
use Rattle.dso_cell.proofs.locked_server.LockedServer.TheSendSync as locked_server
use Rattle.dso_host.proofs.crossing.Locked.{locked_client_send}
use Rattle.dso_host.proofs.crossing.Programs.{program_sync}
use Rattle.dso_host.proofs.epoch.drive.Given as given
use Rattle.dso_host.proofs.epoch.drive.Lts as lts
use Rattle.dso_host.proofs.epoch.drive.Goals as goal

-- what each worker has: the cells behind their locks, the program, the runtime and the gate
shared : (g : given.Over) (κs : Lfts 13) → IsSync g.row.R → IsSync g.row.G
    → IsSync (lts.arg-0-2 g.row.N g.row.R g.row.G g.N.laws g.R.laws g.G.laws g.N.Naming g.N.Naming-dict g.R.Threads g.R.Threads-dict g.R.Wait g.R.Wait-dict g.G.Gate g.G.Gate-dict κs)
shared g κs r t = search (sendable, crosses, locked_client_send, locked_server.the_send, program_sync) depth 20

-- threads may share it
pub for_each_mut-requires-sync-F : goal.for_each_mut-requires-sync-F
for_each_mut-requires-sync-F g c κs within = param_sync 2 _ (shared g κs (given_sync 1 g.row.R c.type_bounds.sync-R) (given_sync 2 g.row.G c.type_bounds.sync-G))
