use Rattle.std.proofs.Common.{Some}
use Rattle.dso_host.specs.Hosts.{cluster_of}
use Rattle.dso_host.proofs.host.cells_after.Given as goal

-- the locks are of the cluster that the cells go by themselves
abbrev pub ghosts-run_cells : goal.ghosts-run_cells
ghosts-run_cells g a = record { cluster = Some (cluster_of a.setting.now.program.now a.cells) }
