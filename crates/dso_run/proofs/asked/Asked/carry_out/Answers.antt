use Rattle.std.proofs.Common.{refl}
use Rattle.dso_run.specs.Stores.{disk_by}
use Rattle.dso_run.proofs.asked.Asked.carry_out.Goals as goal

-- a store is shown
pub returns-in-Show-clause-answer : goal.returns-in-Show-clause-answer
returns-in-Show-clause-answer g c = c.show_store.ensures.answer (g.F.Files.content c.args.files.now, g.F.Files.write_faults c.args.files.now)

-- the locks are checked
pub returns-in-Lint-clause-answer : goal.returns-in-Lint-clause-answer
returns-in-Lint-clause-answer g c =
    c.check_locks.ensures.answer (g.F.Files.content c.args.files.now, g.F.Files.write_faults c.args.files.now)
    (disk_by g.D.Disk.faults g.D.Disk.found g.D.Disk.file c.args.disk.now c.args.disk.now) (record { file = refl; sound = refl })
