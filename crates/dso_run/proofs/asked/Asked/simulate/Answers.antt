use Rattle.std.proofs.Common.{refl, sym}
use Rattle.dso_command_line.specs.Said.{said}
use Rattle.dso_run.specs.Headline.{CallOutput, left_by}
use Rattle.dso_run.specs.Stores.{CallDisk, disk_by}
use Rattle.dso_run.proofs.storing.Meaning.{without_store}
use Rattle.dso_run.proofs.asked.Asked.simulate.Goals as goal

-- no store is named
pub returns-in-None-clause-answer : goal.returns-in-None-clause-answer
returns-in-None-clause-answer g c =
    let disk : CallDisk = disk_by g.D.Disk.faults g.D.Disk.found g.D.Disk.file c.args.disk.now c.args.disk.now in
    let output : CallOutput = left_by g.F.Files.content g.F.Files.write_faults g.K.Sink.taken g.K.Sink.faults c.args.files.now c.run_by_slots.new.files c.args.out.now
    c.run_by_slots.new.out disk c.run_by_slots.result.journal.entries in
    without_store (said c.args.self.now.command) c.args.self.now.program.now (g.F.Files.content c.args.files.now) output c.run_by_slots.result.status
    (c.run_by_slots.ensures.told disk) (sym c.in-None.ensures) (record { file = refl; sound = refl })
