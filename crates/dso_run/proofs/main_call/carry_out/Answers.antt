use Rattle.std.proofs.Common.{refl}
use Rattle.dso_run.specs.Headline.{ReadFailed, RoseOf}
use Rattle.dso_run.specs.Stores.{disk_by}
use Rattle.dso_command_line.specs.Said.{said}
use Rattle.dso_run.proofs.Answering.{told_means}
use Rattle.dso_run.proofs.main_call.carry_out.Goals as goal

-- an accepted program
pub returns-in-Ok-clause-answer : goal.returns-in-Ok-clause-answer
returns-in-Ok-clause-answer g c =
    told_means g.F.Files.content g.F.Files.read_faults g.F.Files.write_faults g.K.Sink.taken g.K.Sink.faults c.args.files.now c.accepted.new.files
    c.carry_out.new.files c.args.out.now c.accepted.new.out c.carry_out.new.out
    (disk_by g.D.Disk.faults g.D.Disk.found g.D.Disk.file c.args.disk.now c.carry_out.new.disk) c.carry_out.result.journal.entries (said c.args.command)
    c.in-Ok.program (ReadFailed (said c.args.command) (RoseOf (g.F.Files.read_faults c.args.files.now) (g.F.Files.read_faults c.accepted.new.files)))
    c.in-Ok.ensures.verdict c.accepted.ensures.unchanged c.accepted.ensures.writes c.in-Ok.ensures.unwritten c.carry_out.result.status
    c.carry_out.ensures.answer

-- a refusal, with nothing done to the disk
pub returns-in-Err-clause-answer : goal.returns-in-Err-clause-answer
returns-in-Err-clause-answer g c = λ words lawful.
    c.in-Err.ensures.refused words lawful (disk_by g.D.Disk.faults g.D.Disk.found g.D.Disk.file c.args.disk.now c.args.disk.now) (record { file = refl; sound = refl })
