use Rattle.std.proofs.Common.{ap, map, refl, subst}
use Rattle.std.specs.String.{string_bytes}
use Rattle.dso_command_line.specs.Words.{Run}
use Rattle.dso_run.specs.Headline.{StatusMeans, left_by, read_by}
use Rattle.dso_run.specs.Stores.{CallDisk, disk_by}
use Rattle.dso_run.proofs.main_call.dso_main.Goals as goal

-- words that ask for a run in threads are lawful
pub returns-in-None-clause-usage : goal.returns-in-None-clause-usage
returns-in-None-clause-usage g c = λ unlawful. absurd (unlawful (Run c.in-None.ensures.threads.call) c.in-None.ensures.threads.lawful)

-- nothing was done before the run
pub returns-in-None-clause-answer : goal.returns-in-None-clause-answer
returns-in-None-clause-answer g c =
    let same = c.in-None.ensures.untouched refl in
    let words = map string_bytes c.args.words.now in
    let disk : CallDisk = disk_by g.D.Disk.faults g.D.Disk.found g.D.Disk.file c.args.disk.now c.without_threads.new.disk in
    let means = c.in_threads.ensures.answer disk (record { file = ap g.D.Disk.file same.2; sound = ap g.D.Disk.faults same.2 }) in
    subst (λ files. StatusMeans (read_by g.F.Files.content g.F.Files.read_faults files c.in_threads.new.files words)
    (left_by g.F.Files.content g.F.Files.write_faults g.K.Sink.taken g.K.Sink.faults files c.in_threads.new.files c.args.out.now c.in_threads.new.out disk
    c.in_threads.result.journal.entries) c.in_threads.result.status) same.0
    (subst (λ out. StatusMeans (read_by g.F.Files.content g.F.Files.read_faults c.without_threads.new.files c.in_threads.new.files words)
    (left_by g.F.Files.content g.F.Files.write_faults g.K.Sink.taken g.K.Sink.faults c.without_threads.new.files c.in_threads.new.files out c.in_threads.new.out disk
    c.in_threads.result.journal.entries) c.in_threads.result.status) same.1 means)
