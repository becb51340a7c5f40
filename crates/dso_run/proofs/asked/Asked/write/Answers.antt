use Rattle.dso_run.specs.Headline.{CallOutput, IsKept, left_by}
use Rattle.dso_command_line.specs.Said.{said}
use Rattle.dso_run.proofs.ToldRuns.{told_run}
use Rattle.dso_run.proofs.asked.Asked.write.Goals as goal

-- its journal is kept, and its text was given to the sink
pub returns-in-Ok-keep_journal-clause-told : goal.returns-in-Ok-keep_journal-clause-told
returns-in-Ok-keep_journal-clause-told g c = λ disk.
    let output : CallOutput =
    left_by g.F.Files.content g.F.Files.write_faults g.K.Sink.taken g.K.Sink.faults c.args.files.now c.keep_journal.new.files c.args.out.now
    c.write_or_fail-status.new.out disk c.args.run.journal.entries in
    let kept : IsKept (said c.args.self.now.command) c.args.run.journal.entries (g.F.Files.content c.args.files.now) (g.F.Files.content c.keep_journal.new.files) =
    rw c.journal.ensures at c.in-Ok-keep_journal.ensures.written in
    rw (c.ended.ensures.journal, c.ended.ensures.status)
    (told_run (said c.args.self.now.command) c.args.self.now.program.now (g.F.Files.content c.args.files.now) output c.args.run.outcome c.in-Ok.text.items
    c.write_or_fail-status.result c.requires.run.made kept c.in-Ok.ensures c.in-Ok-keep_journal.ensures.sound
    (rw (c.as_slice.ensures.value, c.status_of_run.ensures) at c.write_or_fail-status.ensures))
