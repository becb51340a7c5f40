use Rattle.std.proofs.Common.{◌∙◌, inr, refl, sym, subst, reverse}
use Rattle.dso_command_line.specs.Said.{said}
use Rattle.dso_command_line.specs.Words.{steps_of}
use Rattle.dso_keep.specs.Crash.{CrashLeaves}
use Rattle.dso_kept.specs.Keeping.{ReopensFirst, applied}
use Rattle.dso_machine.specs.Next.{next_request}
use Rattle.dso_run.specs.Accepted.{settings_of}
use Rattle.dso_run.specs.Headline.{CallOutput, left_by}
use Rattle.dso_run.specs.RunEnds.{BySlots, IsRun}
use Rattle.dso_run.specs.StoreRuns.{IsStoreRunOf, IsWholeIn, journal_in}
use Rattle.dso_run.specs.Stores.{CallDisk, IsStored, disk_by, file_taken}
use Rattle.dso_run.specs.Writing.{MeansFor}
use Rattle.dso_run.proofs.storing.Meaning.{not_opened, over_store, store_failed}
use Rattle.dso_run.proofs.asked.Asked.run_over_store.Goals as goal

-- there was no store to be had
pub returns-in-Err-clause-answer : goal.returns-in-Err-clause-answer
returns-in-Err-clause-answer g c =
    let disk : CallDisk = disk_by g.D.Disk.faults g.D.Disk.found g.D.Disk.file c.args.disk.now c.open_store.new.disk in
    let output : CallOutput = left_by g.F.Files.content g.F.Files.write_faults g.K.Sink.taken g.K.Sink.faults c.args.files.now c.args.files.now c.args.out.now
    c.refuse.new.out disk c.nothing_ran.result.journal.entries in
    subst (MeansFor (said c.args.self.now.command) c.args.self.now.program.now (g.F.Files.content c.args.files.now) output) (sym c.nothing_ran.ensures.status)
    (not_opened (said c.args.self.now.command) c.args.self.now.program.now (g.F.Files.content c.args.files.now) output c.args.name.now c.requires.named
    (λ file. refl) refl c.nothing_ran.ensures.empty c.in-Err.refusal c.refuse.result c.in-Err.ensures.refused c.refuse.ensures)

-- the run ended
pub returns-in-Ok-Ended-clause-answer : goal.returns-in-Ok-Ended-clause-answer
returns-in-Ok-Ended-clause-answer g c =
    let disk : CallDisk = disk_by g.D.Disk.faults g.D.Disk.found g.D.Disk.file c.args.disk.now c.run.new.disk in
    let output : CallOutput = left_by g.F.Files.content g.F.Files.write_faults g.K.Sink.taken g.K.Sink.faults c.args.files.now c.write.new.files c.args.out.now
    c.write.new.out disk c.write.result.journal.entries in
    let shape = c.args.self.now.program.now.code.shape in
    let run = c.in-Ok-Ended.run' in
    let start = file_taken c.args.name.now disk in
    let stored : IsStored c.args.name.now shape (applied (reverse run.journal.entries)) disk = record {
      short = c.in-Ok.ensures.opened.short;
      crash = subst (λ r. CrashLeaves (ReopensFirst shape (applied (reverse (journal_in r)))) start disk.after) c.in-Ok-Ended.field-0-is
          (c.in-Ok-Ended.ensures.crash start c.in-Ok.ensures.opened.crash);
      whole = subst (λ r. IsWholeIn shape (applied (reverse (journal_in r))) disk.after r) c.in-Ok-Ended.field-0-is c.in-Ok-Ended.ensures.whole;
      sound = c.in-Ok-Ended.ensures.sound run c.in-Ok-Ended.field-0-is ∙ c.in-Ok.ensures.opened.sound;
    } in
    over_store (said c.args.self.now.command) c.args.self.now.program.now (g.F.Files.content c.args.files.now) output c.args.name.now c.requires.named
    run.journal.entries c.write.result.status (c.write.ensures.told disk) c.write.ensures.journal stored

-- the disk failed in it
pub returns-in-Ok-CutOff-clause-answer : goal.returns-in-Ok-CutOff-clause-answer
returns-in-Ok-CutOff-clause-answer g c =
    let disk : CallDisk = disk_by g.D.Disk.faults g.D.Disk.found g.D.Disk.file c.args.disk.now c.run.new.disk in
    let output : CallOutput = left_by g.F.Files.content g.F.Files.write_faults g.K.Sink.taken g.K.Sink.faults c.args.files.now c.args.files.now c.args.out.now
    c.refuse-in-Ok-CutOff.new.out disk c.in-Ok-CutOff.journal.entries in
    let p = c.args.self.now.program.now in
    let start = file_taken c.args.name.now disk in
    let so_far = subst (IsStoreRunOf p c.schedule.result.seed c.schedule.result.steps) c.in-Ok-CutOff.field-0-is c.in-Ok-CutOff.ensures.run in
    let leaves = subst (λ r. CrashLeaves (ReopensFirst p.code.shape (applied (reverse (journal_in r)))) start disk.after) c.in-Ok-CutOff.field-0-is
    (c.in-Ok-CutOff.ensures.crash start c.in-Ok.ensures.opened.crash) in
    store_failed (said c.args.self.now.command) p (g.F.Files.content c.args.files.now) output c.args.name.now c.requires.named (λ file. refl) refl
    c.refuse-in-Ok-CutOff.result
    (rw c.in-Ok.ensures.opened.sound at (c.in-Ok-CutOff.ensures.failed c.in-Ok-CutOff.journal c.in-Ok-CutOff.field-0-is))
    (subst (λ seed. IsRun (settings_of p) (next_request p.code) (BySlots seed) (steps_of (said c.args.self.now.command)) (reverse c.in-Ok-CutOff.journal.entries)) c.schedule.ensures.seed
    (subst (λ steps. IsRun (settings_of p) (next_request p.code) (BySlots c.schedule.result.seed) steps (reverse c.in-Ok-CutOff.journal.entries)) c.schedule.ensures.steps so_far))
    (λ short. inr leaves) c.refuse-in-Ok-CutOff.ensures
