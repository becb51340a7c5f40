use Rattle.std.proofs.Common.{◌≡◌, refl, sym, subst, IfErr, IfOk, OnOk}
use Rattle.std.specs.Option.{IfSome}
use Rattle.dso_command_line.specs.Words.{Show, ShowCall}
use Rattle.dso_keep.specs.Reading.{IsWhole}
use Rattle.dso_keep.specs.Records.{Reopens}
use Rattle.dso_run.specs.Headline.{CallOutput, left_by}
use Rattle.dso_run.specs.StoreCalls.{IsShowRefused}
use Rattle.dso_run.specs.Stores.{CallDisk, WasTaken, disk_by}
use Rattle.dso_run.specs.Writing.{MeansFor}
use Rattle.dso_run.proofs.storing.Showing.{not_shown, store_shown}
use Rattle.dso_run.proofs.asked.Asked.show_store.Goals as goal

-- the store couldn't be read
pub returns-in-Ok-Err-clause-answer : goal.returns-in-Ok-Err-clause-answer
returns-in-Ok-Err-clause-answer g c = λ files.
    let p = c.args.self.now.program.now in
    let call : ShowCall = c.requires.shown.0 in
    let disk : CallDisk = disk_by g.D.Disk.faults g.D.Disk.found g.D.Disk.file c.args.disk.now c.read_store.new.disk in
    let output : CallOutput = left_by (λ f. f.0) (λ f. f.1) g.K.Sink.taken g.K.Sink.faults files files c.args.out.now c.refuse.new.out disk
    c.nothing_ran.result.journal.entries in
    let refused = subst (λ read. IfErr read (IsShowRefused c.args.name.now p.code.shape disk)) c.in-Ok-Err.field-0-is c.in-Ok-Err.ensures.refused in
    subst (λ command. MeansFor command p files.0 output c.nothing_ran.result.status) (sym c.requires.shown.1)
    (subst (MeansFor (Show call) p files.0 output) (sym c.nothing_ran.ensures.status)
    (not_shown call p files.0 output c.nothing_ran.ensures.empty (λ file. refl) refl c.in-Ok-Err.refusal c.refuse.result
    (subst (λ name. IsShowRefused name p.code.shape disk c.in-Ok-Err.refusal) (sym c.requires.shown.2) refused) c.refuse.ensures))

-- its graph is written
pub returns-in-Ok-clause-answer : goal.returns-in-Ok-clause-answer
returns-in-Ok-clause-answer g c = λ files.
    let p = c.args.self.now.program.now in
    let call : ShowCall = c.requires.shown.0 in
    let disk : CallDisk = disk_by g.D.Disk.faults g.D.Disk.found g.D.Disk.file c.args.disk.now c.read_store.new.disk in
    let output : CallOutput = left_by (λ f. f.0) (λ f. f.1) g.K.Sink.taken g.K.Sink.faults files files c.args.out.now c.write_or_fail.new.out disk
    c.nothing_ran-in-Ok.result.journal.entries in
    let kept = c.in-Ok-Ok.kept in
    let whole = subst (λ read. IfOk read (IsWhole p.code.shape)) c.in-Ok-Ok.field-0-is c.in-Ok-Ok.ensures.whole in
    let reopens = subst (λ read. IfOk read (λ kept. IfSome disk.before (λ file. Reopens p.code.shape (disk.found c.args.name.now) kept.records.items)))
    c.in-Ok-Ok.field-0-is c.in-Ok-Ok.ensures.reopens in
    let taken = subst (λ read. OnOk read (WasTaken c.args.name.now disk)) c.in-Ok-Ok.field-0-is c.in-Ok-Ok.ensures.taken in
    let sound = subst (λ read. OnOk read (disk.faults_after ≡ disk.faults_before)) c.in-Ok-Ok.field-0-is c.in-Ok-Ok.ensures.sound in
    subst (λ command. MeansFor command p files.0 output c.nothing_ran-in-Ok.result.status) (sym c.requires.shown.1)
    (subst (MeansFor (Show call) p files.0 output) (sym c.nothing_ran-in-Ok.ensures.status)
    (store_shown call p files.0 output c.nothing_ran-in-Ok.ensures.empty (λ file. refl) refl kept.records.items c.in-Ok.text.items c.write_or_fail.result whole.fit
    (subst (λ name. IfSome disk.before (λ file. Reopens p.code.shape (disk.found name) kept.records.items)) (sym c.requires.shown.2) reopens) c.in-Ok.ensures
    (subst (λ name. WasTaken name disk) (sym c.requires.shown.2) taken) sound (rw c.as_slice.ensures.value at c.write_or_fail.ensures)))
