use Rattle.std.proofs.Common.{refl, rules, subst, sym, map}
use Rattle.std.specs.String.{string_bytes}
use Rattle.dso_command_line.specs.Said.{said}
use Rattle.dso_command_line.specs.Words.{Run, Show}
use Rattle.dso_command_line.proofs.reading_words.Asking.{lawful_can}
use Rattle.dso_run.specs.declared.status.Refusal.TheVariants as refusal
use Rattle.dso_run.specs.Headline.{CallInput, CallOutput, StatusMeans, left_by, read_by}
use Rattle.dso_run.specs.Stores.{CallDisk, disk_by}
use Rattle.dso_run.proofs.Completing.{one_call}
use Rattle.dso_run.proofs.StatusMeaning.{refusal_means}
use Rattle.dso_run.proofs.main_call.without_threads.Goals as goal

-- the words ask for what can be asked
pub carry_out-requires : goal.carry_out-requires
carry_out-requires g c = record {
  asked = lawful_can (map string_bytes c.args.words.now) (said c.in-Some.command) c.in-Some.ensures;
  slots = search rules;
}

-- the words ask for this, and for nothing else
pub returns-in-Some : goal.returns-in-Some
returns-in-Some g c = record {
  answer = c.carry_out.ensures.answer (map string_bytes c.args.words.now) c.in-Some.ensures;
  usage = λ unlawful. absurd (unlawful (said c.in-Some.command) c.in-Some.ensures);
  unchanged = λ name other. c.carry_out.ensures.unchanged name (other (said c.in-Some.command) c.in-Some.ensures);
  no_store = λ none. c.carry_out.ensures.no_store (none (said c.in-Some.command) c.in-Some.ensures);
  unwritten = λ call lawful.
      c.carry_out.ensures.unwritten call (one_call (map string_bytes c.args.words.now) (said c.in-Some.command) (Show call) c.in-Some.ensures lawful);
  threads = search rules;
  untouched = λ is. absurd (cc is);
}

-- words that ask for nothing don't ask for a run in threads
pub returns-in-None-clause-threads : goal.returns-in-None-clause-threads
returns-in-None-clause-threads g c = λ asks. c.in-None.ensures (Run asks.call) asks.lawful

-- they are told so
pub returns-in-None-clause-answer : goal.returns-in-None-clause-answer
returns-in-None-clause-answer g c =
    let input : CallInput = read_by g.F.Files.content g.F.Files.read_faults c.args.files.now c.args.files.now (map string_bytes c.args.words.now) in
    let disk : CallDisk = disk_by g.D.Disk.faults g.D.Disk.found g.D.Disk.file c.args.disk.now c.args.disk.now in
    let output : CallOutput = left_by g.F.Files.content g.F.Files.write_faults g.K.Sink.taken g.K.Sink.faults c.args.files.now c.args.files.now c.args.out.now
    c.refuse.new.out disk c.nothing_ran.result.journal.entries in
    subst (StatusMeans input output) (sym c.nothing_ran.ensures.status)
    (refusal_means input output refusal.Words c.refuse.result c.in-None.ensures (c.nothing_ran.ensures.empty, record { file = refl; sound = refl }) (λ name. refl) refl c.refuse.ensures)
