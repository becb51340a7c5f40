use Rattle.dso_run.specs.Headline.{CallOutput, ReadFailed, RoseOf, left_by}
use Rattle.dso_command_line.specs.Said.{said}
use Rattle.dso_run.proofs.Answering.{told_means}
use Rattle.dso_run.proofs.storing.Meaning.{threads_store_none, without_store}
use Rattle.dso_run.proofs.main_call.carry_out_in_threads.Goals as goal

-- an accepted program
pub returns-in-Ok-clause-answer : goal.returns-in-Ok-clause-answer
returns-in-Ok-clause-answer g c = λ words lawful disk untouched.
    let output : CallOutput = left_by g.F.Files.content g.F.Files.write_faults g.K.Sink.taken g.K.Sink.faults c.accepted.new.files c.run_by_threads.new.files
    c.accepted.new.out c.run_by_threads.new.out disk c.run_by_threads.result.journal.entries in
    told_means g.F.Files.content g.F.Files.read_faults g.F.Files.write_faults g.K.Sink.taken g.K.Sink.faults c.args.files.now c.accepted.new.files
    c.run_by_threads.new.files c.args.out.now c.accepted.new.out c.run_by_threads.new.out disk c.run_by_threads.result.journal.entries (said c.args.command)
    c.in-Ok.program (ReadFailed (said c.args.command) (RoseOf (g.F.Files.read_faults c.args.files.now) (g.F.Files.read_faults c.accepted.new.files)))
    c.in-Ok.ensures.verdict c.accepted.ensures.unchanged c.accepted.ensures.writes c.in-Ok.ensures.unwritten c.run_by_threads.result.status
    (without_store (said c.args.command) c.in-Ok.program (g.F.Files.content c.accepted.new.files) output c.run_by_threads.result.status (c.run_by_threads.ensures.told disk)
    (threads_store_none (said c.args.command) c.requires.threads) untouched)
    words lawful
