use Rattle.std.proofs.Common.{refl, sym, subst}
use Rattle.dso_command_line.specs.Words.{Lint, LintCall}
use Rattle.dso_run.specs.Headline.{CallOutput, left_by}
use Rattle.dso_run.specs.Writing.{MeansFor}
use Rattle.dso_run.proofs.Checking.{locks_checked}
use Rattle.dso_run.proofs.asked.Asked.check_locks.Goals as goal

-- the checker's answer is written
pub returns-in-Ok : goal.returns-in-Ok
returns-in-Ok g c = record {
  answer = λ files disk untouched.
      let p = c.args.self.now.program.now in
      let call : LintCall = c.requires.asked.0 in
      let output : CallOutput = left_by (λ f. f.0) (λ f. f.1) g.K.Sink.taken g.K.Sink.faults files files c.args.out.now c.tell.new.out disk
      c.nothing_ran.result.journal.entries in
      subst (λ command. MeansFor command p files.0 output c.nothing_ran.result.status) (sym c.requires.asked.1)
      (subst (MeansFor (Lint call) p files.0 output) (sym c.nothing_ran.ensures.status)
      (locks_checked call p files.0 output c.nothing_ran.ensures.empty (λ file. refl) refl c.in-Ok.answer c.tell.result c.in-Ok.ensures untouched c.tell.ensures));
}
