-- A run in threads that halted has ended.
use Rattle.std.proofs.Common.{◌≡◌, refl, sym, subst, ℕ, Bool, true, false, Option, None, List, reverse}
use Rattle.dso_base.specs.declared.journal.Entry.{Entry}
use Rattle.dso_class.specs.declared.program.Program.{Program}
use Rattle.dso_class.specs.Sound.{IsSoundProgram}
use Rattle.dso_command_line.specs.Words.{Command, Sim, Run, Big, Show, Lint, collect_of, steps_of}
use Rattle.dso_legal.specs.Central.{CommitsLegally}
use Rattle.dso_legal.specs.Lawful.{IsLawful}
use Rattle.dso_legal.proofs.central.CentralLaw.{central_law}
use Rattle.dso_legal.proofs.programs.SoundCode.{sound_program}
use Rattle.dso_machine.specs.Next.{next_request}
use Rattle.dso_world.specs.WorldSteps.{settings_of}
use Rattle.dso_run.specs.declared.threads.Halt.{Halt}
use Rattle.dso_run.specs.declared.threads.Halt.TheVariants.{Finished, Stuck, Budget}
use Rattle.dso_run.specs.Halting.{IsHalted, outcome_by}
use Rattle.dso_run.specs.declared.running.Run as running
use Rattle.dso_run.specs.Headline.{IsRunOf, making_of}
use Rattle.dso_run.specs.RunEnds.{ByThreads, IsRun, is_faulty}
use Rattle.dso_run.specs.Writing.{IsRunFor}

module _ (program : Program) (sound : IsSoundProgram program) (budget : ℕ) (journal : List Entry)
    (lawful : IsLawful (settings_of program) (next_request program.code) (reverse journal)) where
  commits : CommitsLegally (settings_of program) (next_request program.code) (reverse journal)
  commits = central_law (settings_of program) (next_request program.code) (sound_program program.code sound.code) (reverse journal) lawful

  run : IsRun (settings_of program) (next_request program.code) ByThreads budget (reverse journal)
  run = record { lawful = lawful; made = tt }

  -- by whether a kept thread ended by a fault
  ended_by : (halt : Halt) (faulty : Bool) → is_faulty program.threads (reverse journal) ≡ faulty → IsHalted program budget halt (reverse journal)
      → IsRunOf program ByThreads budget (outcome_by halt faulty) journal
  ended_by Finished true fault is = record { ended = record { run = run; finished = is; fault = fault }; commits = commits }
  ended_by Finished false fault is = record { ended = record { run = run; finished = is; fault = fault }; commits = commits }
  ended_by Stuck faulty fault is = record { ended = record { run = run; light = is.0; stuck = is.1 }; commits = commits }
  ended_by Budget faulty fault is = record { ended = record { run = run; unfinished = is.0; heavy = is.1 }; commits = commits }

  pub run_halted : (halt : Halt) → IsHalted program budget halt (reverse journal)
      → IsRunOf program ByThreads budget (outcome_by halt (is_faulty program.threads (reverse journal))) journal
  run_halted halt is = ended_by halt (is_faulty program.threads (reverse journal)) refl is

-- What runs in threads collects nothing,
threads_collect_none : (command : Command) → making_of command ≡ ByThreads → collect_of command ≡ None
threads_collect_none (Run call) is = refl
threads_collect_none (Sim call) is = cc is
threads_collect_none (Big number) is = refl
threads_collect_none (Show call) is = refl
threads_collect_none (Lint call) is = refl

-- so its run is one that the command asks for.
pub run_for_threads : (command : Command) (p : Program) (run : running.Run) → making_of command ≡ ByThreads
    → IsRunOf p ByThreads (steps_of command) run.outcome run.journal.entries → IsRunFor command p run
run_for_threads command p run threads made = record {
  made = subst (λ how. IsRunOf p how (steps_of command) run.outcome run.journal.entries) (sym threads) made;
  swept = rw (threads_collect_none command threads) tt;
}
