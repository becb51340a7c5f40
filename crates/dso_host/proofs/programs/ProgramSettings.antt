-- What cells of a sound program ask of its settings.
use Rattle.std.specs.List.Sorted.{IsPermutation}
use Rattle.std.proofs.Common.{ℕ, ◌≡◌, refl, sym, ◌∙◌, ap, subst, Bool, cond, eqb, List, filter, length}
use Rattle.std.proofs.lemmas.List.Sorted.{sum_by-IsPermutation}
use Rattle.std.proofs.lemmas.List.Sums.{length-filter}
use Rattle.dso_class.specs.declared.program.Program.{Program}
use Rattle.dso_class.specs.Sound.{IsSoundProgram}
use Rattle.dso_client.specs.Openings.{HasThreads, first_threads}
use Rattle.dso_machine.specs.Sound as machine
use Rattle.dso_world.proofs.programs.Threads.{own_first, own_there, runs_threads}
use Rattle.dso_world.specs.WorldSteps.{settings_of}
use Rattle.dso_cell.specs.CellOpenings.{AreSettings, threads_in}

-- how many pass a test doesn't depend on the order
same_count : {X : Type 0} (test : X → Bool) (xs ys : List X) → IsPermutation xs ys → length (filter test xs) ≡ length (filter test ys)
same_count test xs ys moved = length-filter test xs ∙ sym (sum_by-IsPermutation (λ x. cond (test x) 1 0) xs ys moved) ∙ sym (length-filter test ys)

module _ (program : Program) (sound : IsSoundProgram program) where
  -- a client has as many threads in the code as in the program
  own_count : (c : ℕ) → threads_in program.code c ≡ length (filter (λ t. eqb t.client c) program.threads)
  own_count c = same_count (λ t. eqb t.client c) (machine.threads_of program.code) program.threads sound.threads

  -- each of them is there.
  pub client_threads : (c : ℕ) → HasThreads program.code c (threads_in program.code c)
  client_threads c = subst (HasThreads program.code c) (sym (own_count c)) (own_there program.code sound.code program.threads sound.threads sound.threads_rise c)

  -- The program's settings are settings of its code.
  pub program_settings : AreSettings program.code program.clients program.resident program.losses program.breaks (settings_of program)
  program_settings = record {
    shape = refl;
    clients = refl;
    resident = refl;
    losses = refl;
    breaks = refl;
    runs = runs_threads program.code sound.code program.threads sound.threads;
    threads = λ c. own_first program.code sound.code program.threads sound.threads sound.threads_rise c ∙ ap (first_threads c) (sym (own_count c));
  }
