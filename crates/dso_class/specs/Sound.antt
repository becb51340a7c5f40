-- Which programs are sound: their code is, the words are there, and what is said of the run is in range.
use Rattle.std.specs.Prelude.{◌≡◌, ◌≢◌, ℕ, ◌≤◌, List, length, slice_get, Some, All, AllPairs, IsPermutation}
use Rattle.dso_base.specs.declared.shape.ClassShape.{ClassShape}
use Rattle.dso_config.specs.InRange.{IsTrigger, most_clients, most_entries, most_resident}
use Rattle.dso_config_entries.specs.Words.{Word}
use Rattle.dso_map.specs.MapClass.{map_size}
use Rattle.dso_machine.specs.Sound as machine
use Rattle.dso_class.specs.declared.program.Names.{Names}
use Rattle.dso_class.specs.declared.program.Program.{Program}
use Rattle.dso_class.specs.TextProgram.{IsThreadBefore}

-- there is a word for each field of the class of this number
pub record HasFieldNames (names : Names) (number : ℕ) (class : ClassShape) : Type 0 where
  pub words : List Word
  pub there : slice_get names.fields number ≡ Some words
  pub each : length words ≡ length class.fields

-- there is a word for each thing of the shape, but for the fields of maps
pub record HasNames (program : Program) : Type 0 where
  pub classes : length program.names.classes ≡ length program.code.shape.classes
  pub fields : (number : ℕ) (class : ClassShape) → slice_get program.code.shape.classes number ≡ Some class
      → length class.fields ≢ map_size → HasFieldNames program.names number class
  pub roots : length program.names.roots ≡ program.code.shape.roots
  pub texts : length program.names.texts ≡ program.code.shape.texts

-- The program is sound. Its threads are those of the code, by client and then by index; losses and breaks are of
-- clients that are there.
pub record IsSoundProgram (program : Program) : Type 0 where
  pub code : machine.IsSoundCode program.code
  pub some_client : 1 ≤ program.clients
  pub no_more_clients : program.clients ≤ most_clients
  pub some_resident : 1 ≤ program.resident
  pub no_more_resident : program.resident ≤ most_resident
  pub threads : IsPermutation (machine.threads_of program.code) program.threads
  pub threads_rise : AllPairs IsThreadBefore program.threads
  pub clients_there : All (λ thread. thread.client ≤ program.clients) program.threads
  pub names : HasNames program
  pub losses_there : All (IsTrigger program.clients) program.losses
  pub breaks_there : All (IsTrigger program.clients) program.breaks
  pub lost_once : AllPairs (λ trigger other. trigger.client ≢ other.client) program.losses
  pub breaks_differ : AllPairs (λ trigger other. trigger ≢ other) program.breaks
  pub few_breaks : length program.breaks ≤ most_entries
