-- What the walk over a whole text answers, and what a program is made of.
use Rattle.std.specs.Prelude.{◌≡◌, ◌+◌, ◌++◌, length, AllPairs, IsPermutation, Result, Ok, Err}
use Rattle.std.specs.List.{AllZip}
use Rattle.dso_machine.specs.Sound as machine
use Rattle.dso_class.specs.declared.class_item.Resolved.{Resolved}
use Rattle.dso_class.specs.declared.class_item.Setting.{Setting}
use Rattle.dso_class.specs.declared.fault.NameFault.{NameFault}
use Rattle.dso_class.specs.declared.fault.NameFault.TheVariants as fault
use Rattle.dso_class.specs.declared.program.Names.{Names}
use Rattle.dso_class.specs.declared.program.Program.{Program}
use Rattle.dso_config_entries.specs.LastAndFirst.{AreFirsts}
use Rattle.dso_config_entries.specs.BorrowedWords.{words_of}
use Rattle.dso_class.specs.Mentions.{mentions_of}
use Rattle.dso_class.specs.PrecedingMentions.{in_text, text_in}
use Rattle.dso_class.specs.Declarations.{classes_of, all_methods, threads_of}
use Rattle.dso_class.specs.Maps.{map_shapes}
use Rattle.dso_class.specs.NameFaults.{HasNoFault, IsFirstFault}
use Rattle.dso_class.specs.TextProgram.{Source, IsClass, IsMethod, IsThread, IsThreadBefore, AreCounted}

-- The classes, methods and threads of the source are there in numbers.
pub record IsInNumbers (source : Source) (resolved : Resolved) : Type 0 where
  pub classes : AllZip (IsClass source) (classes_of source.ast.items) resolved.classes
  pub methods : AllZip (IsMethod source) (all_methods source.ast.items) resolved.methods
  pub threads : AllZip (IsThread source) (threads_of source.ast.items) resolved.bodies

-- The text has no fault, and its text literals are there, each once; where they are the source's, all of it is there
-- in numbers.
pub record IsWhole (source : Source) (resolved : Resolved) : Type 0 where
  pub no_fault : HasNoFault source.config source.ast
  pub texts : AreFirsts (in_text text_in (mentions_of source.ast)) (words_of resolved.texts)
  pub counted : AreCounted resolved.bodies
  pub means : source.texts ≡ words_of resolved.texts → IsInNumbers source resolved

-- the answer is right for a whole text: all of it was resolved, or this is its first fault; or there was no memory
abbrev pub AnswersWhole : Source → Result Resolved NameFault → Type 0
AnswersWhole source (Ok resolved) = IsWhole source resolved
AnswersWhole source (Err (fault.At kind line)) = IsFirstFault source.config source.ast kind line
AnswersWhole source (Err (fault.NoMemory refusal)) = Unit {0}

-- The program is made of what was resolved, of these words, and of what the configuration says.
pub record IsMadeOf (setting : Setting) (words : Names) (resolved : Resolved) (program : Program) : Type 0 where
  pub classes : program.code.shape.classes ≡ resolved.classes ++ map_shapes setting.tables.now.makes_map
  pub roots : program.code.shape.roots ≡ setting.roots
  pub locks : program.code.shape.names ≡ setting.roots + length setting.locks.now
  pub texts : program.code.shape.texts ≡ length resolved.texts
  pub methods : program.code.methods ≡ resolved.methods
  pub bodies : program.code.bodies ≡ resolved.bodies
  pub class_words : program.names.classes ≡ words.classes
  pub field_words : program.names.fields ≡ words.fields
  pub root_words : program.names.roots ≡ words.roots
  pub text_words : program.names.texts ≡ words_of resolved.texts
  pub all_threads : IsPermutation (machine.threads_of program.code) program.threads
  pub threads_rise : AreCounted resolved.bodies → AllPairs IsThreadBefore program.threads
  pub clients : program.clients ≡ setting.config.now.clients
  pub resident : program.resident ≡ setting.config.now.resident
  pub losses : program.losses ≡ setting.config.now.losses
  pub breaks : program.breaks ≡ setting.config.now.breaks
