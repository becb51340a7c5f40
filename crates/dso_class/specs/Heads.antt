-- What is answered of names that are declared, and of the heads of methods and threads.
use Rattle.std.specs.Prelude.{◌≡◌, ◌⊎◌, ℕ, suc, ℤ, pos, int_le, Bool, false, ◌&&◌, if◌then◌else◌, List, [], ◌∷◌, ◌++◌}
use Rattle.std.specs.Prelude.{Contains, count_by, Option}
use Rattle.dso_base.specs.declared.lock.Grade.{Grade}
use Rattle.dso_base.specs.declared.lock.ThreadId.{ThreadId}
use Rattle.dso_base.specs.declared.no_memory.NoMemory.{NoMemory}
use Rattle.dso_machine.specs.declared.code.ThreadBody.{ThreadBody}
use Rattle.dso_syntax.specs.declared.tree.Ident.{Ident}
use Rattle.dso_class.specs.declared.fault.NameFault.{NameFault}
use Rattle.dso_class.specs.declared.fault.NameFault.TheVariants as fault
use Rattle.dso_class.specs.declared.fault.NameKind.TheVariants as kind
use Rattle.dso_class.specs.declared.fault.What.{What}
use Rattle.dso_class.specs.declared.member.Class.{Class}
use Rattle.dso_config_entries.specs.Words.{Word, thread_word}
use Rattle.dso_class.specs.Mentions.{Mention, Owner, on, method, synchronized, thread, client}
use Rattle.dso_class.specs.Maps.{map_word}
use Rattle.dso_class.specs.FaultsAmong.{behind, AreFine}
use Rattle.dso_class.specs.TextProgram.{Source, IsSynced}
use Rattle.dso_class.specs.TextWalk.{HasMetClass, clients_in}

-- Why a name is refused that is declared on this line: it is taken, or there are too many of its sort; or there was
-- no memory.
pub data IsRefused (Taken Full : Type 0) (sort : What) (line : ℕ) : NameFault → Type 0 where
  twice : Taken → IsRefused Taken Full sort line (fault.At kind.Twice line)
  many : (Taken → ⊥) → Full → IsRefused Taken Full sort line (fault.At (kind.TooMany sort) line)
  no_memory : (refusal : NoMemory) → IsRefused Taken Full sort line (fault.NoMemory refusal)

-- no class may have the name behind classes of these names
abbrev pub IsClassTaken : List Word → Word → Type 0
IsClassTaken names name = (name ≡ thread_word) ⊎ ((name ≡ map_word) ⊎ Contains names name)

-- the word `synchronized` before a method, and the method's head, as they are mentioned
abbrev pub word_of : Word → ℕ → Bool → Ident → List Mention
word_of class line synced name = if synced then on line (synchronized class name.name) ∷ [] else []

abbrev pub head_of : Word → ℕ → Bool → Ident → List Mention
head_of class line synced name = word_of class line synced name ++ on name.line (method name.name) ∷ []

-- the word `synchronized` breaks no rule, and this is the level at which the method locks
pub record IsMonitorRight (source : Source) (before : List Mention) (class : Word) (line : ℕ) (synced : Bool)
    (name : Ident) (grade : Option Grade) : Type 0 where
  pub fine : AreFine source.config source.ast before (word_of class line synced name)
  pub monitor : IsSynced source.config class name.name synced grade

-- the head of a method breaks no rule, and the class has met it
pub record IsHeadRight (source : Source) (before : List Mention) (line : ℕ) (synced : Bool) (ident : Ident)
    (class now : Class) (grade : Option Grade) : Type 0 where
  pub fine : AreFine source.config source.ast before (head_of class.name.now line synced ident)
  pub monitor : IsSynced source.config class.name.now ident.name synced grade
  pub met : HasMetClass (behind before (head_of class.name.now line synced ident)) now
  pub name : now.name ≡ class.name
  pub number : now.number ≡ class.number
  pub fields : now.fields ≡ class.fields

-- the owner of the statements of a method
abbrev pub owner_of : Word → Ident → Owner
owner_of class name = record { class = class; method = name.name; in_thread = false }

-- the head of a thread as it is mentioned
abbrev pub thread_head : ℕ → ℤ → ℕ → List Mention
thread_head line number number_line = on line (thread number) ∷ on number_line (client number) ∷ []

-- the number is this one
abbrev pub is_number : ℤ → ℤ → Bool
is_number number other = int_le other number && int_le number other

-- the head of a thread breaks no rule, and the thread is the next of its client behind these
pub record IsThreadNamed (source : Source) (before : List Mention) (line : ℕ) (number : ℤ) (number_line : ℕ)
    (bodies : List ThreadBody) (name : ThreadId) : Type 0 where
  pub fine : AreFine source.config source.ast before (thread_head line number number_line)
  pub of_client : number ≡ pos name.client
  pub next : name.index ≡ suc (count_by (is_number number) (clients_in bodies))
