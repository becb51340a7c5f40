-- How far the walk over a text has come: what was met of the mentions before, and what is there in numbers.
use Rattle.std.specs.Prelude.{◌≡◌, ℕ, ◌+◌, ◌<◌, ◌^◌, ℤ, pos, List, ◌++◌, map, length, reverse, Result, Ok, Err}
use Rattle.std.specs.List.{AllZip}
use Rattle.dso_machine.specs.declared.code.ThreadBody.{ThreadBody}
use Rattle.dso_syntax.specs.declared.tree.Ident.{Ident}
use Rattle.dso_syntax.specs.declared.tree.Item.{Item}
use Rattle.dso_syntax.specs.declared.tree.Member.{Member}
use Rattle.dso_syntax.specs.declared.tree.StmtTree.{StmtTree}
use Rattle.dso_class.specs.declared.body.Body.{Body}
use Rattle.dso_class.specs.declared.member.Class.{Class}
use Rattle.dso_class.specs.declared.class_item.Resolved.{Resolved}
use Rattle.dso_class.specs.declared.class_item.Setting.{Setting}
use Rattle.dso_class.specs.declared.fault.NameFault.{NameFault}
use Rattle.dso_class.specs.declared.fault.NameFault.TheVariants as fault
use Rattle.dso_config_entries.specs.Words.{Word, thread_word, run_word}
use Rattle.dso_config_entries.specs.LastAndFirst.{AreFirsts}
use Rattle.dso_config_entries.specs.BorrowedWords.{words_of}
use Rattle.dso_class.specs.Mentions as mention
use Rattle.dso_class.specs.Mentions.{Mention, Owner}
use Rattle.dso_class.specs.PrecedingMentions.{in_text, in_class, class_in, static_in, thread_in, member_in, field_in}
use Rattle.dso_class.specs.PrecedingMentions.{method_in}
use Rattle.dso_class.specs.Declarations.{ClassTree, FieldTree, MethodTree, ThreadTree, classes_of, fields_of}
use Rattle.dso_class.specs.Declarations.{methods_of, methods_from, threads_of}
use Rattle.dso_config_entries.specs.ConfigEntries.{lock_mentions}
use Rattle.dso_class.specs.NameFaults.{HasNoFault}
use Rattle.dso_class.specs.FaultsAmong.{behind, AreFine, IsFaultAmong}
use Rattle.dso_class.specs.TextProgram.{Source, IsBody, IsField, IsClass, IsMethod, IsThread, AreCounted, roots_of}
use Rattle.dso_class.specs.DeclaredNames.{AreTables}
use Rattle.dso_class.specs.BodyWalk.{Begins, HasTexts}

-- The text with its configuration is that of the setting. The roots and the locks have their numbers where the text
-- has no fault.
pub record IsSetting (source : Source) (setting : Setting) : Type 0 where
  pub config : source.config ≡ setting.config.now
  pub tables : AreTables source.ast setting.tables.now
  pub locks : source.locks ≡ words_of setting.locks.now
  pub firsts : AreFirsts (lock_mentions source.config) source.locks
  pub roots : HasNoFault source.config source.ast → roots_of source ≡ setting.roots
  pub thread_class : setting.thread_class.now ≡ thread_word
  pub thread_method : setting.thread_method.now ≡ run_word

-- The locks of the setting are those of its configuration, and few with the roots.
pub record IsReady (setting : Setting) : Type 0 where
  pub names : AreFirsts (lock_mentions setting.config.now) (words_of setting.locks.now)
  pub few : setting.roots + length setting.locks.now < 2 ^ 32

-- the clients of threads, as the numbers that a text gives them
abbrev pub clients_in : List ThreadBody → List ℤ
clients_in bodies = map (λ body. pos body.thread.client) bodies

-- what was resolved has met what was mentioned before
pub record HasMetText (before : List Mention) (resolved : Resolved) : Type 0 where
  pub names : words_of resolved.names ≡ reverse (in_text class_in before)
  pub statics : resolved.statics ≡ length (in_text static_in before)
  pub texts : HasTexts before (words_of resolved.texts)
  pub threads : clients_in resolved.bodies ≡ reverse (in_text thread_in before)

-- a class has met what was mentioned in it before
pub record HasMetClass (before : List Mention) (class : Class) : Type 0 where
  pub members : words_of class.members ≡ reverse (in_text member_in (in_class before))
  pub fields : length class.fields ≡ length (in_text field_in (in_class before))
  pub methods : class.methods ≡ length (in_text method_in (in_class before))

-- The text has no fault, and its text literals go on from these.
pub record GoesOnFrom (source : Source) (texts : List Word) : Type 0 where
  pub no_fault : HasNoFault source.config source.ast
  pub begins : Begins texts source.texts

-- The mentions of a body break no rule, and it is there in numbers.
pub record IsBodyRight (source : Source) (owner : Owner) (before : List Mention) (params : List Ident)
    (statements : List StmtTree) (old now : List Word) (body : Body) : Type 0 where
  pub fine : AreFine source.config source.ast before (mention.body owner params statements)
  pub texts : HasTexts (behind before (mention.body owner params statements)) now
  pub grown : Begins old now
  pub means : GoesOnFrom source now → IsBody source owner params statements body.vars body.statements

-- the answer is right for a body, behind the mentions before it
abbrev pub AnswersBody : Source → Owner → List Mention → List Ident → List StmtTree → List Word → List Word
    → Result Body NameFault → Type 0
AnswersBody source owner before params statements texts now (Ok body) =
    IsBodyRight source owner before params statements texts now body
AnswersBody source owner before params statements texts now (Err (fault.At kind line)) =
    IsFaultAmong source.config source.ast before (mention.body owner params statements) kind line
AnswersBody source owner before params statements texts now (Err (fault.NoMemory refusal)) = Unit {0}

-- the fault is right for these mentions, behind those before them: it is the first among them, or there was no memory
abbrev pub IsToldOf : Source → List Mention → List Mention → NameFault → Type 0
IsToldOf source before mentions (fault.At kind line) = IsFaultAmong source.config source.ast before mentions kind line
IsToldOf source before mentions (fault.NoMemory refusal) = Unit {0}

-- The answer is right for these mentions, behind those before them: what is given is so, or the fault is right.
abbrev pub Gives : {A : Type 0} → Source → List Mention → List Mention → (A → Type 0) → Result A NameFault → Type 0
Gives source before mentions P (Ok value) = P value
Gives source before mentions P (Err refused) = IsToldOf source before mentions refused

-- Members of a class of this name and number are there in numbers: their fields are behind those of the class, their
-- methods behind those of the text.
pub record AddsMembers (source : Source) (name : Word) (number : ℕ) (members : List Member) (old new : Resolved)
    (class now : Class) : Type 0 where
  pub fields : (trees : List FieldTree) → AllZip (IsField source name) trees class.fields
      → AllZip (IsField source name) (trees ++ fields_of members) now.fields
  pub methods : (trees : List MethodTree) → AllZip (IsMethod source) trees old.methods
      → AllZip (IsMethod source) (trees ++ methods_of number name members) new.methods

-- The mentions of members break no rule, and the members are there in numbers; the class keeps its name and number,
-- and the text its classes and threads.
pub record AreMembersRight (source : Source) (before mentions : List Mention) (members : List Member)
    (old new : Resolved) (class now : Class) : Type 0 where
  pub fine : AreFine source.config source.ast before mentions
  pub met : HasMetText (behind before mentions) new
  pub class_met : HasMetClass (behind before mentions) now
  pub grown : Begins (words_of old.texts) (words_of new.texts)
  pub name : now.name.now ≡ class.name.now
  pub number : now.number ≡ class.number
  pub names : new.names ≡ old.names
  pub classes : new.classes ≡ old.classes
  pub bodies : new.bodies ≡ old.bodies
  pub means : GoesOnFrom source (words_of new.texts)
      → AddsMembers source class.name.now class.number members old new class now

-- A walk over members answers right, whatever was mentioned before.
abbrev pub WalksMembers : Setting → (Word → List Mention) → List Member → Resolved → Resolved → Class → Class
    → Result (Unit {0}) NameFault → Type 0
WalksMembers setting mentions members old new class now result = (source : Source) (before : List Mention)
    → IsSetting source setting → HasMetText before old → HasMetClass before class
    → Gives source before (mentions class.name.now)
    (λ (done : Unit {0}). AreMembersRight source before (mentions class.name.now) members old new class now) result

-- Classes and threads are there in numbers, the classes' numbers from this one on.
pub record AddsItems (source : Source) (number : ℕ) (items : List Item) (old new : Resolved) : Type 0 where
  pub classes : (trees : List ClassTree) → AllZip (IsClass source) trees old.classes
      → AllZip (IsClass source) (trees ++ classes_of items) new.classes
  pub methods : (trees : List MethodTree) → AllZip (IsMethod source) trees old.methods
      → AllZip (IsMethod source) (trees ++ methods_from number (classes_of items)) new.methods
  pub threads : (trees : List ThreadTree) → AllZip (IsThread source) trees old.bodies
      → AllZip (IsThread source) (trees ++ threads_of items) new.bodies

-- The mentions of classes and threads break no rule, and these are there in numbers.
pub record AreItemsRight (source : Source) (before mentions : List Mention) (items : List Item) (old new : Resolved)
    : Type 0 where
  pub fine : AreFine source.config source.ast before mentions
  pub met : HasMetText (behind before mentions) new
  pub grown : Begins (words_of old.texts) (words_of new.texts)
  pub counted : AreCounted old.bodies → AreCounted new.bodies
  pub more : length new.names ≡ length old.names + length (classes_of items)
  pub means : GoesOnFrom source (words_of new.texts) → AddsItems source (length old.names) items old new

-- A walk over classes and threads answers right, whatever was mentioned before.
abbrev pub WalksItems : Setting → List Mention → List Item → Resolved → Resolved → Result (Unit {0}) NameFault → Type 0
WalksItems setting mentions items old new result = (source : Source) (before : List Mention)
    → IsSetting source setting → HasMetText before old
    → Gives source before mentions (λ (done : Unit {0}). AreItemsRight source before mentions items old new) result
