-- Which program a text and a configuration are.
use Rattle.std.specs.Prelude.{◌≡◌, ◌⊎◌, ℕ, suc, ◌+◌, ◌<◌, pos, Bool, true, false, eqb, List, [], ◌++◌, length, map}
use Rattle.std.specs.Prelude.{take, slice_get, count_by, AllPairs, IsPermutation, Option, Some, None}
use Rattle.std.specs.List.{AllZip}
use Rattle.dso_base.specs.declared.lock.Grade.{Grade}
use Rattle.dso_base.specs.declared.lock.ThreadId.{ThreadId}
use Rattle.dso_base.specs.declared.shape.ClassShape.{ClassShape}
use Rattle.dso_base.specs.declared.shape.FieldShape.{FieldShape}
use Rattle.dso_base.specs.declared.shape.Guard.{Guard}
use Rattle.dso_base.specs.declared.shape.Guard.TheVariants as guard
use Rattle.dso_config.specs.declared.config.NamedEntry.{NamedEntry}
use Rattle.dso_config.specs.declared.config.GuardEntry.{GuardEntry}
use Rattle.dso_config.specs.declared.config.Config.{Config}
use Rattle.dso_config.specs.InRange.{entries}
use Rattle.dso_machine.specs.declared.code.Code.{Code}
use Rattle.dso_machine.specs.declared.code.Method.{Method}
use Rattle.dso_machine.specs.declared.code.ThreadBody.{ThreadBody}
use Rattle.dso_machine.specs.declared.tree.Stmt.{Stmt}
use Rattle.dso_machine.specs.Sound as machine
use Rattle.dso_syntax.specs.declared.tree.Ast.{Ast}
use Rattle.dso_syntax.specs.declared.tree.Ident.{Ident}
use Rattle.dso_syntax.specs.declared.tree.StmtTree.{StmtTree}
use Rattle.dso_class.specs.declared.program.Names.{Names}
use Rattle.dso_class.specs.declared.program.Program.{Program}
use Rattle.dso_config_entries.specs.Words.{Word}
use Rattle.dso_config_entries.specs.LastAndFirst.{LastWith, AreFirsts}
use Rattle.dso_class.specs.Mentions.{Owner, thread_owner, body, mentions_of}
use Rattle.dso_class.specs.PrecedingMentions.{variable_in, text_in, in_text}
use Rattle.dso_class.specs.Declarations.{ClassTree, FieldTree, MethodTree, ThreadTree, classes_of, fields_of}
use Rattle.dso_class.specs.Declarations.{threads_of, all_statics, all_methods}
use Rattle.dso_class.specs.Maps.{makes_map, map_shapes, reachable_classes, reachable_methods}
use Rattle.dso_config_entries.specs.ConfigEntries.{Matches, Guards, lock_mentions}
pub use Rattle.dso_config_entries.specs.ConfigEntries.{IsAutolock}
use Rattle.dso_class.specs.NameFaults.{HasNoFault}
use Rattle.dso_class.specs.Numbers.{Numbers, IsNumber, MeansBlock}

-- A text with its configuration, and the named locks and text literals in the order of their numbers. The locks'
-- numbers follow those of the roots.
pub record Source : Type 0 where
  pub config : Config
  pub ast : Ast
  pub locks : List Word
  pub texts : List Word

-- how many roots there are
abbrev pub roots_of : Source → ℕ
roots_of source = length (all_statics source.ast.items)

-- the names of the fields of each class
abbrev pub field_names : Source → List (List Word)
field_names source = map (λ class. map (λ field. field.name) (fields_of class.members)) (classes_of source.ast.items)

-- what is numbered in a body with these variables, where `synchronized` locks at this level
abbrev pub numbers_of : Source → List Word → Option Grade → Numbers
numbers_of source variables grade = record {
  classes = reachable_classes source.ast;
  fields = field_names source;
  roots = all_statics source.ast.items;
  methods = reachable_methods source.ast;
  texts = source.texts;
  variables = variables;
  grade = grade;
}

-- the named lock of a method, by its number and level: that of the last entry for it
pub data IsNamedLock (source : Source) (class method : Word) : Option (ℕ × Grade) → Type 0 where
  named : (number : ℕ) (entry : NamedEntry)
      → LastWith (λ entry. Matches entry.method class method) (entries source.config.named) (Some entry)
      → IsNumber source.locks entry.name number
      → IsNamedLock source class method (Some (roots_of source + number, entry.grade))
  nothing : LastWith (λ entry. Matches entry.method class method) (entries source.config.named) None
      → IsNamedLock source class method None

-- the guard of a field: the lock of the last entry for it, or the object's own monitor
pub data IsGuard (source : Source) (class field : Word) : Guard → Type 0 where
  named : (number : ℕ) (entry : GuardEntry)
      → LastWith (λ entry. Guards entry class field) source.config.guards (Some entry)
      → IsNumber source.locks entry.lock number → IsGuard source class field (guard.Name (roots_of source + number))
  own : LastWith (λ entry. Guards entry class field) source.config.guards None → IsGuard source class field guard.Own

-- the kind and guard of a field
pub record IsField (source : Source) (class : Word) (field : FieldTree) (shape : FieldShape) : Type 0 where
  pub kind : shape.kind ≡ field.kind
  pub guarded : IsGuard source class field.name shape.guard

-- the fields of a class, in their order
pub record IsClass (source : Source) (class : ClassTree) (shape : ClassShape) : Type 0 where
  pub fields : AllZip (IsField source class.name) (fields_of class.members) shape.fields

-- the variables of an owner's body: its parameters, and those of its statements, in the order of the text
abbrev pub variables_of : Owner → List Ident → List StmtTree → List Word
variables_of owner params trees = in_text variable_in (body owner params trees)

-- the statements of an owner in numbers, and how many variables they have
pub record IsBody (source : Source) (owner : Owner) (params : List Ident) (trees : List StmtTree) (vars : ℕ)
    (statements : List Stmt) : Type 0 where
  pub grade : Option Grade
  pub autolock : IsAutolock source.config owner.class owner.method grade
  pub all_vars : vars ≡ length (variables_of owner params trees)
  pub means : MeansBlock (numbers_of source (variables_of owner params trees) grade) trees statements

-- a method locks the object's monitor where it is `synchronized`
abbrev pub IsSynced : Config → Word → Word → Bool → Option Grade → Type 0
IsSynced config class method true grade = IsAutolock config class method grade
IsSynced config class method false grade = grade ≡ None

-- the owner of a method's statements
abbrev pub method_owner : MethodTree → Owner
method_owner tree = record { class = tree.class; method = tree.name; in_thread = false }

-- a method in numbers
pub record IsMethod (source : Source) (tree : MethodTree) (method : Method) : Type 0 where
  pub of_class : method.class ≡ tree.number
  pub all_params : method.params ≡ length tree.params
  pub lock : IsNamedLock source tree.class tree.name method.named
  pub monitor : IsSynced source.config tree.class tree.name tree.synced method.synced
  pub statements : IsBody source (method_owner tree) tree.params tree.statements method.vars method.body

-- a thread in numbers
pub record IsThread (source : Source) (tree : ThreadTree) (thread : ThreadBody) : Type 0 where
  pub of_client : tree.client ≡ pos thread.thread.client
  pub statements : IsBody source thread_owner [] tree.statements thread.vars thread.body

-- a thread's index counts the threads of its client up to it
abbrev pub AreCounted : List ThreadBody → Type 0
AreCounted bodies = (place : ℕ) (here : ThreadBody) → slice_get bodies place ≡ Some here
    → here.thread.index ≡ suc (count_by (λ other. eqb other.thread.client here.thread.client) (take place bodies))

-- the first thread is of a lesser client, or of the same client and of a lesser index
abbrev pub IsThreadBefore : ThreadId → ThreadId → Type 0
IsThreadBefore thread other =
    (thread.client < other.client) ⊎ ((thread.client ≡ other.client) × (thread.index < other.index))

-- The code of a text with its configuration. Behind the classes of the text comes that of maps, where the text makes
-- one.
pub record IsCode (source : Source) (code : Code) : Type 0 where
  pub shapes : List ClassShape
  pub classes : AllZip (IsClass source) (classes_of source.ast.items) shapes
  pub all_classes : code.shape.classes ≡ shapes ++ map_shapes (makes_map source.ast)
  pub roots : code.shape.roots ≡ roots_of source
  pub locks : code.shape.names ≡ roots_of source + length source.locks
  pub texts : code.shape.texts ≡ length source.texts
  pub methods : AllZip (IsMethod source) (all_methods source.ast.items) code.methods
  pub threads : AllZip (IsThread source) (threads_of source.ast.items) code.bodies
  pub counted : AreCounted code.bodies

-- the words behind the numbers; the fields of maps have none
pub record AreNames (source : Source) (names : Names) : Type 0 where
  pub classes : names.classes ≡ reachable_classes source.ast
  pub fields : names.fields ≡ field_names source
  pub roots : names.roots ≡ all_statics source.ast.items
  pub texts : names.texts ≡ source.texts

-- The program of a text and a configuration: the names of the text have no fault, and each thing has the number that
-- the order of the text gives.
-- Threads go by client and index; what the configuration says of the run is kept.
pub record IsProgramOf (config : Config) (ast : Ast) (program : Program) : Type 0 where
  pub no_fault : HasNoFault config ast
  pub locks : List Word
  pub locks_in_order : AreFirsts (lock_mentions config) locks
  pub texts : List Word
  pub texts_in_order : AreFirsts (in_text text_in (mentions_of ast)) texts
  pub code : IsCode (record { config = config; ast = ast; locks = locks; texts = texts }) program.code
  pub names : AreNames (record { config = config; ast = ast; locks = locks; texts = texts }) program.names
  pub all_threads : IsPermutation (machine.threads_of program.code) program.threads
  pub threads_rise : AllPairs IsThreadBefore program.threads
  pub clients : program.clients ≡ config.clients
  pub resident : program.resident ≡ config.resident
  pub losses : program.losses ≡ config.losses
  pub breaks : program.breaks ≡ config.breaks
