-- What is wrong with the names of a program text: each rule with the token where it is broken, and which fault is told.
use Rattle.std.specs.Prelude.{◌≡◌, ◌⊎◌, ℕ, ◌≤◌, ℤ, pos, int_le, ◌&&◌, List, [], ◌∷◌, ◌++◌, reverse, length, count_by}
use Rattle.std.specs.Prelude.{Contains, Some, None}
use Rattle.dso_config.specs.declared.config.Config.{Config}
use Rattle.dso_syntax.specs.declared.tree.Ast.{Ast}
use Rattle.dso_class.specs.declared.fault.NameKind.{NameKind}
use Rattle.dso_class.specs.declared.fault.NameKind.TheVariants as kind
use Rattle.dso_class.specs.declared.fault.What.TheVariants as what
use Rattle.dso_config_entries.specs.Words.{Word, thread_word}
use Rattle.dso_config_entries.specs.LastAndFirst.{LastWith, AreFirsts}
use Rattle.dso_class.specs.Limits.{most_classes, most_fields, most_statics, most_methods, most_params, most_vars}
use Rattle.dso_class.specs.Limits.{most_texts, most_threads}
use Rattle.dso_class.specs.Mentions.{Mention, Mentioned, mentions_of, class, field, static, method, parameter, root}
use Rattle.dso_class.specs.Mentions.{synchronized, thread, client, alone, dotted, called, this, new, call, text}
use Rattle.dso_class.specs.PrecedingMentions.{class_in, member_in, field_in, static_in, method_in, parameter_in}
use Rattle.dso_class.specs.PrecedingMentions.{variable_in, text_in, thread_in, in_text, in_class, in_body}
use Rattle.dso_class.specs.Declarations.{MethodTree, class_names, all_statics}
use Rattle.dso_class.specs.Maps.{map_word, reachable_classes, reachable_methods}
use Rattle.dso_config_entries.specs.ConfigEntries.{Matches, autolocks_of, IsRoot}

-- the text declares a class of this name
abbrev pub IsClass : Ast → Word → Type 0
IsClass ast name = Contains (class_names ast.items) name

-- a new object may be of a class of this name: the text declares one, or it is that of maps and the text makes a map
abbrev pub IsReachableClass : Ast → Word → Type 0
IsReachableClass ast name = Contains (reachable_classes ast) name

-- a call may reach a method of this name: the text declares it in some class, or maps have one and the text makes a map
pub record HasMethod (ast : Ast) (name : Word) : Type 0 where
  pub declared : MethodTree
  pub there : Contains (reachable_methods ast) declared
  pub named : declared.name ≡ name

-- a call may reach a method of this name that takes so many arguments
pub record TakesArguments (ast : Ast) (name : Word) (count : ℕ) : Type 0 where
  pub declared : MethodTree
  pub there : Contains (reachable_methods ast) declared
  pub named : declared.name ≡ name
  pub takes : length declared.params ≡ count

-- no variable may have the name: it is `Thread`, a class's, or that of another variable of the body
abbrev pub IsTaken : Ast → List Mention → Word → Type 0
IsTaken ast before name =
    (name ≡ thread_word) ⊎ (IsClass ast name ⊎ Contains (in_text variable_in (in_body before)) name)

-- how many threads of this client were mentioned
abbrev pub threads_before : List Mention → ℤ → ℕ
threads_before before number = count_by (λ other. int_le other number && int_le number other) (in_text thread_in before)

-- a number is that of a client
pub record IsClient (config : Config) (number : ℤ) : Type 0 where
  pub client : ℕ
  pub is : number ≡ pos client
  pub from_one : 1 ≤ client
  pub to_last : client ≤ config.clients

-- What is mentioned here, behind what was mentioned before, breaks a rule, and the fault is this.
pub data Breaks (config : Config) (ast : Ast) (before : List Mention) : Mentioned → NameKind → Type 0 where
  -- a class is called `Thread`, or as that of maps, or as a class before it, or is one too many
  thread_class : Breaks config ast before (class thread_word) kind.Twice
  map_class : Breaks config ast before (class map_word) kind.Twice
  class_twice : {name : Word} → Contains (in_text class_in before) name
      → Breaks config ast before (class name) kind.Twice
  many_classes : {name : Word} → most_classes ≤ length (in_text class_in before)
      → Breaks config ast before (class name) (kind.TooMany what.Classes)
  -- a member is called as a member of its class before it, or is one too many
  member_twice : {here : Mentioned} {name : Word} → member_in here ≡ Some name
      → Contains (in_text member_in (in_class before)) name → Breaks config ast before here kind.Twice
  many_fields : {name : Word} → most_fields ≤ length (in_text field_in (in_class before))
      → Breaks config ast before (field name) (kind.TooMany what.Fields)
  many_statics : {name : Word} → most_statics ≤ length (in_text static_in before)
      → Breaks config ast before (static name) (kind.TooMany what.Statics)
  many_methods : {name : Word} → most_methods ≤ length (in_text method_in (in_class before))
      → Breaks config ast before (method name) (kind.TooMany what.Methods)
  -- a static field is no root
  no_root : {class' name : Word} → (IsRoot config.roots class' name → ⊥)
      → Breaks config ast before (root class' name) kind.UnknownRoot
  -- no autolock is for the method
  no_autolock : {class' name : Word} → LastWith (λ entry. Matches entry.method class' name) (autolocks_of config) None
      → Breaks config ast before (synchronized class' name) kind.NoAutolock
  -- a client has a thread too many, or isn't there
  many_threads : {number : ℤ} → most_threads ≤ threads_before before number
      → Breaks config ast before (thread number) (kind.TooMany what.Threads)
  no_client : {number : ℤ} → (IsClient config number → ⊥) → Breaks config ast before (client number) kind.NoSuchClient
  -- a parameter or variable has a name that is taken, or is one too many
  variable_twice : {here : Mentioned} {name : Word} → variable_in here ≡ Some name → IsTaken ast before name
      → Breaks config ast before here kind.Twice
  many_params : {name : Word} → most_params ≤ length (in_text parameter_in (in_body before))
      → Breaks config ast before (parameter name) (kind.TooMany what.Parameters)
  many_vars : {here : Mentioned} {name : Word} → variable_in here ≡ Some name
      → most_vars ≤ length (in_text variable_in (in_body before))
      → Breaks config ast before here (kind.TooMany what.Variables)
  -- a name by itself is no variable that is known
  unknown_alone : {known : List Word} {name : Word} → (Contains known name → ⊥)
      → Breaks config ast before (alone known name) kind.UnknownVariable
  -- a name before a dot and a name is no known variable and no class; or it is a class without a static field of that
  -- name
  unknown_dotted : {known : List Word} {name behind : Word} → (Contains known name → ⊥) → (IsClass ast name → ⊥)
      → Breaks config ast before (dotted known name behind) kind.UnknownVariable
  no_static : {known : List Word} {name behind : Word} → (Contains known name → ⊥) → IsClass ast name
      → (Contains (all_statics ast.items) (record { class = name; field = behind }) → ⊥)
      → Breaks config ast before (dotted known name behind) kind.UnknownRoot
  -- a method is called on a name that is no known variable and no class; or on a class
  unknown_called : {known : List Word} {name : Word} → (Contains known name → ⊥) → (IsClass ast name → ⊥)
      → Breaks config ast before (called known name) kind.UnknownVariable
  class_called : {known : List Word} {name : Word} → (Contains known name → ⊥) → IsClass ast name
      → Breaks config ast before (called known name) kind.UnknownRoot
  -- `this` stands outside of methods
  this_outside : Breaks config ast before this kind.UnknownVariable
  -- a new object is of no class that is there
  no_class : {name : Word} → (IsReachableClass ast name → ⊥) → Breaks config ast before (new name) kind.UnknownClass
  -- no class has a method of the name; or some have, but none with that number of arguments
  no_method : {name : Word} {count : ℕ} → (HasMethod ast name → ⊥)
      → Breaks config ast before (call name count) kind.UnknownMethod
  wrong_arguments : {name : Word} {count : ℕ} → HasMethod ast name → (TakesArguments ast name count → ⊥)
      → Breaks config ast before (call name count) kind.WrongArguments
  -- a text literal is one too many, where equal ones count once
  many_texts : {content : Word} (seen : List Word) → AreFirsts (reverse (in_text text_in before)) seen
      → most_texts ≤ length seen → (Contains seen content → ⊥)
      → Breaks config ast before (text content) (kind.TooMany what.Texts)

-- the place of a fault among those of one token: the lesser is told
abbrev pub rank : NameKind → ℕ
rank kind.UnknownClass = 1
rank kind.UnknownMethod = 2
rank kind.Twice = 3
rank kind.WrongArguments = 4
rank kind.UnknownRoot = 5
rank kind.NoAutolock = 6
rank (kind.TooMany what.Classes) = 7
rank (kind.TooMany what.Fields) = 8
rank (kind.TooMany what.Statics) = 9
rank (kind.TooMany what.Methods) = 10
rank (kind.TooMany what.Parameters) = 11
rank (kind.TooMany what.Variables) = 12
rank (kind.TooMany what.Texts) = 13
rank (kind.TooMany what.Threads) = 14
rank kind.NoSuchClient = 15
rank kind.UnknownVariable = 16

-- none of these mentions, the nearest of which is first, breaks a rule
abbrev pub IsClean : Config → Ast → List Mention → Type 0
IsClean config ast [] = Unit {0}
IsClean config ast (mention ∷ before) =
    IsClean config ast before × ((kind : NameKind) → Breaks config ast before mention.what kind → ⊥)

-- The text has no fault in its names.
abbrev pub HasNoFault : Config → Ast → Type 0
HasNoFault config ast = IsClean config ast (reverse (mentions_of ast))

-- The fault that is told: at the first token that breaks a rule, and of several rules that it breaks the first listed.
pub record IsFirstFault (config : Config) (ast : Ast) (kind : NameKind) (line : ℕ) : Type 0 where
  pub before : List Mention
  pub here : Mention
  pub after : List Mention
  pub stands : mentions_of ast ≡ reverse before ++ here ∷ after
  pub clean_before : IsClean config ast before
  pub breaks : Breaks config ast before here.what kind
  pub least : (other : NameKind) → Breaks config ast before here.what other → rank kind ≤ rank other
  pub on_line : here.line ≡ line
