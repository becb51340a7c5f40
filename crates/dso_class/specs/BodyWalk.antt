-- What the walk over expressions, statements and bodies owes: it judges what they mention, and gives them in numbers.
use Rattle.std.specs.Prelude.{◌≡◌, ◌≤◌, ℕ, List, [], ◌∷◌, ◌++◌, reverse, length, Contains, Option, Result, Ok, Err}
use Rattle.std.specs.Borrow.{Bor}
use Rattle.dso_base.specs.declared.lock.Grade.{Grade}
use Rattle.dso_machine.specs.declared.tree.FieldRef.{FieldRef}
use Rattle.dso_machine.specs.declared.tree.Expr.{Expr}
use Rattle.dso_machine.specs.declared.tree.Expr.TheVariants as x
use Rattle.dso_class.specs.declared.fault.NameFault.{NameFault}
use Rattle.dso_class.specs.declared.fault.NameFault.TheVariants as fault
use Rattle.dso_class.specs.declared.place.Place.{Place}
use Rattle.dso_class.specs.declared.scope.Scope.{Scope}
use Rattle.dso_class.specs.declared.uses.Role.{Role}
use Rattle.dso_class.specs.declared.uses.Role.TheVariants as role
use Rattle.dso_class.specs.declared.uses.Head.{Head}
use Rattle.dso_class.specs.declared.uses.Head.TheVariants as head
use Rattle.dso_config_entries.specs.Words.{Word}
use Rattle.dso_config_entries.specs.LastAndFirst.{AreFirsts}
use Rattle.dso_class.specs.Limits.{most_texts, most_vars}
use Rattle.dso_config_entries.specs.BorrowedWords.{words_of}
use Rattle.dso_class.specs.Mentions.{Mention, Owner, Part, receiver_mentions, on, alone, called}
use Rattle.dso_class.specs.PrecedingMentions.{in_text, in_body, text_in, variable_in}
use Rattle.dso_class.specs.NameFaults.{HasNoFault}
use Rattle.dso_class.specs.FaultsAmong.{behind, AreFine, IsFaultAmong}
use Rattle.dso_class.specs.Numbers.{Numbers, IsNumber, IsFieldRef}
use Rattle.dso_class.specs.TextProgram.{Source, IsAutolock, numbers_of}
use Rattle.dso_class.specs.DeclaredNames.{AreTables}

-- the second list begins with the first
pub record Begins {A : Type 0} (front whole : List A) : Type 0 where
  pub rest : List A
  pub is : whole ≡ front ++ rest

-- these are the text literals that were mentioned, each once, in the order of the text; no more than there may be
pub record HasTexts (before : List Mention) (texts : List Word) : Type 0 where
  pub firsts : AreFirsts (reverse (in_text text_in before)) texts
  pub few : length texts ≤ most_texts

-- What the walk has met: the text literals and the body's variables in the order of their numbers, and the names that
-- are known, the nearest first.
pub record Met : Type 0 where
  pub texts : List Word
  pub variables : List Word
  pub known : List Word

-- what was mentioned before is what the walk has met, and a name that is known is a variable's
pub record HasMet (before : List Mention) (met : Met) : Type 0 where
  pub texts : HasTexts before met.texts
  pub variables : met.variables ≡ reverse (in_text variable_in (in_body before))
  pub few_variables : length met.variables ≤ most_vars
  pub known : (name : Word) → Contains met.known name → Contains met.variables name

-- The text has no fault, and its numbers go on where the walk stands: these are the variables of the body, and the
-- level at which it locks.
pub record GoesOn (source : Source) (owner : Owner) (met : Met) (words : List Word) (grade : Option Grade)
    : Type 0 where
  pub no_fault : HasNoFault source.config source.ast
  pub texts : Begins met.texts source.texts
  pub variables : Begins met.variables words
  pub autolock : IsAutolock source.config owner.class owner.method grade

-- The mentions break no rule, the walk has met them too, and what it gives means what it should in numbers.
pub record IsRight (source : Source) (owner : Owner) (before mentions : List Mention) (old now : Met)
    (Means : Numbers → Type 0) : Type 0 where
  pub fine : AreFine source.config source.ast before mentions
  pub met : HasMet (behind before mentions) now
  pub texts : Begins old.texts now.texts
  pub variables : Begins old.variables now.variables
  pub means : (words : List Word) (grade : Option Grade) → GoesOn source owner now words grade
      → Means (numbers_of source words grade)

-- the answer is right for these mentions, behind those before them, or there was no memory
abbrev pub AnswersWalk : {A : Type 0} → Source → Owner → List Mention → List Mention → Met → Met
    → (Numbers → A → Type 0)
    → Result A NameFault → Type 0
AnswersWalk source owner before mentions met now Means (Ok value) =
    IsRight source owner before mentions met now (λ n. Means n value)
AnswersWalk source owner before mentions met now Means (Err (fault.At kind line)) =
    IsFaultAmong source.config source.ast before mentions kind line
AnswersWalk source owner before mentions met now Means (Err (fault.NoMemory refusal)) = Unit {0}

-- The answer of a part of the walk is right.
pub record IsWalked {A : Type 0} (source : Source) (owner : Owner) (before mentions : List Mention) (met now : Met)
    (Means : Numbers → A → Type 0) (result : Result A NameFault) : Type 0 where
  pub answer : AnswersWalk source owner before mentions met now Means result

-- the answer is this value, or there was no memory
abbrev pub IsMade : {A : Type 0} → Result A NameFault → A → Type 0
IsMade (Ok value) wanted = value ≡ wanted
IsMade (Err (fault.At kind line)) wanted = ⊥
IsMade (Err (fault.NoMemory refusal)) wanted = Unit {0}

-- the variables of the body so far, in the order of their numbers
abbrev pub variables_in : Scope → List Word
variables_in scope = words_of scope.variables

-- the names that are known, the nearest first
abbrev pub known_in : Scope → List Word
known_in scope = reverse (words_of scope.known)

-- what the walk has met with these texts, in this scope
abbrev pub met_in : List (Bor Word) → Scope → Met
met_in texts scope = record { texts = words_of texts; variables = variables_in scope; known = known_in scope }

-- whose statements they are
abbrev pub owner_in : Place → Owner
owner_in place = record { class = place.class.now; method = place.method.now; in_thread = place.in_thread }

-- names are resolved by what the text declares and by its configuration
pub record IsPlace (source : Source) (place : Place) : Type 0 where
  pub config : source.config ≡ place.config.now
  pub tables : AreTables source.ast place.tables.now

-- A part of the walk answers right for its mentions, whatever was mentioned before, of each source that the place is
-- of.
abbrev pub Walks : {A : Type 0} → Place → List (Bor Word) → Scope → List (Bor Word) → Scope
    → (Owner → List Word → List Mention) → (Numbers → A → Type 0) → Result A NameFault → Type 0
Walks place texts scope texts_now scope_now mentions Means result = (source : Source) (before : List Mention)
    → IsPlace source place → HasMet before (met_in texts scope)
    → IsWalked source (owner_in place) before (mentions (owner_in place) (known_in scope)) (met_in texts scope)
    (met_in texts_now scope_now) Means result

-- what an expression mentions in its role: as a value, or as what a method is called on
abbrev pub used : Role → Part → List Word → List Mention
used role.Value part known = part.mentions known
used role.Object part known = receiver_mentions part.bare part.mentions known

-- what a bare name mentions in its role
abbrev pub bare_used : Role → ℕ → Word → List Word → List Mention
bare_used role.Value line name known = on line (alone known name) ∷ []
bare_used role.Object line name known = on line (called known name) ∷ []

-- what a bare name before a dot and a name means: a variable, or with the name behind it a root
abbrev pub HeadMeans : Word → Word → Numbers → Head → Type 0
HeadMeans name behind n (head.Variable number) = IsNumber n.variables name number
HeadMeans name behind n (head.Root number) = IsNumber n.roots (record { class = name; field = behind }) number

-- the field of an object: which fields of which classes have the name
pub record MeansField (n : Numbers) (object : Expr) (name : Word) (given : Expr) : Type 0 where
  pub field : FieldRef
  pub is : given ≡ x.Field object field
  pub place : IsFieldRef n.fields name field
