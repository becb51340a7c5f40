-- What the words behind the program's name ask for.
use Rattle.std.specs.Prelude.{◌≡◌, ◌≢◌, ℕ, ◌-◌, ◌^◌, ◌≤◌, Bool, true, false, ◌&&◌, nat_eq, nat_le, if◌then◌else◌}
use Rattle.std.specs.Prelude.{List, [], ◌∷◌, ◌++◌, length, Option, Some, None, codes}
use Rattle.std.specs.List.{AllByRecursion}
use Rattle.std.specs.Option.{option_map, option_to_list}
use Rattle.std.specs.Str.{all_ascii_digits}
use Rattle.std.specs.Str.Parse.{digits_value}
use Rattle.dso_command_line.specs.declared.option_name.OptionName.{OptionName}
use Rattle.dso_command_line.specs.declared.option_name.OptionName.TheVariants.{Seed, Steps, Journal, Store, Collect}

-- how an option is written
abbrev pub text_of : OptionName → List ℕ
text_of Seed = codes "--seed"
text_of Steps = codes "--steps"
text_of Journal = codes "--journal"
text_of Store = codes "--store"
text_of Collect = codes "--collect"

-- whether two options are one
abbrev pub is_option : OptionName → OptionName → Bool
is_option Seed Seed = true
is_option Steps Steps = true
is_option Journal Journal = true
is_option Store Store = true
is_option Collect Collect = true
is_option option other = false

-- whether a word has two or more bytes and begins with a hyphen
abbrev pub is_hyphened : List ℕ → Bool
is_hyphened [] = false
is_hyphened (only ∷ []) = false
is_hyphened (first ∷ second ∷ rest) = nat_eq first 45

-- The word may stand as a name, or behind an option as its value: it isn't empty, and not hyphened.
pub record IsPlain (word : List ℕ) : Type 0 where
  pub some : word ≢ []
  pub bare : is_hyphened word ≡ false

-- An argument: a name, or an option with its value, which are two words (`--x V`) or one (`--x=V`).
pub data Argument : Type 0 where
  Name : List ℕ → Argument
  Apart : OptionName → List ℕ → Argument
  Joined : OptionName → List ℕ → Argument

-- the words of an argument
abbrev pub words_of : Argument → List (List ℕ)
words_of (Name name) = name ∷ []
words_of (Apart option value) = text_of option ∷ value ∷ []
words_of (Joined option value) = (text_of option ++ 61 ∷ value) ∷ []

-- the argument may stand there
abbrev pub IsArgument : Argument → Type 0
IsArgument (Name name) = IsPlain name
IsArgument (Apart option value) = IsPlain value
IsArgument (Joined option value) = value ≢ []

-- the words of arguments, one after the other
abbrev pub spelling : List Argument → List (List ℕ)
spelling [] = []
spelling (argument ∷ rest) = words_of argument ++ spelling rest

-- the names among arguments
abbrev pub names_among : List Argument → List (List ℕ)
names_among [] = []
names_among (Name name ∷ rest) = name ∷ names_among rest
names_among (Apart option value ∷ rest) = names_among rest
names_among (Joined option value ∷ rest) = names_among rest

-- the values of an option among arguments
abbrev pub values_among : OptionName → List Argument → List (List ℕ)
values_among option [] = []
values_among option (Name name ∷ rest) = values_among option rest
values_among option (Apart other value ∷ rest) =
    if is_option option other then value ∷ values_among option rest else values_among option rest
values_among option (Joined other value ∷ rest) =
    if is_option option other then value ∷ values_among option rest else values_among option rest

-- the words behind all arguments: none, or `--` and names, which may look like options
abbrev pub ending : Option (List (List ℕ)) → List (List ℕ)
ending None = []
ending (Some names) = codes "--" ∷ names

-- the names of such an ending
abbrev pub last_names : Option (List (List ℕ)) → List (List ℕ)
last_names None = []
last_names (Some names) = names

-- What the words behind a command give: its names in order, and the value of each option that is there.
pub record Given : Type 0 where
  pub names : List (List ℕ)
  pub seed : Option (List ℕ)
  pub steps : Option (List ℕ)
  pub journal : Option (List ℕ)
  pub store : Option (List ℕ)
  pub collect : Option (List ℕ)

-- the value of an option, if it is there
abbrev pub value_of : Given → OptionName → Option (List ℕ)
value_of given Seed = given.seed
value_of given Steps = given.steps
value_of given Journal = given.journal
value_of given Store = given.store
value_of given Collect = given.collect

-- The words are arguments and an ending, and this is what they give: each option at most once.
pub record Gives (words : List (List ℕ)) (given : Given) : Type 0 where
  pub arguments : List Argument
  pub last : Option (List (List ℕ))
  pub spelled : words ≡ spelling arguments ++ ending last
  pub lawful : AllByRecursion IsArgument arguments
  pub named : AllByRecursion (λ name. name ≢ []) (last_names last)
  pub names : names_among arguments ++ last_names last ≡ given.names
  pub values : (option : OptionName) → values_among option arguments ≡ option_to_list (value_of given option)

-- the number that a word says, within bounds: it is 1 to 20 digits; None where it says none
abbrev pub number_within : ℕ → ℕ → List ℕ → Option ℕ
number_within least most word =
    if all_ascii_digits word && nat_le 1 (length word) && nat_le (length word) 20
    && nat_le least (digits_value 10 word) && nat_le (digits_value 10 word) most
    then Some (digits_value 10 word)
    else None

-- What `sim` is asked for: the files of a configuration and of a program, the seed of the schedule or round robin, how
-- much the journal may weigh before the run is cut off, a file for the journal, a file in which the graph is kept, and
-- after how many entries each garbage is collected.
pub record SimCall : Type 0 where
  pub config : List ℕ
  pub program : List ℕ
  pub seed : Option ℕ
  pub steps : ℕ
  pub journal : Option (List ℕ)
  pub store : Option (List ℕ)
  pub collect : Option ℕ

-- what `run` is asked for: the files of a configuration and of a program, how much the journal may weigh, and a file
-- for the journal
pub record RunCall : Type 0 where
  pub config : List ℕ
  pub program : List ℕ
  pub steps : ℕ
  pub journal : Option (List ℕ)

-- what `show` is asked for: the files of a configuration, of a program, and of a kept graph
pub record ShowCall : Type 0 where
  pub config : List ℕ
  pub program : List ℕ
  pub store : List ℕ

-- what `lint` is asked for: the files of a configuration and of a program
pub record LintCall : Type 0 where
  pub config : List ℕ
  pub program : List ℕ

-- what the words ask for; `big` is asked for a load of this number
pub data Command : Type 0 where
  Sim : SimCall → Command
  Run : RunCall → Command
  Big : ℕ → Command
  Show : ShowCall → Command
  Lint : LintCall → Command

-- the seed that an option says: below 2^64, and none where the option is left out
abbrev pub seed_said : Option (List ℕ) → Option (Option ℕ)
seed_said None = Some None
seed_said (Some word) = option_map Some (number_within 0 (2 ^ 64 - 1) word)

-- how much a run's journal may weigh at most, and what it may weigh where nothing is said
abbrev pub most_steps : ℕ
most_steps = 4000000

abbrev pub usual_steps : ℕ
usual_steps = 1000000

-- the steps that an option says: from 1 up to the most, and the usual ones where the option is left out
abbrev pub steps_said : Option (List ℕ) → Option ℕ
steps_said None = Some usual_steps
steps_said (Some word) = number_within 1 most_steps word

-- the most entries after which garbage can be collected
abbrev pub most_interval : ℕ
most_interval = 1000000

-- after how many entries each garbage is collected, as an option says it: 1 to the most, and never where the option is
-- left out
abbrev pub collect_said : Option (List ℕ) → Option (Option ℕ)
collect_said None = Some None
collect_said (Some word) = option_map Some (number_within 1 most_interval word)

-- `sim`, with two names and what its options say
pub record IsSim (command : List ℕ) (given : Given) (call : SimCall) : Type 0 where
  pub word : command ≡ codes "sim"
  pub names : given.names ≡ call.config ∷ call.program ∷ []
  pub seed : seed_said given.seed ≡ Some call.seed
  pub steps : steps_said given.steps ≡ Some call.steps
  pub journal : given.journal ≡ call.journal
  pub store : given.store ≡ call.store
  pub collect : collect_said given.collect ≡ Some call.collect

-- `run`, with two names and what its options say: those of the steps and the journal alone
pub record IsRun (command : List ℕ) (given : Given) (call : RunCall) : Type 0 where
  pub word : command ≡ codes "run"
  pub names : given.names ≡ call.config ∷ call.program ∷ []
  pub unseeded : given.seed ≡ None
  pub steps : steps_said given.steps ≡ Some call.steps
  pub journal : given.journal ≡ call.journal
  pub unstored : given.store ≡ None
  pub uncollected : given.collect ≡ None

-- no option is given
pub record HasNoOption (given : Given) : Type 0 where
  pub unseeded : given.seed ≡ None
  pub unlimited : given.steps ≡ None
  pub unkept : given.journal ≡ None
  pub unstored : given.store ≡ None
  pub uncollected : given.collect ≡ None

-- `big`, with one name, which is a number from 1 to 1000, and no option
pub record IsBig (command : List ℕ) (given : Given) (number : ℕ) : Type 0 where
  pub word : command ≡ codes "big"
  pub name : List ℕ
  pub names : given.names ≡ name ∷ []
  pub said : number_within 1 1000 name ≡ Some number
  pub plain : HasNoOption given

-- `show`, with three names and no option
pub record IsShow (command : List ℕ) (given : Given) (call : ShowCall) : Type 0 where
  pub word : command ≡ codes "show"
  pub names : given.names ≡ call.config ∷ call.program ∷ call.store ∷ []
  pub plain : HasNoOption given

-- `lint`, with two names and no option
pub record IsLint (command : List ℕ) (given : Given) (call : LintCall) : Type 0 where
  pub word : command ≡ codes "lint"
  pub names : given.names ≡ call.config ∷ call.program ∷ []
  pub plain : HasNoOption given

-- a command with what is given asks for this
abbrev pub IsAsked : List ℕ → Given → Command → Type 0
IsAsked command given (Sim call) = IsSim command given call
IsAsked command given (Run call) = IsRun command given call
IsAsked command given (Big number) = IsBig command given number
IsAsked command given (Show call) = IsShow command given call
IsAsked command given (Lint call) = IsLint command given call

-- The words ask for this: they are a command, and what is given behind it.
pub record AreLawful (words : List (List ℕ)) (command : Command) : Type 0 where
  pub first : List ℕ
  pub rest : List (List ℕ)
  pub given : Given
  pub spelled : words ≡ first ∷ rest
  pub gives : Gives rest given
  pub asked : IsAsked first given command

-- Words ask for one thing at most.
abbrev pub WordsAskOnce : Type 0
WordsAskOnce = (words : List (List ℕ)) (command other : Command)
    → AreLawful words command → AreLawful words other → command ≡ other

-- the seed that a command gives its run, if it gives one; of the commands only `sim` can
abbrev pub seed_of : Command → Option ℕ
seed_of (Sim call) = call.seed
seed_of command = None

-- how much the journal of its run may weigh before it is cut off: a load's 4,000,000, and nothing where there is no run
abbrev pub steps_of : Command → ℕ
steps_of (Sim call) = call.steps
steps_of (Run call) = call.steps
steps_of (Big number) = most_steps
steps_of (Show call) = 0
steps_of (Lint call) = 0

-- the file for its run's journal, if it names one
abbrev pub journal_of : Command → Option (List ℕ)
journal_of (Sim call) = call.journal
journal_of (Run call) = call.journal
journal_of (Big number) = None
journal_of (Show call) = None
journal_of (Lint call) = None

-- the file for its run's store, if it names one; of the commands only `sim` can
abbrev pub store_of : Command → Option (List ℕ)
store_of (Sim call) = call.store
store_of command = None

-- after how many entries of its journal each its run collects garbage, if it does; of the commands only `sim` can
abbrev pub collect_of : Command → Option ℕ
collect_of (Sim call) = call.collect
collect_of command = None

-- after how many entries each a run can collect garbage: 1 to 1,000,000, if it does
abbrev pub IsInterval : Option ℕ → Type 0
IsInterval None = Unit {0}
IsInterval (Some n) = (1 ≤ n) × (n ≤ most_interval)

-- what words can ask for: `sim` or `run` within the most steps, `sim` with such an interval, `big` with a number from 1
-- to 1000, `show` or `lint`
abbrev pub CanBeAsked : Command → Type 0
CanBeAsked (Sim call) = (call.steps ≤ most_steps) × IsInterval call.collect
CanBeAsked (Run call) = call.steps ≤ most_steps
CanBeAsked (Big number) = (1 ≤ number) × (number ≤ 1000)
CanBeAsked (Show call) = Unit {0}
CanBeAsked (Lint call) = Unit {0}

-- the command is one of those that ask for a run
abbrev pub AsksForRun : Command → Type 0
AsksForRun (Sim call) = Unit {0}
AsksForRun (Run call) = Unit {0}
AsksForRun (Big number) = Unit {0}
AsksForRun (Show call) = ⊥
AsksForRun (Lint call) = ⊥

-- The words ask for a run in threads.
pub record AskForThreads (words : List (List ℕ)) : Type 0 where
  pub call : RunCall
  pub lawful : AreLawful words (Run call)

-- The words are none that the program takes.
abbrev pub AreUnlawful : List (List ℕ) → Type 0
AreUnlawful words = (command : Command) → AreLawful words command → ⊥
