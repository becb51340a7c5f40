-- The numbers of the statuses, and the lines of the refusals.
use Rattle.std.specs.Prelude.{ℕ, List, [], ◌∷◌, ◌++◌, codes}
use Rattle.std.specs.Fmt.{decimal}
use Rattle.dso_class.specs.declared.fault.NameFault.{NameFault}
use Rattle.dso_class.specs.declared.fault.NameFault.TheVariants as name
use Rattle.dso_class.specs.declared.fault.NameKind.{NameKind}
use Rattle.dso_class.specs.declared.fault.NameKind.TheVariants as kind
use Rattle.dso_lint.specs.declared.answer.Lint.{Lint}
use Rattle.dso_lint.specs.declared.answer.Lint.TheVariants as lint
use Rattle.dso_lint.specs.declared.answer.Place.{Place}
use Rattle.dso_lint.specs.declared.answer.Place.TheVariants as place
use Rattle.dso_lint.specs.declared.answer.Why.{Why}
use Rattle.dso_lint.specs.declared.answer.Why.TheVariants as why
use Rattle.dso_syntax.specs.declared.fault.SyntaxFault.{SyntaxFault}
use Rattle.dso_syntax.specs.declared.fault.SyntaxFault.TheVariants as syntax
use Rattle.dso_run.specs.declared.running.Outcome.{Outcome}
use Rattle.dso_run.specs.declared.running.Outcome.TheVariants as outcome
use Rattle.dso_run.specs.declared.status.ProgramFault.{ProgramFault}
use Rattle.dso_config.specs.declared.fault.ConfigFault.{ConfigFault}
use Rattle.dso_config.specs.declared.fault.ConfigFault.TheVariants as config
use Rattle.dso_config.specs.declared.fault.Section.{Section}
use Rattle.dso_config.specs.declared.fault.Section.TheVariants as section
use Rattle.dso_config.specs.declared.fault.Spot.{Spot}
use Rattle.dso_config.specs.Keys.{IsOfText, key_of}
use Rattle.dso_run.specs.declared.status.ProgramFault.TheVariants as program
use Rattle.dso_run.specs.declared.status.Refusal.{Refusal}
use Rattle.dso_run.specs.declared.status.Refusal.TheVariants.{Words, Reading, Config, Program, Store, InUse}
use Rattle.dso_run.specs.declared.status.Refusal.TheVariants as refusal
use Rattle.dso_run.specs.declared.status.Status.{Status}
use Rattle.dso_run.specs.declared.status.Status.TheVariants.{Finished, FinishedFault, Usage, BadConfig, BadProgram}
use Rattle.dso_run.specs.declared.status.Status.TheVariants.{ReadFault, WriteFault, Stuck, Budget, NoMemory}
use Rattle.dso_run.specs.declared.status.Status.TheVariants.{StoreFault, StoreInUse, BadStore, Shown, LintYes, LintNo}

-- the number that the process ends with
abbrev pub exit_number_of : Status → ℕ
exit_number_of Finished = 0
exit_number_of Usage = 1
exit_number_of (BadConfig fault) = 2
exit_number_of (BadProgram fault) = 3
exit_number_of ReadFault = 4
exit_number_of WriteFault = 5
exit_number_of Stuck = 6
exit_number_of Budget = 7
exit_number_of NoMemory = 8
exit_number_of FinishedFault = 9
exit_number_of StoreFault = 10
exit_number_of StoreInUse = 11
exit_number_of (BadStore place) = 12
exit_number_of Shown = 0
exit_number_of LintYes = 0
exit_number_of (LintNo place why) = 13

-- the status of a run that ended so
abbrev pub status_of_run : Outcome → Status
status_of_run outcome.Finished = Finished
status_of_run outcome.FinishedFault = FinishedFault
status_of_run outcome.Stuck = Stuck
status_of_run outcome.Budget = Budget

-- the status of a refusal
abbrev pub status_of : Refusal → Status
status_of Words = Usage
status_of Reading = ReadFault
status_of (Config fault) = BadConfig fault
status_of (Program fault) = BadProgram fault
status_of Store = StoreFault
status_of InUse = StoreInUse
status_of (refusal.BadStore place) = BadStore place

-- a text and the line feed that ends it
abbrev pub ended : List ℕ → List ℕ
ended text = text ++ 10 ∷ []

-- a fault with its place, counted in bytes from 0
abbrev pub at_place : List ℕ → ℕ → List ℕ
at_place kind place = kind ++ (codes " at " ++ decimal place)

-- a fault with its line, counted from 1
abbrev pub on_line : List ℕ → ℕ → List ℕ
on_line kind line = kind ++ (codes " line " ++ decimal line)

-- what is said of a fault of the grammar; a want of memory is no fault of a program, and has no line
abbrev pub syntax_text : SyntaxFault → List ℕ
syntax_text (syntax.BadByte place) = at_place (codes "BadByte") place
syntax_text (syntax.BadToken place) = at_place (codes "BadToken") place
syntax_text (syntax.Unexpected place) = at_place (codes "Unexpected") place
syntax_text (syntax.NumberTooWide place) = at_place (codes "NumberTooWide") place
syntax_text (syntax.NestTooDeep place) = at_place (codes "NestTooDeep") place
syntax_text syntax.TooLong = codes "TooLong"
syntax_text (syntax.NoMemory refusal) = []

-- the name of a fault of a name
abbrev pub kind_text : NameKind → List ℕ
kind_text kind.UnknownClass = codes "UnknownClass"
kind_text kind.UnknownMethod = codes "UnknownMethod"
kind_text kind.Twice = codes "Twice"
kind_text kind.WrongArguments = codes "WrongArguments"
kind_text kind.UnknownRoot = codes "UnknownRoot"
kind_text kind.NoAutolock = codes "NoAutolock"
kind_text (kind.TooMany what) = codes "TooMany"
kind_text kind.NoSuchClient = codes "NoSuchClient"
kind_text kind.UnknownVariable = codes "UnknownVariable"

-- what is said of a fault of a name
abbrev pub name_text : NameFault → List ℕ
name_text (name.At kind line) = on_line (kind_text kind) line
name_text (name.NoMemory refusal) = []

-- what is said of a fault of the program
abbrev pub fault_text : ProgramFault → List ℕ
fault_text (program.Syntax fault) = syntax_text fault
fault_text (program.Name fault) = name_text fault

-- a section, and behind its name the number of the entry; none at the top
abbrev pub entry_text : Section → ℕ → List ℕ
entry_text section.Top entry = []
entry_text section.Root entry = codes " " ++ decimal entry
entry_text section.Autolock entry = codes " " ++ decimal entry
entry_text section.NamedLock entry = codes " " ++ decimal entry
entry_text section.Guard entry = codes " " ++ decimal entry
entry_text section.Lose entry = codes " " ++ decimal entry
entry_text section.Break entry = codes " " ++ decimal entry

-- a fault with its section and entry
abbrev pub at_spot : List ℕ → Spot → List ℕ
at_spot kind spot = kind ++ (codes " " ++ (key_of spot.section ++ entry_text spot.section spot.entry))

-- what is said of a fault of the configuration
abbrev pub config_text : ConfigFault → List ℕ
config_text config.NotToml = codes "NotToml"
config_text (config.UnknownKey spot) = at_spot (codes "UnknownKey") spot
config_text (config.WrongKind spot) = at_spot (codes "WrongKind") spot
config_text (config.OutOfRange spot) = at_spot (codes "OutOfRange") spot
config_text (config.BadMethodPattern spot) = at_spot (codes "BadMethodPattern") spot
config_text (config.BadGuard spot) = at_spot (codes "BadGuard") spot
config_text (config.Twice spot) = at_spot (codes "Twice") spot
config_text config.TooLong = codes "TooLong"
config_text (config.BadName spot) = at_spot (codes "BadName") spot
config_text (config.NoMemory refusal) = []

-- the one line that a refusal writes
abbrev pub line_of : Refusal → List ℕ
line_of Words = ended (codes "dsorun: Usage")
line_of Reading = ended (codes "dsorun: ReadFault")
line_of (Config fault) = ended (codes "dsorun: BadConfig " ++ config_text fault)
line_of (Program fault) = ended (codes "dsorun: BadProgram " ++ fault_text fault)
line_of Store = ended (codes "dsorun: StoreFault")
line_of InUse = ended (codes "dsorun: StoreInUse")
line_of (refusal.BadStore place) = ended (at_place (codes "dsorun: BadStore") place)

-- The refusal has a line: its fault is no want of memory.
abbrev pub HasLine : Refusal → Type 0
HasLine (Config fault) = IsOfText fault
HasLine (Program (program.Syntax (syntax.NoMemory refusal))) = ⊥
HasLine (Program (program.Name (name.NoMemory refusal))) = ⊥
HasLine refusal = Unit {0}

-- the status of an answer of the lock checker
abbrev pub status_of_lint : Lint → Status
status_of_lint lint.Yes = LintYes
status_of_lint (lint.No place why) = LintNo place why

-- a place of the program, and the rule that it fails
abbrev pub place_text : Place → List ℕ
place_text (place.Method number) = codes "method " ++ decimal number
place_text (place.Thread number) = codes "thread " ++ decimal number

abbrev pub why_text : Why → List ℕ
why_text why.Access = codes "access"
why_text why.Upgrade = codes "upgrade"

-- the line of an answer of the lock checker
abbrev pub lint_line : Lint → List ℕ
lint_line lint.Yes = ended (codes "lint yes")
lint_line (lint.No place why) = ended (codes "lint no " ++ (place_text place ++ (codes " " ++ why_text why)))
