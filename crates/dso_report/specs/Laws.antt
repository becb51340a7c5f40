-- The laws of reports.
use Rattle.std.specs.Prelude.{ℕ, ◌≡◌, List}
use Rattle.dso_base.specs.declared.lock.ThreadId.{ThreadId}
use Rattle.dso_class.specs.declared.program.Names.{Names}
use Rattle.dso_class.specs.declared.program.Program.{Program}
use Rattle.dso_class.specs.Sound.{IsSoundProgram}
use Rattle.dso_plain.specs.State.{PlainState}
use Rattle.dso_report.specs.HistoryState.{IsLastStateOf}
use Rattle.dso_report.specs.Numbering.{IsOrder}
use Rattle.dso_report.specs.Report.{IsGraphText, IsReport}
use Rattle.dso_report.specs.ShownMaps.{ShowsSlots}
use Rattle.dso_report.specs.WholeState.{IsWholeState, IsClosedOrder}

-- A state has one report.
abbrev pub OneReport : Type 0
OneReport = (names : Names) (threads : List ThreadId) (s : PlainState) (a b : List ℕ) → IsReport names threads s a
    → IsReport names threads s b → a ≡ b

-- A graph has one text.
abbrev pub OneGraphText : Type 0
OneGraphText = (names : Names) (s : PlainState) (a b : List ℕ) → IsGraphText names s a → IsGraphText names s b → a ≡ b

-- In each state that a run of a sound program leads to, nothing is missing that its report names.
abbrev pub StatesAreWhole : Type 0
StatesAreWhole = (p : Program) (s : PlainState) → IsSoundProgram p → IsLastStateOf p s → IsWholeState p.names s

-- Each object that is shown has a number.
abbrev pub OrdersAreClosed : Type 0
OrdersAreClosed = (s : PlainState) (order : List ℕ) → IsOrder s order → IsClosedOrder s order

-- Of each map is shown what its slots hold.
abbrev pub MapsShowTheirSlots : Type 0
MapsShowTheirSlots = (s : PlainState) (o : ℕ) → ShowsSlots s o
