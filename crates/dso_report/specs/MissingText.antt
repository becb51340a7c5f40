-- When a state has no report: something that a line of it would name isn't there.
use Rattle.std.specs.Prelude.{◌≡◌, None, List, ℕ, ◌⊎◌}
use Rattle.dso_base.specs.declared.lock.ThreadId.{ThreadId}
use Rattle.dso_class.specs.declared.program.Names.{Names}
use Rattle.dso_plain.specs.State.{PlainState}
use Rattle.dso_report.specs.declared.thread_lines.ThreadStanding.{ThreadStanding}
use Rattle.dso_report.specs.Numbering.{IsOrder}
use Rattle.dso_report.specs.Report.{thread_text, graph_text}

-- the lines of a thread have no text: it printed something that isn't there
pub record IsThreadTextMissing (names : Names) (s : PlainState) : Type 0 where
  pub thread : ThreadId
  pub standing : ThreadStanding
  pub lacks : thread_text names s thread standing ≡ None

-- the lines of the graph have no text: they name something that isn't there
pub record IsGraphTextMissing (names : Names) (s : PlainState) : Type 0 where
  pub order : List ℕ
  pub is_order : IsOrder s order
  pub lacks : graph_text names order s ≡ None

-- a line of a thread or a line of the graph is missing
abbrev pub IsReportTextMissing : Names → PlainState → Type 0
IsReportTextMissing names s = IsThreadTextMissing names s ⊎ IsGraphTextMissing names s
