-- That no break of a connection is due while it is broken. Entries stand with the newest first.
use Rattle.std.specs.Prelude.{ℕ, ◌≡◌, ◌≢◌, true, false, AllPairs, Option, List}
use Rattle.dso_base.specs.declared.journal.Entry.{Entry}
use Rattle.dso_base.specs.declared.journal.Node.TheVariants.{Server}
use Rattle.dso_base.specs.declared.lock.ThreadId.{ThreadId}
use Rattle.dso_base.specs.declared.request.Event.{Event}
use Rattle.dso_base.specs.declared.request.Request.{Request}
use Rattle.dso_law.specs.Settings.{Settings}
use Rattle.dso_law.specs.Entries.{entries_of}
use Rattle.dso_law.specs.Channels.{is_broken}
use Rattle.dso_law.specs.ServerReadings.{is_break_due}
use Rattle.dso_legal.specs.Lawful.{IsLawful}

-- Breaks: where no break is set twice, in a lawful journal no break of a client's connection is due while that is
-- broken.
abbrev pub BrokenIsNeverDue : Type 0
BrokenIsNeverDue = (p : Settings) (next : ThreadId → List Event → Option Request) (es : List Entry)
    → IsLawful p next es
    → AllPairs (λ trigger other. trigger ≢ other) p.breaks
    → (c : ℕ) → is_broken c (entries_of Server es) ≡ true → is_break_due p c (entries_of Server es) ≡ false
