-- Which clients keep a run from being finished. Entries stand with the newest first.
use Rattle.std.specs.List.{list_any}
use Rattle.std.specs.Prelude.{ℕ, Bool, not, ◌&&◌, ◌||◌, List}
use Rattle.dso_base.specs.declared.journal.Entry.{Entry}
use Rattle.dso_base.specs.declared.journal.Node.TheVariants.{Server}
use Rattle.dso_law.specs.Entries.{entries_of}
use Rattle.dso_law.specs.ServerReadings.{is_lost}
use Rattle.dso_law.specs.Settings.{Settings, threads_of}
use Rattle.dso_legal.specs.Slots.{has_ended, is_loss_or_break_due, is_quiet}

-- whether the client isn't lost, and one of its threads has not ended or a message is in flight between it and the
-- server
abbrev pub is_working : Settings → ℕ → List Entry → Bool
is_working p c es =
    not (is_lost c (entries_of Server es))
    && (list_any (λ t. not (has_ended t es)) (threads_of p c) || not (is_quiet p c es))

-- Busy: a trigger of the client is due, or it is working.
abbrev pub is_busy : Settings → ℕ → List Entry → Bool
is_busy p c es = is_loss_or_break_due p c es || is_working p c es
