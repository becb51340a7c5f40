-- The clocks of a log and the letters that it posts. A log is the entries of one node; they stand with the newest
-- first.
use Rattle.std.specs.Prelude.{ℕ, suc, ◌≡◌, Bool, true, false, List, [], ◌∷◌, reverse}
use Rattle.dso_base.specs.declared.journal.Entry.{Entry}
use Rattle.dso_base.specs.declared.journal.Input.{Input}
use Rattle.dso_base.specs.declared.journal.Input.TheVariants.{TookUp, TookDown}
use Rattle.dso_log.specs.Logs.{Log}
use Rattle.dso_law.specs.Channels.{Direction, FitsConnection, Letter, posted}

-- the entries of a log, the newest first
abbrev pub newest : Log → List Entry
newest log = reverse log.entries

-- the clock of the log's last entry, 0 before its first
abbrev pub log_clock : List Entry → ℕ
log_clock [] = 0
log_clock (e ∷ es) = e.clock

-- whether the input is a message taken
abbrev pub is_taking : Input → Bool
is_taking (TookUp c m) = true
is_taking (TookDown m) = true
is_taking input = false

-- the letters that the entries of the sending node post in a direction, the first posted first
abbrev pub letters_of : {M : Type 0} → Direction M → List Entry → List (Letter M)
letters_of direction [] = []
letters_of direction (e ∷ es) = direction.by_sent (posted e.clock) e.sent (letters_of direction es)

-- each entry that takes no message has the next clock
abbrev pub KeepsClock : List Entry → Type 0
KeepsClock [] = Unit {0}
KeepsClock (e ∷ es) = KeepsClock es × (is_taking e.input ≡ false → e.clock ≡ suc (log_clock es))

-- a message is taken only while the connection isn't broken, and a rejoin comes only while it is
abbrev pub KeepsConnections : List Entry → Type 0
KeepsConnections [] = Unit {0}
KeepsConnections (e ∷ es) = KeepsConnections es × FitsConnection e.input es
