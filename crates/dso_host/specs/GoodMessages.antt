-- That no message of a lawful journal is bad.
use Rattle.std.specs.Prelude.{ℕ, ◌<◌, ◌^◌, ◌≡◌, List, length}
use Rattle.dso_base.specs.declared.journal.Entry.{Entry}
use Rattle.dso_base.specs.declared.journal.Node.TheVariants.{Server}
use Rattle.dso_base.specs.declared.message.Down.{Down}
use Rattle.dso_base.specs.declared.message.Up.{Up}
use Rattle.dso_law.specs.Channels.{IsFirst, up_in_flight}
use Rattle.dso_law.specs.Entries.{entries_of}
use Rattle.dso_law.specs.Settings.{Settings}
use Rattle.dso_legal.specs.Lawful.{AllFollow}
use Rattle.dso_machine.specs.declared.code.Code.{Code}
use Rattle.dso_machine.specs.Next.{next_request}
use Rattle.dso_machine.specs.Sound.{IsSoundCode}
use Rattle.dso_server.specs.declared.server.Server as core
use Rattle.dso_server.specs.declared.taken.Taken.{Taken}
use Rattle.dso_server.specs.Answering.{IsTaken, WasTaken}

-- Good messages: after fewer than 2 ^ 54 entries, each of which follows those before it, the server answers the
-- message that comes next of a client as one that it takes, or that changes nothing since the client was lost; never as
-- a bad one.
abbrev pub NoMessageIsBad : Type 0
NoMessageIsBad = (code : Code) (p : Settings) → IsSoundCode code → p.shape ≡ code.shape
    → (es : List Entry) → AllFollow p (next_request code) es → length es < 2 ^ 54
    → (c : ℕ) (m : Up) → IsFirst m (up_in_flight c es)
    → (told : Taken) (messages : List (ℕ × Down)) (old new : core.Server)
    → IsTaken p c m told messages old new (entries_of Server es) → WasTaken told
