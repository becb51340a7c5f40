-- Every message that comes fits.
use Rattle.std.specs.Prelude.{List, Option, false, length, ℕ, ◌<◌, ◌^◌, ◌≡◌}
use Rattle.dso_base.specs.declared.journal.Entry.{Entry}
use Rattle.dso_base.specs.declared.journal.Node.TheVariants.{Client, Server}
use Rattle.dso_base.specs.declared.lock.ThreadId.{ThreadId}
use Rattle.dso_base.specs.declared.message.Down.{Down}
use Rattle.dso_base.specs.declared.message.Up.{Up}
use Rattle.dso_base.specs.declared.request.Event.{Event}
use Rattle.dso_base.specs.declared.request.Request.{Request}
use Rattle.dso_law.specs.Channels.{IsFirst, down_in_flight, up_in_flight}
use Rattle.dso_law.specs.Entries.{entries_of}
use Rattle.dso_law.specs.FitsDown.{FitsDown}
use Rattle.dso_law.specs.FitsUp.{FitsUp}
use Rattle.dso_law.specs.ServerReadings.{counted, is_lost}
use Rattle.dso_law.specs.Settings.{Settings}
use Rattle.dso_legal.specs.Lawful.{AllFollow}
use Rattle.dso_legal.specs.SoundProgram.{GivesKnownTexts, AsksSoundly}
use Rattle.dso_legal.specs.WithinShape.{StaysWithinShape}

-- The first message in flight of a client that isn't lost fits at the server, and the first to any client fits there.
pub record FirstsFit (p : Settings) (c : ℕ) (es : List Entry) : Type 0 where
  pub ups : is_lost c (entries_of Server es) ≡ false → (m : Up) → IsFirst m (up_in_flight c es)
      → FitsUp p c m (counted (entries_of Server es))
  pub downs : (m : Down) → IsFirst m (down_in_flight c es) → FitsDown p c m (entries_of (Client c) es)

-- Messages fit: after fewer than 2 ^ 54 entries, each of which follows those before it, of a sound program that
-- gives only known texts and stays within its shape, what comes from a client that isn't lost and what comes to any
-- client fits.
abbrev pub MessagesFit : Type 0
MessagesFit = (p : Settings) (next : ThreadId → List Event → Option Request)
    → AsksSoundly p.shape next → GivesKnownTexts p.shape next → StaysWithinShape p.shape next
    → (es : List Entry) → AllFollow p next es → length es < 2 ^ 54 → (c : ℕ) → FirstsFit p c es
