-- What becomes of the bytes that a client sends: what is told of them, what stands at the server then, and what the
-- server's end of the connection is.
use Rattle.std.specs.Prelude.{ℕ, ◌≡◌, ◌≢◌, ◌⊎◌, true, false, List, Result, Ok, Err}
use Rattle.dso_base.specs.declared.both.Both.{Both}
use Rattle.dso_base.specs.declared.both.Both.TheVariants as both
use Rattle.dso_base.specs.declared.journal.Entry.{Entry}
use Rattle.dso_base.specs.declared.message.Down.{Down}
use Rattle.dso_base.specs.declared.message.Up.{Up}
use Rattle.dso_base.specs.declared.no_memory.NoMemory.{NoMemory}
use Rattle.dso_law.specs.ServerReadings.{is_lost}
use Rattle.dso_law.specs.Settings.{Settings}
use Rattle.dso_locks.specs.Locks.{IsClient}
use Rattle.dso_machine.specs.declared.code.Code.{Code}
use Rattle.dso_server.specs.declared.server.Server.{Server}
use Rattle.dso_server.specs.declared.taken.Taken.{Taken}
use Rattle.dso_server.specs.Answering.{ChangesNothing, IsLost, IsTaken}
use Rattle.dso_server.specs.Lacking.{KnowsNamed}
use Rattle.dso_server.specs.ServerStands.{ServerStands}
use Rattle.dso_session.specs.declared.frame.Accepted.{Accepted}
use Rattle.dso_session.specs.declared.frame.Accepted.TheVariants as accepted
use Rattle.dso_session.specs.declared.frame.Frame.{Frame}
use Rattle.dso_session.specs.declared.frame.Frame.TheVariants.{Carry, Hello}
use Rattle.dso_session.specs.Ends.{End, after_frame, answer}
use Rattle.dso_wire.specs.declared.fault.WireFault.{WireFault}
use Rattle.dso_wire.specs.declared.fault.WireFault.TheVariants as fault
use Rattle.dso_admission.specs.declared.admitted.Admitted.{Admitted}
use Rattle.dso_admission.specs.declared.admitted.Admitted.TheVariants as admitted

-- a frame that came up, as the server's end of the connection takes it
abbrev pub lifted : Frame Up → Frame Both
lifted (Carry epoch number seen clock message) = Carry epoch number seen clock (both.Up message)
lifted (Hello epoch seen clock) = Hello epoch seen clock

-- ---- what is told

-- What the end answers is told: a message that is given up with its sender's clock and what the server made of it.
abbrev pub TellsAnswer : Accepted Both → Admitted → Type 0
TellsAnswer (accepted.Up (both.Up message) clock) told = (taken : Taken) × (told ≡ admitted.Took taken message clock)
TellsAnswer (accepted.Up (both.Down message) clock) told = ⊥
TellsAnswer (accepted.Again number) told = told ≡ admitted.Again number
TellsAnswer (accepted.Gap number) told = told ≡ admitted.Gap number
TellsAnswer (accepted.OldConnection epoch) told = told ≡ admitted.OldConnection epoch
TellsAnswer (accepted.Rejoined number) told = told ≡ admitted.Rejoined number

-- of a frame: what the end answers it
abbrev pub TellsOfFrame : Frame Up → End Both → Admitted → Type 0
TellsOfFrame frame end told = TellsAnswer (answer (lifted frame) end) told

-- Of bytes, by what they decode to: that they are no frame, with the fault, or what is told of their frame.
abbrev pub TellsOf : Result (Frame Up) WireFault → End Both → Admitted → Type 0
TellsOf (Ok frame) end told = TellsOfFrame frame end told
TellsOf (Err why) end told = told ≡ admitted.BadBytes why

-- that bytes are no frame is told by their fault, which is no refused allocation
abbrev pub IsRefusal : WireFault → Admitted → Type 0
IsRefusal why told = (told ≡ admitted.BadBytes why) × ((refused : NoMemory) → why ≢ fault.NoMemory refused)

-- ---- what the end of the connection is

-- what a frame makes of it; bytes that are no frame leave it as it was
abbrev pub end_after : Result (Frame Up) WireFault → End Both → End Both
end_after (Ok frame) end = after_frame (lifted frame) end
end_after (Err why) end = end

-- It changed only where a message was given up or the connection began anew.
abbrev pub KeepsEnd : Admitted → End Both → End Both → Type 0
KeepsEnd (admitted.Took taken message clock) old new = Unit {0}
KeepsEnd (admitted.Rejoined number) old new = Unit {0}
KeepsEnd other old new = new ≡ old

-- ---- what stands at the server

-- The message is taken as the server takes it, whatever entries it stood for, where it has what the message names.
abbrev pub TakesMessage : Code → ℕ → Up → Taken → List (ℕ × Down) → Server → Server → Type 0
TakesMessage code c message taken messages old new = (p : Settings) (es : List Entry) → p.shape ≡ code.shape
    → ServerStands p old es → IsClient p c → KnowsNamed p old c message es
    → IsTaken p c message taken messages old new es

-- The client is lost, whatever entries the server stood for. Where it was lost before, nothing changes.
abbrev pub CutsOff : ℕ → List (ℕ × Down) → Server → Server → Type 0
CutsOff c messages old new = (p : Settings) (es : List Entry) → ServerStands p old es
    → ((is_lost c es ≡ true) × ChangesNothing messages old new)
    ⊎ ((is_lost c es ≡ false) × IsLost p c messages old new es)

-- What each answer says of the messages to clients and of the server: a message that was given up is taken; a gap and
-- bytes that are no frame cut their client off; a message that came before, a frame of an old connection and a
-- connection that begins anew change nothing.
abbrev pub Leaves : Code → ℕ → Admitted → List (ℕ × Down) → Server → Server → Type 0
Leaves code c (admitted.Took taken message clock) messages old new = TakesMessage code c message taken messages old new
Leaves code c (admitted.Again number) messages old new = ChangesNothing messages old new
Leaves code c (admitted.Gap number) messages old new = CutsOff c messages old new
Leaves code c (admitted.OldConnection epoch) messages old new = ChangesNothing messages old new
Leaves code c (admitted.Rejoined number) messages old new = ChangesNothing messages old new
Leaves code c (admitted.BadBytes why) messages old new = CutsOff c messages old new
