-- What the parts of a client's turn make of its cell.
use Rattle.std.specs.Prelude.{ℕ, ◌+◌, ◌<◌, ◌^◌, ◌≡◌, true, None, List, [], map}
use Rattle.dso_base.specs.declared.both.Both.TheVariants as both
use Rattle.dso_base.specs.declared.journal.Entry.{Entry}
use Rattle.dso_base.specs.declared.journal.Input.TheVariants.{Rejoin, TookDown}
use Rattle.dso_base.specs.declared.journal.Sent.TheVariants.{ToServer}
use Rattle.dso_base.specs.declared.message.Down.{Down}
use Rattle.dso_base.specs.declared.message.Up.{Up}
use Rattle.dso_machine.specs.declared.code.Code.{Code}
use Rattle.dso_session.specs.Ends.{sent_count}
use Rattle.dso_log.specs.Logs.{Log, entry_of, last_clock, with_entry}
use Rattle.dso_port.specs.Ports.{PortState, all_posted}
use Rattle.dso_client.specs.TakenMessages.{Takes}
use Rattle.dso_cell.specs.declared.client_cell.ClientCell.{ClientCell}
use Rattle.dso_cell.specs.declared.made.Made.{Made}
use Rattle.dso_cell.specs.ClientCells.{ClientBounds}

-- The cell isn't at its limit, and has room for an entry.
pub record MayAdd (code : Code) (cell : ClientCell) : Type 0 where
  pub bounds : ClientBounds code cell
  pub room : cell.log.has_room ≡ true
  pub low : last_clock cell.log < 2 ^ 28
  pub few : sent_count cell.port.session < 2 ^ 62

-- the entry that the cell logs, which sends these messages
abbrev pub entry_said : Made → List Up → Log → Entry
entry_said made messages log = entry_of made.heard made.input (map ToServer messages) made.event log

-- The entry was logged, and the end of the connection sent the messages.
pub record HasSaid (made : Made) (messages : List Up) (before now : Log) (port after : PortState Up Down) : Type 0 where
  pub log : now ≡ with_entry (entry_said made messages before) before
  pub session : after.session ≡ all_posted both.Up (entry_said made messages before).clock messages port.session
  pub out : after.out ≡ port.out
  pub into : after.into ≡ port.into
  pub late : after.late ≡ port.late

-- a message that is taken, and a connection that is taken up again, are to be logged so
abbrev pub made_of_message : Down → ℕ → Made
made_of_message message heard = record { heard = heard; input = TookDown message; event = None }

abbrev pub made_of_rejoin : ℕ → Made
made_of_rejoin c = record { heard = 0; input = Rejoin c; event = None }

-- The core took the message, and the cell logged that.
pub record HasHeard (code : Code) (message : Down) (heard : ℕ) (old new : ClientCell) : Type 0 where
  pub messages : List Up
  pub takes : Takes code message old.core new.core messages
  pub said : HasSaid (made_of_message message heard) messages old.log new.log old.port new.port
  pub number : new.number ≡ old.number
  pub rejoins : new.rejoins ≡ old.rejoins

-- The cell took its connection up again, and logged that.
pub record HasRejoined (old new : ClientCell) : Type 0 where
  pub core : new.core ≡ old.core
  pub said : HasSaid (made_of_rejoin old.number) [] old.log new.log old.port new.port
  pub number : new.number ≡ old.number
  pub rejoins : new.rejoins ≡ old.rejoins + 1
