-- Which slots an entry may open or close.
use Rattle.std.specs.List.{list_any}
use Rattle.std.specs.Option.{option_map_or}
use Rattle.std.specs.Prelude.{ℕ, ◌≡◌, Bool, false, eqb, ◌||◌, Option, Some, None, List, ◌∷◌}
use Rattle.dso_base.specs.declared.journal.Entry.{Entry}
use Rattle.dso_base.specs.declared.journal.Input.{Input}
use Rattle.dso_base.specs.declared.journal.Input.TheVariants.{TookUp, Lose, Break, Rejoin}
use Rattle.dso_base.specs.declared.journal.Node.{Node}
use Rattle.dso_base.specs.declared.journal.Node.TheVariants.{Server, Client}
use Rattle.dso_base.specs.declared.journal.Sent.{Sent}
use Rattle.dso_base.specs.declared.journal.Sent.TheVariants.{ToServer, ToClient}
use Rattle.dso_base.specs.declared.lock.ThreadId.{ThreadId}
use Rattle.dso_base.specs.declared.request.Event.{Event}
use Rattle.dso_base.specs.declared.request.Request.{Request}
use Rattle.dso_law.specs.Settings.{Settings}
use Rattle.dso_legal.specs.Slots.{Slot, Acts, TakesDown, Flushes, TakesUp, Loses, Breaks, is_open}

-- the client that a slot is of
abbrev pub client_of : Slot → ℕ
client_of (Acts t) = t.client
client_of (TakesDown c) = c
client_of (Flushes c) = c
client_of (TakesUp c) = c
client_of (Loses c) = c
client_of (Breaks c) = c

-- the client that what the server takes in is of
abbrev pub client_in : Input → Option ℕ
client_in (TookUp d m) = Some d
client_in (Lose d) = Some d
client_in (Break d) = Some d
client_in (Rejoin d) = Some d
client_in input = None

-- whether what the server takes in is of this client
abbrev pub is_input_of : ℕ → Input → Bool
is_input_of c input = option_map_or (eqb c) (client_in input) false

-- whether the message goes to this client
abbrev pub goes_to : ℕ → Sent → Bool
goes_to c (ToServer m) = false
goes_to c (ToClient d m) = eqb c d

-- the slots that an entry of the server with this input and these messages may open or close: what a client can take
-- that a message goes to, or that the input is of; and what the server can do with the client of the input
abbrev pub is_touched_by : Input → List Sent → Slot → Bool
is_touched_by input sent (Acts t) = false
is_touched_by input sent (TakesDown c) = is_input_of c input || list_any (goes_to c) sent
is_touched_by input sent (Flushes c) = false
is_touched_by input sent (TakesUp c) = is_input_of c input
is_touched_by input sent (Loses c) = is_input_of c input
is_touched_by input sent (Breaks c) = is_input_of c input

-- Touched: an entry of a client may open or close that client's slots alone, all but those of triggers.
abbrev pub is_touched : Node → Input → List Sent → Slot → Bool
is_touched Server input sent slot = is_touched_by input sent slot
is_touched (Client c) input sent (Loses d) = false
is_touched (Client c) input sent (Breaks d) = false
is_touched (Client c) input sent slot = eqb c (client_of slot)

-- Others stay: a slot that the entry doesn't touch is open with it exactly where it was open before.
abbrev pub OthersStay : Type 0
OthersStay = (p : Settings) (next : ThreadId → List Event → Option Request) (e : Entry) (es : List Entry) (slot : Slot)
    → is_touched e.node e.input e.sent slot ≡ false → is_open p next (e ∷ es) slot ≡ is_open p next es slot
