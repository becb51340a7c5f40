-- What is in flight between a client and the server, clocks, and connections.
use Rattle.std.specs.Prelude.{ℕ, suc, max, ◌≤◌, ◌≡◌, Bool, true, false, cond, eqb, Option, Some, None, List, [], ◌∷◌}
use Rattle.std.specs.Prelude.{◌++◌, drop}
use Rattle.dso_base.specs.declared.journal.Entry.{Entry}
use Rattle.dso_base.specs.declared.journal.Input.{Input}
use Rattle.dso_base.specs.declared.journal.Input.TheVariants.{TookUp, TookDown, Break, Rejoin}
use Rattle.dso_base.specs.declared.journal.Node.{Node}
use Rattle.dso_base.specs.declared.journal.Node.TheVariants.{Server, Client}
use Rattle.dso_base.specs.declared.journal.Sent.{Sent}
use Rattle.dso_base.specs.declared.message.Down.{Down}
use Rattle.dso_base.specs.declared.message.Up.{Up}
use Rattle.dso_law.specs.Entries.{is_node, if_to, by_sent_up, by_sent_down, entries_of}

-- a message in flight, with the clock of the entry that sent it
pub record Letter (M : Type 0) : Type 0 where
  pub message : M
  pub clock : ℕ

-- the letters with one more at the end
abbrev pub posted : {M : Type 0} → ℕ → M → List (Letter M) → List (Letter M)
posted clock m letters = letters ++ record { message = m; clock = clock } ∷ []

-- whether the server takes a message of the client
abbrev pub takes_up : ℕ → Input → Bool
takes_up c (TookUp d m) = eqb c d
takes_up c input = false

-- whether a client takes a message
abbrev pub takes_down : Input → Bool
takes_down (TookDown m) = true
takes_down input = false

-- the message that the server takes, if the input is one
abbrev pub message_to_server : Input → Option Up
message_to_server (TookUp c m) = Some m
message_to_server input = None

-- the message that a client takes, if the input is one
abbrev pub message_to_client : Input → Option Down
message_to_client (TookDown m) = Some m
message_to_client input = None

-- One direction of the messages between a client and the server: the node that sends them and the node that takes them;
-- a reading after those of an entry's messages that go this way; whether an input takes one; and the one that it takes.
pub record Direction (M : Type 0) : Type 1 where
  pub sender : Node
  pub receiver : Node
  pub by_sent : {S : Type 0} → (M → S → S) → List Sent → S → S
  pub takes : Input → Bool
  pub message : Input → Option M

-- from client c to the server
abbrev pub to_server : ℕ → Direction Up
to_server c = record {
  sender = Client c;
  receiver = Server;
  by_sent = by_sent_up;
  takes = takes_up c;
  message = message_to_server;
}

-- from the server to client c
abbrev pub to_client : ℕ → Direction Down
to_client c = record {
  sender = Server;
  receiver = Client c;
  by_sent = λ step. by_sent_down (if_to c step);
  takes = takes_down;
  message = message_to_client;
}

-- An entry of the receiver takes the first letter away, if it takes one; an entry of the sender posts what it sends.
abbrev pub in_flight_after : {M : Type 0} → Direction M → Entry → Node → List (Letter M) → List (Letter M)
in_flight_after direction e node letters = cond (is_node direction.receiver node)
    (cond (direction.takes e.input) (drop 1 letters) letters)
    (cond (is_node direction.sender node) (direction.by_sent (posted e.clock) e.sent letters) letters)

-- In flight: the letters posted in the direction that weren't taken, the first posted first.
abbrev pub in_flight : {M : Type 0} → Direction M → List Entry → List (Letter M)
in_flight direction [] = []
in_flight direction (e ∷ es) = in_flight_after direction e e.node (in_flight direction es)

-- what is in flight from client c to the server
abbrev pub up_in_flight : ℕ → List Entry → List (Letter Up)
up_in_flight c es = in_flight (to_server c) es

-- what is in flight from the server to client c
abbrev pub down_in_flight : ℕ → List Entry → List (Letter Down)
down_in_flight c es = in_flight (to_client c) es

-- the clock of the node's last entry, 0 before its first
abbrev pub last_clock : Node → List Entry → ℕ
last_clock node [] = 0
last_clock node (e ∷ es) = cond (is_node node e.node) e.clock (last_clock node es)

-- the message is that of the first letter
abbrev pub IsFirst : {M : Type 0} → M → List (Letter M) → Type 0
IsFirst m [] = ⊥
IsFirst m (letter ∷ letters) = m ≡ letter.message

-- what the server takes of a client, and what a client takes, is the first in flight
abbrev pub TakesFirst : Input → Node → List Entry → Type 0
TakesFirst (TookUp c m) Server es = IsFirst m (up_in_flight c es)
TakesFirst (TookDown m) (Client c) es = IsFirst m (down_in_flight c es)
TakesFirst input node es = Unit {0}

-- Channels: a message that an entry takes is the first in flight.
abbrev pub RespectsChannels : Entry → List Entry → Type 0
RespectsChannels e es = TakesFirst e.input e.node es

-- each entry takes the first in flight
abbrev pub KeepsChannels : List Entry → Type 0
KeepsChannels [] = Unit {0}
KeepsChannels (e ∷ es) = KeepsChannels es × RespectsChannels e es

-- the clock of the first letter, 0 where there is none
abbrev pub first_clock : {M : Type 0} → List (Letter M) → ℕ
first_clock [] = 0
first_clock (letter ∷ letters) = letter.clock

-- the clock of the entry that sent the message taken, 0 where none is taken
abbrev pub taken_clock : Input → Node → List Entry → ℕ
taken_clock (TookUp c m) Server es = first_clock (up_in_flight c es)
taken_clock (TookDown m) (Client c) es = first_clock (down_in_flight c es)
taken_clock input node es = 0

-- Clocks: an entry's clock is 1 more than the greater of the node's last clock and the clock of the entry that sent
-- the message taken, if one is taken.
abbrev pub RespectsClocks : Entry → List Entry → Type 0
RespectsClocks e es = e.clock ≡ suc (max (last_clock e.node es) (taken_clock e.input e.node es))

-- whether the entry breaks the connection of the client
abbrev pub breaks : ℕ → Input → Bool
breaks c (Break d) = eqb c d
breaks c input = false

-- whether the entry takes the connection of the client up again
abbrev pub rejoins : ℕ → Input → Bool
rejoins c (Rejoin d) = eqb c d
rejoins c input = false

-- how many of a node's entries have such an input
abbrev pub count_inputs : (Input → Bool) → List Entry → ℕ
count_inputs test [] = 0
count_inputs test (e ∷ es) = cond (test e.input) (suc (count_inputs test es)) (count_inputs test es)

-- whether the connection of the client is broken, by the server's entries: its latest break or rejoin is a break
abbrev pub is_broken : ℕ → List Entry → Bool
is_broken c [] = false
is_broken c (e ∷ es) = cond (breaks c e.input) true (cond (rejoins c e.input) false (is_broken c es))

-- A rejoin of the server comes only where the connection is broken, and a message is taken only where it is not.
abbrev pub FitsConnection : Input → List Entry → Type 0
FitsConnection (Rejoin c) server = is_broken c server ≡ true
FitsConnection (TookUp c m) server = is_broken c server ≡ false
FitsConnection input server = Unit {0}

-- Connections, over a whole journal: each client has no more rejoins than the server has breaks of it, and the server
-- has no more rejoins of it than the client has.
pub record CountsRejoins (c : ℕ) (es : List Entry) : Type 0 where
  pub at_client : count_inputs (rejoins c) (entries_of (Client c) es) ≤ count_inputs (breaks c) (entries_of Server es)
  pub at_server : count_inputs (rejoins c) (entries_of Server es) ≤ count_inputs (rejoins c) (entries_of (Client c) es)
