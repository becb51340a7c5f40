-- The entries of a node, and what an entry does to a reading. Entries stand with the NEWEST FIRST in all that follows,
-- so that one more entry is one more clause.
use Rattle.std.specs.Prelude.{ℕ, Bool, true, false, cond, eqb, Option, Some, None, List, [], ◌∷◌, ◌++◌, reverse, fold}
use Rattle.dso_base.specs.declared.journal.Entry.{Entry}
use Rattle.dso_base.specs.declared.journal.Input.{Input}
use Rattle.dso_base.specs.declared.journal.Input.TheVariants.{TookUp, TookDown}
use Rattle.dso_base.specs.declared.journal.Journal.{Journal}
use Rattle.dso_base.specs.declared.journal.Node.{Node}
use Rattle.dso_base.specs.declared.journal.Node.TheVariants.{Server, Client}
use Rattle.dso_base.specs.declared.journal.Sent.{Sent}
use Rattle.dso_base.specs.declared.journal.Sent.TheVariants.{ToServer, ToClient}
use Rattle.dso_base.specs.declared.lock.ThreadId.{ThreadId}
use Rattle.dso_base.specs.declared.message.Down.{Down}
use Rattle.dso_base.specs.declared.message.Up.{Up}
use Rattle.dso_base.specs.declared.request.Event.{Event}
use Rattle.dso_plain.specs.History.{is_act_of}

-- the entries of a journal, the newest first
abbrev pub newest_first : Journal → List Entry
newest_first journal = reverse journal.entries

-- whether the two nodes are one
abbrev pub is_node : Node → Node → Bool
is_node Server Server = true
is_node (Client c) (Client d) = eqb c d
is_node node other = false

-- the entries of a node, in their order
abbrev pub entries_of : Node → List Entry → List Entry
entries_of node [] = []
entries_of node (e ∷ es) = cond (is_node node e.node) (e ∷ entries_of node es) (entries_of node es)

-- the entry without what it sends: what its node knows as it decides what to send
abbrev pub unsent : Entry → Entry
unsent e = record e { sent = [] }

-- A reading of entries goes entry by entry, and by the parts of each: its message taken first, then its event, then its
-- messages sent in their order. What each part does to the reading is a step.

-- the reading after the message that a client takes, if the input is one
abbrev pub by_taken_down : {S : Type 0} → (Down → S → S) → Input → S → S
by_taken_down step (TookDown m) s = step m s
by_taken_down step input s = s

-- the reading after the message that the server takes of a client, if the input is one
abbrev pub by_taken_up : {S : Type 0} → (ℕ → Up → S → S) → Input → S → S
by_taken_up step (TookUp c m) s = step c m s
by_taken_up step input s = s

-- the reading after the event, if there is one
abbrev pub by_event : {S : Type 0} → (Event → S → S) → Option Event → S → S
by_event step None s = s
by_event step (Some event) s = step event s

-- the reading after one message sent, if it goes to the server
abbrev pub one_sent_up : {S : Type 0} → (Up → S → S) → S → Sent → S
one_sent_up step s (ToServer m) = step m s
one_sent_up step s (ToClient c m) = s

-- the reading after the messages sent to the server, in their order
abbrev pub by_sent_up : {S : Type 0} → (Up → S → S) → List Sent → S → S
by_sent_up step sent s = fold (one_sent_up step) s sent

-- the reading after one message sent, if it goes to a client
abbrev pub one_sent_down : {S : Type 0} → (ℕ → Down → S → S) → S → Sent → S
one_sent_down step s (ToServer m) = s
one_sent_down step s (ToClient c m) = step c m s

-- the step for a message of one client or to it: that of another client leaves the reading as it is
abbrev pub if_to : {M S : Type 0} → ℕ → (M → S → S) → ℕ → M → S → S
if_to c step d m s = cond (eqb c d) (step m s) s

-- the reading after the messages sent to clients, in their order
abbrev pub by_sent_down : {S : Type 0} → (ℕ → Down → S → S) → List Sent → S → S
by_sent_down step sent s = fold (one_sent_down step) s sent

-- the thread's events with the event at their end, if it is an act of the thread
abbrev pub add_event : ThreadId → Event → List Event → List Event
add_event t event events = cond (is_act_of t event) (events ++ event ∷ []) events

-- the thread's events in a client's entries, the first of them first
abbrev pub events_in : ThreadId → List Entry → List Event
events_in t [] = []
events_in t (e ∷ es) = by_event (add_event t) e.event (events_in t es)
