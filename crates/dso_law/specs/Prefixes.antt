-- What was taken and what was sent: channels in the words of whole lists. All lists here have the first message first.
use Rattle.std.specs.Prelude.{ℕ, ◌≡◌, ◌↔◌, cond, Option, Some, None, List, [], ◌∷◌, ◌++◌}
use Rattle.dso_base.specs.declared.journal.Entry.{Entry}
use Rattle.dso_base.specs.declared.journal.Input.{Input}
use Rattle.dso_law.specs.Entries.{is_node}
use Rattle.dso_law.specs.Channels.{Direction, to_server, to_client, KeepsChannels}

-- the list with one more at its end
abbrev pub added : {M : Type 0} → M → List M → List M
added m ms = ms ++ m ∷ []

-- the list with one more at its end, if there is one
abbrev pub added_if_some : {M : Type 0} → Option M → List M → List M
added_if_some None ms = ms
added_if_some (Some m) ms = added m ms

-- the messages sent in the direction, by the entries of its sender
abbrev pub messages_sent : {M : Type 0} → Direction M → List Entry → List M
messages_sent direction [] = []
messages_sent direction (e ∷ es) = cond (is_node direction.sender e.node)
    (direction.by_sent added e.sent (messages_sent direction es)) (messages_sent direction es)

-- the messages with the one that an input takes in the direction, if it takes one
abbrev pub with_taken : {M : Type 0} → Direction M → Input → List M → List M
with_taken direction input ms = cond (direction.takes input) (added_if_some (direction.message input) ms) ms

-- the messages taken in the direction, by the entries of its receiver
abbrev pub messages_taken : {M : Type 0} → Direction M → List Entry → List M
messages_taken direction [] = []
messages_taken direction (e ∷ es) = cond (is_node direction.receiver e.node)
    (with_taken direction e.input (messages_taken direction es)) (messages_taken direction es)

-- the first list begins the second
pub record IsPrefix {M : Type 0} (ms all : List M) : Type 0 where
  pub rest : List M
  pub whole : all ≡ ms ++ rest

-- At each entry, what was taken in the direction up to and with it is a prefix of what was sent in entries before it.
abbrev pub TakenWasSent : {M : Type 0} → Direction M → List Entry → Type 0
TakenWasSent direction [] = Unit {0}
TakenWasSent direction (e ∷ es) = TakenWasSent direction es
    × IsPrefix (messages_taken direction (e ∷ es)) (messages_sent direction es)

-- Prefixes: each entry takes the first in flight exactly where at each entry, in both directions of each client, what
-- was taken is a prefix of what was sent.
abbrev pub Prefixes : Type 0
Prefixes = (es : List Entry) → KeepsChannels es
    ↔ ((c : ℕ) → TakenWasSent (to_server c) es × TakenWasSent (to_client c) es)
