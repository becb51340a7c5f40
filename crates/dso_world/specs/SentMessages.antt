-- What the messages that an entry sends make of the connections.
use Rattle.std.specs.Prelude.{ℕ, suc, cond, eqb, max, List, [], ◌∷◌, map}
use Rattle.dso_base.specs.declared.journal.Entry.{Entry}
use Rattle.dso_base.specs.declared.journal.Node.TheVariants as node
use Rattle.dso_base.specs.declared.journal.Sent.TheVariants.{ToServer}
use Rattle.dso_base.specs.declared.message.Down.{Down}
use Rattle.dso_base.specs.declared.message.Up.{Up}
use Rattle.dso_server.specs.Sending.{sent_of}
use Rattle.dso_base.specs.declared.both.Both.{Both}
use Rattle.dso_base.specs.declared.both.Both.TheVariants as both
use Rattle.dso_world.specs.declared.entry_draft.EntryDraft.{EntryDraft}
use Rattle.dso_world.specs.declared.client_node.ClientNode.{ClientNode}
use Rattle.dso_world.specs.Link.{Line, sent_down, sent_up}

-- the client sends these messages, in their order
abbrev pub all_sent_up : ℕ → List Up → Line Both → Line Both
all_sent_up clock [] line = line
all_sent_up clock (m ∷ messages) line = all_sent_up clock messages (sent_up (both.Up m) clock line)

-- the server sends client c those of these messages that are for it, in their order
abbrev pub all_sent_down : ℕ → ℕ → List (ℕ × Down) → Line Both → Line Both
all_sent_down c clock [] line = line
all_sent_down c clock (m ∷ messages) line =
    all_sent_down c clock messages (cond (eqb c m.0) (sent_down (both.Down m.1) clock line) line)

-- the clock of an entry: 1 more than the greater of the last one's and of the one that was heard
abbrev pub clock_after : ℕ → ℕ → ℕ
clock_after last heard = suc (max last heard)

-- the entry that client c makes of this, with these messages
abbrev pub client_entry : ℕ → ℕ → EntryDraft → List Up → Entry
client_entry c last made messages = record {
  clock = clock_after last made.heard;
  node = node.Client c;
  input = made.input;
  sent = map ToServer messages;
  event = made.event;
}

-- the client once it made that entry
abbrev pub after_saying : EntryDraft → List Up → ClientNode → ClientNode
after_saying made messages client_node = record client_node {
  link = all_sent_up (clock_after client_node.clock made.heard) messages client_node.link;
  clock = clock_after client_node.clock made.heard;
}

-- the entry that the server makes of this, with these messages
abbrev pub server_entry : ℕ → EntryDraft → List (ℕ × Down) → Entry
server_entry last made messages = record {
  clock = clock_after last made.heard;
  node = node.Server;
  input = made.input;
  sent = sent_of messages;
  event = made.event;
}

-- client c once the server sent these
abbrev pub after_hearing : ℕ → ℕ → List (ℕ × Down) → ClientNode → ClientNode
after_hearing c clock messages client_node = record client_node {
  link = all_sent_down c clock messages client_node.link;
}
