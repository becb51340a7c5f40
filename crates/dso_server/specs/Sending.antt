-- The server's entries, and the messages that its calls answer.
use Rattle.std.specs.Prelude.{ℕ, None, List, [], map}
use Rattle.dso_base.specs.declared.journal.Entry.{Entry}
use Rattle.dso_base.specs.declared.journal.Input.TheVariants.{Break, Lose, Rejoin, TookUp}
use Rattle.dso_base.specs.declared.journal.Node.TheVariants.{Server}
use Rattle.dso_base.specs.declared.journal.Sent.{Sent}
use Rattle.dso_base.specs.declared.journal.Sent.TheVariants.{ToClient}
use Rattle.dso_base.specs.declared.message.Down.{Down}
use Rattle.dso_base.specs.declared.message.Up.{Up}

-- the messages to clients, as an entry sends them
abbrev pub sent_of : List (ℕ × Down) → List Sent
sent_of messages = map (λ m. ToClient m.0 m.1) messages

-- the server's entry in which it takes a message of the client
abbrev pub took : ℕ → ℕ → Up → List Sent → Entry
took clock c m sent = record { clock = clock; node = Server; input = TookUp c m; sent = sent; event = None }

-- the server's entry in which it loses the client
abbrev pub lost : ℕ → ℕ → List Sent → Entry
lost clock c sent = record { clock = clock; node = Server; input = Lose c; sent = sent; event = None }

-- the server's entry in which the client's connection breaks
abbrev pub broke : ℕ → ℕ → Entry
broke clock c = record { clock = clock; node = Server; input = Break c; sent = []; event = None }

-- the server's entry in which it takes the client's connection up again
abbrev pub rejoined : ℕ → ℕ → Entry
rejoined clock c = record { clock = clock; node = Server; input = Rejoin c; sent = []; event = None }
