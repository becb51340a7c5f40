-- The entries that a client makes.
use Rattle.std.specs.Prelude.{ℕ, None, List, [], ◌∷◌, map}
use Rattle.dso_base.specs.declared.journal.Entry.{Entry}
use Rattle.dso_base.specs.declared.journal.Input.TheVariants.{Act, Flush, Rejoin, TookDown}
use Rattle.dso_base.specs.declared.journal.Node.TheVariants.{Client}
use Rattle.dso_base.specs.declared.journal.Sent.TheVariants.{ToServer}
use Rattle.dso_base.specs.declared.message.Down.{Down}
use Rattle.dso_base.specs.declared.message.Up.{Up}
use Rattle.dso_base.specs.declared.message.Up.TheVariants.{Flushed}

-- client c flushes the object
abbrev pub flush_entry : ℕ → ℕ → ℕ → Entry
flush_entry clock c o =
    record { clock = clock; node = Client c; input = Flush o; sent = ToServer (Flushed o) ∷ []; event = None }

-- client c takes the message, and sends these
abbrev pub taken_entry : ℕ → ℕ → Down → List Up → Entry
taken_entry clock c m sent =
    record { clock = clock; node = Client c; input = TookDown m; sent = map ToServer sent; event = None }

-- client c takes its connection up again
abbrev pub rejoined_entry : ℕ → ℕ → Entry
rejoined_entry clock c = record { clock = clock; node = Client c; input = Rejoin c; sent = []; event = None }

-- a thread of client c acts, and asks with this message for what it lacks
abbrev pub asked_entry : ℕ → ℕ → ℕ → Up → Entry
asked_entry clock c index m =
    record { clock = clock; node = Client c; input = Act index; sent = ToServer m ∷ []; event = None }
