-- What a client knows once it took a message, before it sends anything.
use Rattle.std.specs.Prelude.{ℕ, None, [], ◌∷◌}
use Rattle.dso_base.specs.declared.journal.Entry.{Entry}
use Rattle.dso_base.specs.declared.journal.Input.TheVariants.{TookDown}
use Rattle.dso_base.specs.declared.journal.Node.TheVariants.{Client}
use Rattle.dso_base.specs.declared.message.Down.{Down}
use Rattle.dso_client.specs.RunPoints.{RunPoint}

-- the entry in which client c takes the message, without what it sends
abbrev pub heard_entry : ℕ → ℕ → Down → Entry
heard_entry clock c m = record { clock = clock; node = Client c; input = TookDown m; sent = []; event = None }

-- the point once the message was taken
abbrev pub heard : ℕ → Down → RunPoint → RunPoint
heard clock m at = record at { entries = heard_entry clock at.client m ∷ at.entries }
