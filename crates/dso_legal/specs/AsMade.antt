-- The history as its threads made it: the committed one, but that each notification has just the thread that it woke at
-- its client.
use Rattle.std.specs.Prelude.{cond, List, [], ◌∷◌, ◌++◌}
use Rattle.dso_base.specs.declared.journal.Entry.{Entry}
use Rattle.dso_base.specs.declared.journal.Input.{Input}
use Rattle.dso_base.specs.declared.journal.Input.TheVariants as input
use Rattle.dso_base.specs.declared.journal.Node.{Node}
use Rattle.dso_base.specs.declared.journal.Node.TheVariants.{Server, Client}
use Rattle.dso_base.specs.declared.message.Up.TheVariants as up
use Rattle.dso_base.specs.declared.request.Event.{Event}
use Rattle.dso_base.specs.declared.request.Event.TheVariants.{Lost}
use Rattle.dso_law.specs.Entries.{entries_of}
use Rattle.dso_law.specs.ServerReadings.{is_lost}
use Rattle.dso_legal.specs.Committed.{ended_blocks, block_numbered}

-- what an entry of the server gives: a record of a client that isn't lost its block as it was made, a loss its event
abbrev pub made_by : Input → List Entry → List Event
made_by (input.TookUp c (up.Commit txn)) es = cond (is_lost c (entries_of Server es)) []
    (block_numbered txn.seq (ended_blocks (entries_of (Client c) es)))
made_by (input.Lose c) es = Lost c ∷ []
made_by other es = []

-- an entry of a client gives nothing
abbrev pub made_at : Node → Input → List Entry → List Event
made_at Server input es = made_by input es
made_at (Client c) input es = []

-- The history as made: for each entry of the server in order what it gives so.
abbrev pub as_made : List Entry → List Event
as_made [] = []
as_made (e ∷ es) = as_made es ++ made_at e.node e.input es
