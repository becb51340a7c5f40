-- Which entries tell that a thread ended by a fault, and which that a client was lost.
use Rattle.std.specs.List.{list_any}
use Rattle.std.specs.Prelude.{ℕ, Bool, false, not, ◌&&◌, Option, Some, None, List}
use Rattle.dso_base.specs.declared.journal.Entry.{Entry}
use Rattle.dso_base.specs.declared.journal.Node.TheVariants.{Server, Client}
use Rattle.dso_base.specs.declared.lock.ThreadId.{ThreadId}
use Rattle.dso_base.specs.declared.request.Event.{Event}
use Rattle.dso_law.specs.Entries.{entries_of, is_node}
use Rattle.dso_law.specs.ServerReadings.{is_lost, loses}
use Rattle.dso_plain.specs.History.{is_act_of}
use Rattle.dso_run.specs.RunEnds.{is_failure}

-- whether an event is one of the thread and ends it by a fault
abbrev pub is_failure_of : ThreadId → Option Event → Bool
is_failure_of t None = false
is_failure_of t (Some event) = is_act_of t event && is_failure event

-- whether an entry of the thread's client has such an event
abbrev pub fails : ThreadId → Entry → Bool
fails t e = is_node (Client t.client) e.node && is_failure_of t e.event

-- whether the entry's event, if it has one, ends its thread by a fault
abbrev pub is_fault : Option Event → Bool
is_fault None = false
is_fault (Some event) = is_failure event

-- whether the thread ends by a fault with the entry, and its client isn't lost by these entries
abbrev pub fails_kept : List Entry → Entry → ThreadId → Bool
fails_kept es e t = fails t e && not (is_lost t.client (entries_of Server es))

-- whether one of these threads does
abbrev pub tells_fault : List ThreadId → List Entry → Entry → Bool
tells_fault threads es e = list_any (fails_kept es e) threads

-- whether the server lost the client by the entry
abbrev pub is_loss : ℕ → Entry → Bool
is_loss c e = is_node Server e.node && loses c e.input
