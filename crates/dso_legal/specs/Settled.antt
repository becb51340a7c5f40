-- Releases are synchronous: what a thread ended before it settled is committed, whatever client is lost later.
use Rattle.std.specs.Prelude.{◌≡◌, Option, Some, List, ◌∷◌, ◌++◌}
use Rattle.dso_base.specs.declared.journal.Entry.{Entry}
use Rattle.dso_base.specs.declared.journal.Node.TheVariants.{Client}
use Rattle.dso_base.specs.declared.lock.ThreadId.{ThreadId}
use Rattle.dso_base.specs.declared.request.Event.{Event}
use Rattle.dso_base.specs.declared.request.Event.TheVariants.{Act}
use Rattle.dso_base.specs.declared.request.Reply.{Reply}
use Rattle.dso_base.specs.declared.request.Request.{Request}
use Rattle.dso_base.specs.declared.request.Request.TheVariants.{Settle}
use Rattle.dso_plain.specs.History.{events_of}
use Rattle.dso_law.specs.Entries.{entries_of}
use Rattle.dso_law.specs.Prefixes.{IsPrefix}
use Rattle.dso_law.specs.Settings.{Settings}
use Rattle.dso_legal.specs.Committed.{ended_blocks, committed}
use Rattle.dso_legal.specs.Lawful.{AllFollow}
use Rattle.dso_legal.specs.PendingBlocks.{joined}
use Rattle.dso_legal.specs.Resolved.{AreResolved}

-- The history has, of the thread, all blocks that it ended by these entries of its client: its events in the history
-- begin with theirs, each notification that left the choice to the server with whom it chose.
pub record HasEndings (t : ThreadId) (own : List Entry) (history : List Event) : Type 0 where
  pub first : List Event
  pub begins : IsPrefix first (events_of t history)
  pub resolved : AreResolved (events_of t (joined (ended_blocks own))) first

-- Settled is committed: of entries each of which follows those before it, where one is a thread's Settle, the history
-- of all of them has each block that the thread ended before it. So it is of every program, with losses at any place.
abbrev pub SettledAreCommitted : Type 0
SettledAreCommitted = (p : Settings) (next : ThreadId → List Event → Option Request) (later : List Entry) (e : Entry)
    (es : List Entry) → AllFollow p next (later ++ e ∷ es)
    → (t : ThreadId) (reply : Reply) (woken : Option ThreadId) → e.node ≡ Client t.client
    → e.event ≡ Some (Act t Settle reply woken)
    → HasEndings t (entries_of (Client t.client) es) (committed (later ++ e ∷ es))
