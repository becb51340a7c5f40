-- The law of journals: whether a thread's slot is open, an entry of its client changes only where it touches the
-- thread. Entries stand with the newest first.
use Rattle.std.specs.Prelude.{◌≡◌, false, Option, List, ◌∷◌}
use Rattle.dso_base.specs.declared.journal.Entry.{Entry}
use Rattle.dso_base.specs.declared.journal.Node.TheVariants.{Client}
use Rattle.dso_base.specs.declared.lock.ThreadId.{ThreadId}
use Rattle.dso_base.specs.declared.request.Event.{Event}
use Rattle.dso_base.specs.declared.request.Request.{Request}
use Rattle.dso_law.specs.Settings.{Settings}
use Rattle.dso_law.specs.Entries.{entries_of}
use Rattle.dso_legal.specs.Lawful.{next_after}
use Rattle.dso_legal.specs.Slots.{Acts, is_open}
use Rattle.dso_open_law.specs.TouchedThreads.{touches_thread}

-- Other threads stay: whatever the journal and the program are, the slot of a thread that an entry of its client
-- doesn't touch is open with the entry exactly where it was open before.
abbrev pub OtherThreadsStay : Type 0
OtherThreadsStay = (p : Settings) (next : ThreadId → List Event → Option Request) (e : Entry) (es : List Entry)
    (t : ThreadId) → e.node ≡ Client t.client
    → touches_thread (next_after next es) (next_after next (e ∷ es)) (entries_of (Client t.client) es) e t
    (next_after next es t) ≡ false
    → is_open p next (e ∷ es) (Acts t) ≡ is_open p next es (Acts t)
