-- Not too much is touched: in a run an act that ends no block touches no more than it does itself, a look at an object
-- no other thread, an entry only threads that ask about its lock. Entries stand with the newest first.
use Rattle.std.specs.List.{list_any}
use Rattle.std.specs.Prelude.{ℕ, ◌≡◌, Bool, true, false, Option, Some, None, List, [], ◌∷◌, ◌++◌}
use Rattle.dso_base.specs.declared.journal.Entry.{Entry}
use Rattle.dso_base.specs.declared.lock.Level.{Level}
use Rattle.dso_base.specs.declared.lock.LockName.{LockName}
use Rattle.dso_base.specs.declared.lock.ThreadId.{ThreadId}
use Rattle.dso_base.specs.declared.request.Event.{Event}
use Rattle.dso_base.specs.declared.request.Event.TheVariants.{Act}
use Rattle.dso_base.specs.declared.request.Reply.{Reply}
use Rattle.dso_base.specs.declared.request.Request.{Request}
use Rattle.dso_base.specs.declared.request.Request.TheVariants.{New, Look, Get, Put, Enter, Exit, Wait, Tick, Timeout}
use Rattle.dso_base.specs.declared.request.Request.TheVariants.{Resume, Notify, NotifyAll, Print, End, Pause, Settle}
use Rattle.dso_law.specs.Settings.{Settings}
use Rattle.dso_law.specs.Threads.{locks_of, ending_of}
use Rattle.dso_law.specs.ClientRun.{ClientRun, next_in}
use Rattle.dso_open_law.specs.TouchedThreads.{Topic, OfLock, topic, is_topic, acts, set_objects, closed_topics}
use Rattle.dso_open_law.specs.TouchedThreads.{event_topics}
use Rattle.dso_open_law.specs.TouchedThreads.{touched_topics, touches_thread}

-- the request looks, reads, writes, prints, ticks or passes a turn: it takes no id, leaves locks as they are and ends
-- no block
abbrev pub is_light : Request → Bool
is_light (New class n) = false
is_light (Look o) = true
is_light (Get o f) = true
is_light (Put o f v) = true
is_light (Enter l level) = false
is_light (Exit l) = false
is_light (Wait l) = false
is_light (Tick l) = true
is_light (Timeout l) = false
is_light (Resume l) = false
is_light (Notify l) = false
is_light (NotifyAll l) = false
is_light (Print v) = true
is_light (End fault) = false
is_light Pause = true
is_light Settle = true

-- An act that ends no block sends nothing that its event doesn't touch.
abbrev pub ActsTouchWhatTheyDo : Type 0
ActsTouchWhatTheyDo = (p : Settings) (c : ℕ) (next : ThreadId → List Event → Option Request) (e : Entry)
    (es : List Entry) (t : ThreadId) (request : Request) (reply : Reply) (woken : Option ThreadId) (about : Topic)
    → ClientRun p c next (e ∷ es) → e.event ≡ Some (Act t request reply woken)
    → ending_of (Act t request reply woken) (locks_of t es) ≡ None
    → list_any (is_topic about) (event_topics (next_in next es) (next_in next (e ∷ es)) es e.event) ≡ false
    → list_any (is_topic about) (touched_topics (next_in next es) (next_in next (e ∷ es)) es e ++ set_objects e) ≡ false

-- A light act of a thread that then closes no lease touches the thread alone.
abbrev pub LightActsTouchNone : Type 0
LightActsTouchNone = (p : Settings) (c : ℕ) (next : ThreadId → List Event → Option Request) (e : Entry)
    (es : List Entry) (t : ThreadId) (request : Request) (reply : Reply) (woken : Option ThreadId)
    → ClientRun p c next (e ∷ es) → e.event ≡ Some (Act t request reply woken) → is_light request ≡ true
    → closed_topics (next_in next es) (next_in next (e ∷ es)) es (next_in next (e ∷ es) t) ≡ []
    → (u : ThreadId) (asks : Option Request)
    → touches_thread (next_in next es) (next_in next (e ∷ es)) es e u asks ≡ acts u e.event

-- An entry of a thread that then closes no lease touches, but for the thread, only those whose next request is
-- about the lock.
abbrev pub EntriesTouchTheirLock : Type 0
EntriesTouchTheirLock = (p : Settings) (c : ℕ) (next : ThreadId → List Event → Option Request) (e : Entry)
    (es : List Entry) (t : ThreadId) (l : LockName) (level : Level) (reply : Reply) (woken : Option ThreadId)
    → ClientRun p c next (e ∷ es) → e.event ≡ Some (Act t (Enter l level) reply woken)
    → closed_topics (next_in next es) (next_in next (e ∷ es)) es (next_in next (e ∷ es) t) ≡ []
    → (u : ThreadId) (asks : Option Request) → is_topic (topic u asks) (OfLock l) ≡ false
    → touches_thread (next_in next es) (next_in next (e ∷ es)) es e u asks ≡ acts u e.event
