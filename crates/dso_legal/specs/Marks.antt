-- Who of the waiters is marked in the one heap: all but those kept by their clients and those in the server's lists.
use Rattle.std.specs.List.{list_any}
use Rattle.std.specs.Prelude.{◌≡◌, ◌⊎◌, ◌↔◌, Bool, true, false, cond, not, ◌&&◌, Option, Some, None, List, [], ◌∷◌}
use Rattle.dso_base.specs.declared.journal.Entry.{Entry}
use Rattle.dso_base.specs.declared.journal.Node.TheVariants.{Server}
use Rattle.dso_base.specs.declared.lock.Level.TheVariants.{Write}
use Rattle.dso_base.specs.declared.lock.LockName.{LockName}
use Rattle.dso_base.specs.declared.lock.ThreadId.{ThreadId}
use Rattle.dso_base.specs.declared.request.Event.{Event}
use Rattle.dso_base.specs.declared.request.Event.TheVariants.{Act, Lost}
use Rattle.dso_base.specs.declared.request.Reply.{Reply}
use Rattle.dso_base.specs.declared.request.Reply.TheVariants.{Done, Val}
use Rattle.dso_base.specs.declared.request.Request.{Request}
use Rattle.dso_base.specs.declared.request.Request.TheVariants.{New, Look, Get, Put, Enter, Exit, Wait, Tick, Timeout}
use Rattle.dso_base.specs.declared.request.Request.TheVariants.{Resume, Notify, NotifyAll, Print, End, Pause, Settle}
use Rattle.dso_base.specs.declared.value.Value.TheVariants as value
use Rattle.dso_base.specs.Following.{is_thread}
use Rattle.dso_plain.specs.KeyTests.{is_lock, is_place}
use Rattle.dso_plain.specs.Possible.{IsUnmarkedWaiter}
use Rattle.dso_plain.specs.State.{PlainState}
use Rattle.dso_plain.specs.History.{last_state}
use Rattle.dso_law.specs.ClientWaiters.{without}
use Rattle.dso_law.specs.Entries.{entries_of}
use Rattle.dso_law.specs.FitsUp.{AreDistinct}
use Rattle.dso_law.specs.Granting.{leased_to}
use Rattle.dso_law.specs.ServerReadings.{is_lost, counted}
use Rattle.dso_law.specs.ServerWaiters.{waiters_of}
use Rattle.dso_law.specs.Settings.{Settings}
use Rattle.dso_legal.specs.Committed.{lists_after_act, committed}
use Rattle.dso_legal.specs.Lawful.{IsLawful}
use Rattle.dso_legal.specs.Places.{Place, Away, Kept, Gone, place_with}
use Rattle.dso_legal.specs.Resolved.{WaiterLists}
use Rattle.dso_legal.specs.SoundProgram.{AsksSoundly}

-- who is kept in its client's list of each lock
abbrev pub KeptThreads : Type 0
KeptThreads = LockName → ThreadId → Bool

-- the client keeps the thread
abbrev pub is_kept : Place → Bool
is_kept Away = false
is_kept Kept = true
is_kept Gone = false

-- who is kept by a client that isn't lost, as the server tells it
abbrev pub kept_at : List Entry → KeptThreads
kept_at es l t = not (is_lost t.client (entries_of Server es))
    && is_kept (place_with t.client l t (counted (entries_of Server es)))

-- the server's list of each lock
abbrev pub lists_at : List Entry → WaiterLists
lists_at es l = waiters_of l (counted (entries_of Server es))

-- The unmarked waiters of a lock are those kept at their clients and those of the server's list, each in one of them
-- and once.
pub record MarksAreKnown (kept : KeptThreads) (lists : WaiterLists) (s : PlainState) : Type 0 where
  pub known : (l : LockName) (t : ThreadId)
      → IsUnmarkedWaiter l t s ↔ ((kept l t ≡ true) ⊎ (list_any (is_thread t) (lists l) ≡ true))
  pub apart : (l : LockName) (t : ThreadId) → kept l t ≡ true → list_any (is_thread t) (lists l) ≡ false
  pub once : (l : LockName) → AreDistinct (lists l)

-- who is kept after an act: a thread that waits comes, one that its client wakes or that times out leaves, and so do
-- all that a NotifyAll wakes
abbrev pub kept_by : ThreadId → Request → Reply → Option ThreadId → KeptThreads → KeptThreads
kept_by t (New class n) reply woken kept k u = kept k u
kept_by t (Look o) reply woken kept k u = kept k u
kept_by t (Get o f) reply woken kept k u = kept k u
kept_by t (Put o f v) reply woken kept k u = kept k u
kept_by t (Enter l level) reply woken kept k u = kept k u
kept_by t (Exit l) reply woken kept k u = kept k u
kept_by t (Wait l) Done woken kept k u = cond (is_place l t (k, u)) true (kept k u)
kept_by t (Wait l) reply woken kept k u = kept k u
kept_by t (Tick l) reply woken kept k u = kept k u
kept_by t (Timeout l) Done woken kept k u = cond (is_place l t (k, u)) false (kept k u)
kept_by t (Timeout l) reply woken kept k u = kept k u
kept_by t (Resume l) reply woken kept k u = kept k u
kept_by t (Notify l) Done (Some w) kept k u = cond (is_place l w (k, u)) false (kept k u)
kept_by t (Notify l) Done None kept k u = kept k u
kept_by t (Notify l) reply woken kept k u = kept k u
kept_by t (NotifyAll l) Done woken kept k u = cond (is_lock l k) false (kept k u)
kept_by t (NotifyAll l) reply woken kept k u = kept k u
kept_by t (Print v) reply woken kept k u = kept k u
kept_by t (End fault) reply woken kept k u = kept k u
kept_by t Pause reply woken kept k u = kept k u
kept_by t Settle reply woken kept k u = kept k u

-- the lists without the thread in that of the lock
abbrev pub lists_without : ThreadId → LockName → WaiterLists → WaiterLists
lists_without t l lists k = cond (is_lock l k) (without t (lists k)) (lists k)

-- the lists where a thread's timeout is taken: without the thread; no other act does so
abbrev pub lists_timed_out : ThreadId → Request → Reply → WaiterLists → WaiterLists
lists_timed_out t (New class n) reply lists = lists
lists_timed_out t (Look o) reply lists = lists
lists_timed_out t (Get o f) reply lists = lists
lists_timed_out t (Put o f v) reply lists = lists
lists_timed_out t (Enter l level) reply lists = lists
lists_timed_out t (Exit l) reply lists = lists
lists_timed_out t (Wait l) reply lists = lists
lists_timed_out t (Tick l) reply lists = lists
lists_timed_out t (Timeout l) Done lists = lists_without t l lists
lists_timed_out t (Timeout l) reply lists = lists
lists_timed_out t (Resume l) reply lists = lists
lists_timed_out t (Notify l) reply lists = lists
lists_timed_out t (NotifyAll l) reply lists = lists
lists_timed_out t (Print v) reply lists = lists
lists_timed_out t (End fault) reply lists = lists
lists_timed_out t Pause reply lists = lists
lists_timed_out t Settle reply lists = lists

-- who is kept after a block
abbrev pub kept_through : List Event → KeptThreads → KeptThreads
kept_through [] kept = kept
kept_through (Act t request reply woken ∷ events) kept = kept_through events (kept_by t request reply woken kept)
kept_through (Lost client ∷ events) kept = kept_through events kept

-- the lists after a block: after its notifications, and the timeout in which it ends
abbrev pub lists_through : List Event → WaiterLists → WaiterLists
lists_through [] lists = lists
lists_through (Act t request reply woken ∷ events) lists = lists_through events
    (lists_timed_out t request reply (lists_after_act request reply woken lists))
lists_through (Lost client ∷ events) lists = lists_through events lists

-- the thread is neither kept nor in the server's list of the lock
pub record IsAway (kept : KeptThreads) (lists : WaiterLists) (l : LockName) (t : ThreadId) : Type 0 where
  pub unkept : kept l t ≡ false
  pub unlisted : list_any (is_thread t) (lists l) ≡ false

-- An act may wake so, as its client made it: a done Notify one that is kept, and nobody only where none is kept, so
-- that the server chooses; a thread that is told that it was woken, or goes on, is in no list; every other act wakes
-- nobody.
abbrev pub MayWake : ThreadId → Request → Reply → Option ThreadId → KeptThreads → WaiterLists → Type 0
MayWake t (New class n) reply woken kept lists = woken ≡ None
MayWake t (Look o) reply woken kept lists = woken ≡ None
MayWake t (Get o f) reply woken kept lists = woken ≡ None
MayWake t (Put o f v) reply woken kept lists = woken ≡ None
MayWake t (Enter l level) reply woken kept lists = woken ≡ None
MayWake t (Exit l) reply woken kept lists = woken ≡ None
MayWake t (Wait l) reply woken kept lists = woken ≡ None
MayWake t (Tick l) (Val (value.Bool true)) woken kept lists = IsAway kept lists l t × (woken ≡ None)
MayWake t (Tick l) reply woken kept lists = woken ≡ None
MayWake t (Timeout l) (Val (value.Bool true)) woken kept lists = IsAway kept lists l t × (woken ≡ None)
MayWake t (Timeout l) reply woken kept lists = woken ≡ None
MayWake t (Resume l) reply woken kept lists = IsAway kept lists l t × (woken ≡ None)
MayWake t (Notify l) Done None kept lists = (u : ThreadId) → kept l u ≡ false
MayWake t (Notify l) Done (Some w) kept lists = kept l w ≡ true
MayWake t (Notify l) reply woken kept lists = woken ≡ None
MayWake t (NotifyAll l) reply woken kept lists = woken ≡ None
MayWake t (Print v) reply woken kept lists = woken ≡ None
MayWake t (End fault) reply woken kept lists = woken ≡ None
MayWake t Pause reply woken kept lists = woken ≡ None
MayWake t Settle reply woken kept lists = woken ≡ None

-- each act of a block may wake so, one after the other
abbrev pub EachMayWake : List Event → KeptThreads → WaiterLists → Type 0
EachMayWake [] kept lists = Unit {0}
EachMayWake (Act t request reply woken ∷ events) kept lists = MayWake t request reply woken kept lists
    × EachMayWake events (kept_by t request reply woken kept)
    (lists_timed_out t request reply (lists_after_act request reply woken lists))
EachMayWake (Lost client ∷ events) kept lists = ⊥

-- After the journal the marks are known in the one heap; and who is kept has a client with the lock at Write.
pub record KnowsWaiters (p : Settings) (es : List Entry) : Type 0 where
  pub marks : MarksAreKnown (kept_at es) (lists_at es) (last_state p.shape (committed es))
  pub leased : (l : LockName) (t : ThreadId) → kept_at es l t ≡ true
      → leased_to t.client l (counted (entries_of Server es)) ≡ Some Write

-- The waiters are known: so it is after a lawful journal of a sound program. The unmarked waiters of a
-- lock are those that the client with the lock at Write keeps, and those of the server's list.
abbrev pub WaitersAreKnown : Type 0
WaitersAreKnown = (p : Settings) (next : ThreadId → List Event → Option Request) → AsksSoundly p.shape next
    → (es : List Entry) → IsLawful p next es → KnowsWaiters p es
