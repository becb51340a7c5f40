-- Waiters are tokens: where a thread stands among the waiters of a lock, as its client and the server both tell by the
-- messages between them.
use Rattle.std.specs.List.{list_any}
use Rattle.std.specs.Prelude.{ℕ, ◌≡◌, ◌≢◌, ◌↔◌, true, false, cond, ◌&&◌, Option, List, [], ◌∷◌}
use Rattle.dso_base.specs.declared.journal.Entry.{Entry}
use Rattle.dso_base.specs.declared.journal.Node.TheVariants.{Server, Client}
use Rattle.dso_base.specs.declared.lock.LockName.{LockName}
use Rattle.dso_base.specs.declared.lock.ThreadId.{ThreadId}
use Rattle.dso_base.specs.declared.message.Down.{Down}
use Rattle.dso_base.specs.declared.message.Down.TheVariants as down
use Rattle.dso_base.specs.declared.message.Up.{Up}
use Rattle.dso_base.specs.declared.message.Up.TheVariants as up
use Rattle.dso_base.specs.declared.record.Choice.{Choice}
use Rattle.dso_base.specs.declared.record.Choice.TheVariants.{Here, There, All}
use Rattle.dso_base.specs.declared.record.Ending.{Ending}
use Rattle.dso_base.specs.declared.record.Ending.TheVariants as ending
use Rattle.dso_base.specs.declared.record.Note.{Note}
use Rattle.dso_base.specs.declared.request.Event.{Event}
use Rattle.dso_base.specs.declared.request.Request.{Request}
use Rattle.dso_base.specs.Following.{is_thread}
use Rattle.dso_plain.specs.KeyTests.{is_lock}
use Rattle.dso_law.specs.Channels.{up_in_flight, down_in_flight}
use Rattle.dso_law.specs.Entries.{entries_of, by_taken_up, by_taken_down, by_sent_up, by_sent_down, if_to}
use Rattle.dso_law.specs.ServerReadings.{counted, is_lost}
use Rattle.dso_law.specs.Settings.{Settings}
use Rattle.dso_legal.specs.Agreement.{messages, Agree}
use Rattle.dso_legal.specs.Lawful.{AllFollow}
use Rattle.dso_legal.specs.SoundProgram.{AsksSoundly}

-- Where a thread stands among the waiters of a lock: in no list, since it is awake or waits and is marked; kept in its
-- client's list; gone to the server, where it stands in the list, or on its way there or back.
pub data Place : Type 0 where
  Away : Place
  Kept : Place
  Gone : Place

-- out of its client's list
abbrev pub unkept : Place → Place
unkept Away = Away
unkept Kept = Away
unkept Gone = Gone

-- a notification takes out of the client's list whom the client chose, or all
abbrev pub place_chosen : ThreadId → Choice → Place → Place
place_chosen t (Here u) s = cond (is_thread t u) Away s
place_chosen t There s = s
place_chosen t All s = unkept s

-- a notification of another lock leaves it where it is
abbrev pub place_noted : LockName → ThreadId → Note → Place → Place
place_noted l t note s = cond (is_lock l note.lock) (place_chosen t note.choice s) s

-- after a record's notifications
abbrev pub places_noted : LockName → ThreadId → List Note → Place → Place
places_noted l t [] s = s
places_noted l t (note ∷ notes) s = places_noted l t notes (place_noted l t note s)

-- a wait stands in the client's list, a timeout leaves it
abbrev pub place_ended : LockName → ThreadId → ThreadId → Ending → Place → Place
place_ended l t u (ending.Wait k) s = cond (is_lock l k && is_thread t u) Kept s
place_ended l t u (ending.Timeout k) s = cond (is_lock l k && is_thread t u) (unkept s) s
place_ended l t u (ending.Exit k) s = s
place_ended l t u (ending.End fault) s = s

-- a return takes its threads to the server; a record does what its notifications do, and then its ending
abbrev pub place_up : LockName → ThreadId → Up → Place → Place
place_up l t (up.Return k threads) s = cond (is_lock l k && list_any (is_thread t) threads) Gone s
place_up l t (up.Commit txn) s = place_ended l t txn.thread txn.ending (places_noted l t txn.notes s)
place_up l t m s = s

-- a wake takes its thread out of the server's list
abbrev pub place_down : LockName → ThreadId → Down → Place → Place
place_down l t (down.Wake k u) s = cond (is_lock l k && is_thread t u) Away s
place_down l t m s = s

-- when each may come: whom the client chose is kept, where it leaves the choice to the server nobody is
abbrev pub MayChoose : ThreadId → Choice → Place → Type 0
MayChoose t (Here u) s = is_thread t u ≡ true → s ≡ Kept
MayChoose t There s = s ≢ Kept
MayChoose t All s = Unit {0}

-- each of a record's notifications may come
abbrev pub MayNote : LockName → ThreadId → List Note → Place → Type 0
MayNote l t [] s = Unit {0}
MayNote l t (note ∷ notes) s = (is_lock l note.lock ≡ true → MayChoose t note.choice s)
    × MayNote l t notes (place_noted l t note s)

-- whose record ends in anything but a timeout stood in no list
abbrev pub MayEnd : ThreadId → ThreadId → Ending → Place → Type 0
MayEnd t u (ending.Wait k) s = is_thread t u ≡ true → s ≡ Away
MayEnd t u (ending.Timeout k) s = Unit {0}
MayEnd t u (ending.Exit k) s = is_thread t u ≡ true → s ≡ Away
MayEnd t u (ending.End fault) s = is_thread t u ≡ true → s ≡ Away

-- a return has exactly the threads that are kept
abbrev pub MayPlaceUp : LockName → ThreadId → Up → Place → Type 0
MayPlaceUp l t (up.Return k threads) s = is_lock l k ≡ true → (list_any (is_thread t) threads ≡ true) ↔ (s ≡ Kept)
MayPlaceUp l t (up.Commit txn) s = MayNote l t txn.notes s × MayEnd t txn.thread txn.ending s
MayPlaceUp l t m s = Unit {0}

-- a wake comes to a thread that is gone to the server
abbrev pub MayPlaceDown : LockName → ThreadId → Down → Place → Type 0
MayPlaceDown l t (down.Wake k u) s = (is_lock l k && is_thread t u) ≡ true → s ≡ Gone
MayPlaceDown l t m s = Unit {0}

-- where the thread stands by its client's entries
abbrev pub place_of : LockName → ThreadId → List Entry → Place
place_of l t [] = Away
place_of l t (e ∷ es) = by_sent_up (place_up l t) e.sent (by_taken_down (place_down l t) e.input (place_of l t es))

-- and by the server's entries that count, by the messages to and from client c
abbrev pub place_with : ℕ → LockName → ThreadId → List Entry → Place
place_with c l t [] = Away
place_with c l t (e ∷ es) = by_sent_down (if_to c (place_down l t)) e.sent
    (by_taken_up (if_to c (place_up l t)) e.input (place_with c l t es))

-- The client and the server agree on the thread: each message in flight may come where it stands, and once all is taken
-- both tell the same place.
abbrev pub AgreeOnWaiter : ℕ → LockName → ThreadId → List Entry → Type 0
AgreeOnWaiter c l t es = Agree (MayPlaceUp l t) (place_up l t) (MayPlaceDown l t) (place_down l t)
    (messages (up_in_flight c es)) (messages (down_in_flight c es))
    (place_with c l t (counted (entries_of Server es))) (place_of l t (entries_of (Client c) es))

-- Waiters are tokens: after entries each of which follows those before it, of a sound program, each client that isn't
-- lost and the server agree on each of its threads, for each lock.
abbrev pub WaitersAreTokens : Type 0
WaitersAreTokens = (p : Settings) (next : ThreadId → List Event → Option Request) → AsksSoundly p.shape next
    → (es : List Entry) → AllFollow p next es
    → (l : LockName) (t : ThreadId) → is_lost t.client (entries_of Server es) ≡ false → AgreeOnWaiter t.client l t es
